use Rattle.std.proofs.Common.{string_bytes}
use Rattle.service.proofs.Answered.{replied, unreplied}
use Rattle.service.proofs.replying.reply.Goals as goal

pub returns-clause-answered : goal.returns-clause-answered
returns-clause-answered g c = λ h represented. replied h c.args.line.now c.in-Ok.request c.reply_to.result string_bytes c.in-Ok.ensures.found (c.reply_to.ensures.replied h represented)

pub returns-clause-refused : goal.returns-clause-refused
returns-clause-refused g c = λ h represented. unreplied h c.args.line.now c.in-Ok.request c.reply_to.result c.in-Ok.ensures.found (c.reply_to.ensures.refused h represented)
