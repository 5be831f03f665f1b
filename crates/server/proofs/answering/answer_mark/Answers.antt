use Rattle.std.proofs.Common.{sym, ap, subst}
use Rattle.board.specs.Past.{Past, GoesOnAs}
use Rattle.board.specs.Views.{View}
use Rattle.server.proofs.answering.answer_mark.Goals as goal

pub returns-in-Ok-clause-goes_on : goal.returns-in-Ok-clause-goes_on
returns-in-Ok-clause-goes_on g c = subst (λ (p : Past). GoesOnAs c.args.pass.now.past p) (sym (ap (λ (v : View). v.past) c.load_watermark-settled.ensures.sees.0)) c.set_mark.ensures.begins.past
