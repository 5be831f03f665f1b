use Rattle.std.proofs.Common.{sym}
use Rattle.service.proofs.Dropping.{marked_none}
use Rattle.service.proofs.loading.present_mark.Goals as goal

pub returns-in-None : goal.returns-in-None
returns-in-None g c = record { present = λ h represented. marked_none h.intakes c.args.collector (sym (c.in-None.ensures.resume h represented)) }
