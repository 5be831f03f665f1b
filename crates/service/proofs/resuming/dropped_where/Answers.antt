use Rattle.std.proofs.Common.{sym}
use Rattle.service.proofs.Dropping.{dropped_none}
use Rattle.service.proofs.resuming.dropped_where.Goals as goal

pub returns-in-None : goal.returns-in-None
returns-in-None g c = record { dropped = λ h represented. dropped_none c.args.resume h.intakes c.args.collector (sym (c.in-None.ensures.resume h represented)) }
