use Rattle.std.proofs.Common.{refl}
use Rattle.archive_uses.proofs.calls.start.Goals as goal

pub returns-clause-leads : goal.returns-clause-leads
returns-clause-leads g c hand = record { cursor = c.start.result; gathered = c.start.ensures.gathered; after = refl }
