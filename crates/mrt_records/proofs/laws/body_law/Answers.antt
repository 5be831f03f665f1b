use Rattle.mrt_records.proofs.OneItem.{item_one}
use Rattle.mrt_records.proofs.SomeItem.{item_some}
use Rattle.mrt_records.proofs.laws.body_law.Goals as goal

pub returns : goal.returns
returns c = record { some = item_some; one = item_one }
