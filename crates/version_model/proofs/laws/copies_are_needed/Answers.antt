use Rattle.version_model.proofs.api.Needed.{copy_needed}
use Rattle.version_model.proofs.laws.copies_are_needed.Goals as goal

pub returns : goal.returns
returns c = record { needed = λ all leaf r at v rising rising_leaf in_time right k is some. copy_needed all leaf r at rising rising_leaf in_time right v k is some }
