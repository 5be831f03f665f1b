use Rattle.std.proofs.Common.{◌∙◌}
use Rattle.uses_tests.proofs.Crashing.{none_at_first}
use Rattle.uses_tests.proofs.disks.blank.Goals as goal

pub returns : goal.returns
returns c = record { none = λ left now. none_at_first _ _ left (c.stop_at.ensures.calls ∙ c.new-erase.ensures.calls) now }
