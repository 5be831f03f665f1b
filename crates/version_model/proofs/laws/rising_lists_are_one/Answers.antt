use Rattle.version_model.proofs.api.LooksShown.{rising_one}
use Rattle.version_model.proofs.laws.rising_lists_are_one.Goals as goal

pub returns : goal.returns
returns c = record { one = rising_one }
