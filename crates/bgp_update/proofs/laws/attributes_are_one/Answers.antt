use Rattle.bgp_update.proofs.api.OneReading.{attributes_one}
use Rattle.bgp_update.proofs.laws.attributes_are_one.Goals as goal

pub returns : goal.returns
returns c = record { one = attributes_one }
