use Rattle.bgp_update.proofs.api.Reported.{message_one}
use Rattle.bgp_update.proofs.laws.messages_are_one.Goals as goal

pub returns : goal.returns
returns c = record { one = message_one }
