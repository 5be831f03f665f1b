use Rattle.tsb_node.proofs.ViewLaws.{entries-octets}
use Rattle.tsb_node.proofs.laws.entries_have_their_octets.Goals as goal

pub returns : goal.returns
returns c = record { sizes = entries-octets }
