use Rattle.std.proofs.Common.{arith}
use Rattle.tsb_node.proofs.writing.each_octet.Goals as goal

pub returns : goal.returns
returns c = λ i. omega (arith, c.type_inv.octets i)
