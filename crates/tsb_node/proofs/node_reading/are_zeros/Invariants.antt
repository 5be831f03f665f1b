use Rattle.std.proofs.Common.{◌≡◌, All, take}
use Rattle.tsb_node.proofs.node_reading.are_zeros.Given as goal

abbrev pub invariant-loop-octet : goal.invariant-loop-octet
invariant-loop-octet l = (l.seen ≡ 0 → All (λ octet. octet ≡ 0) (take l.octet-index l.octets)) × (All (λ octet. octet ≡ 0) l.octets → l.seen ≡ 0)
