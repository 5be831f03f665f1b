use Rattle.std.proofs.Common.{◌≡◌, map, take}
use Rattle.interleaving_core.proofs.applying.order.Given as goal

abbrev pub invariant-loop-one : goal.invariant-loop-one
invariant-loop-one l = map (λ list. list.now) l.lists.items ≡ map (λ i. i.admitted) (take l.one-index l.given)
