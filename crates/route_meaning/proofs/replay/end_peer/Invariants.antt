use Rattle.std.proofs.Common.{◌≡◌, take, cond, None}
use Rattle.std.specs.List.{list_any}
use Rattle.std.specs.Ordering.{is_eq}
use Rattle.std.specs.BTreeMap.{get}
use Rattle.route_meaning.specs.declared.question.Spot.{Spot}
use Rattle.route_meaning.specs.inner.Replay.{spot_cmp}
use Rattle.route_meaning.proofs.replay.end_peer.Given as goal

abbrev pub invariant-loop-spot : goal.invariant-loop-spot
invariant-loop-spot l = (q : Spot) → get spot_cmp l.table q ≡ cond (list_any (λ s. is_eq (spot_cmp s q)) (take l.spot-index l.spot-items)) None (get spot_cmp l.initial.table q)
