use Rattle.std.proofs.Common.{◌≡◌, ◌∙◌, sym, ap, subst, arith, cond, None, ◌<◌, length, List}
use Rattle.std.specs.List.{list_any, filter}
use Rattle.std.specs.Ordering.{is_eq}
use Rattle.std.specs.BTreeMap.{get, keys}
use Rattle.route_meaning.specs.declared.question.Spot.{Spot}
use Rattle.route_meaning.specs.Holds.{same_peer}
use Rattle.route_meaning.specs.inner.Replay.{spot_cmp}
use Rattle.route_meaning.proofs.Replays.{one_out, peer_ends, take_whole}
use Rattle.route_meaning.proofs.replay.end_peer.Goals as goal

pub loop-spot-preserved : goal.loop-spot-preserved
loop-spot-preserved c = λ q.
    one_out c.deref-spot-items.result.now c.loop-spot.spot-index c.spot-item.result c.loop-spot-test.true c.spot-item.is q
    (get spot_cmp c.args.table.now q) (get spot_cmp c.loop-spot.table q) (get spot_cmp c.take_out.new.table q)
    (c.loop-spot.invariant q) (c.take_out.ensures q)

pub returns : goal.returns
returns c = λ q.
    c.loop-spot.invariant q
    ∙ (ap (λ (l : List Spot). cond (list_any (λ s. is_eq (spot_cmp s q)) l) None (get spot_cmp c.args.table.now q))
    (take_whole c.loop-spot.spot-index c.deref-spot-items.result.now c.loop-spot-test.false ∙ (c.deref-spot-items.ensures.value ∙ c.in_ok-spots.ensures))
    ∙ peer_ends c.args.peer.now q c.args.table.now.entries)
