use Rattle.std.proofs.Common.{List, Bor}
use Rattle.route_model.specs.Admission.{Admitted}
use Rattle.route_meaning.proofs.Placing.{all_placed_more}
use Rattle.route_meaning.proofs.placed.place_all.Goals as goal

pub loop-collector-preserved : goal.loop-collector-preserved
loop-collector-preserved c =
    all_placed_more (λ (list : Bor (List Admitted)). list.now) c.args.lists.now c.loop-collector.collector c.index-lists-collector.result c.loop-collector-test.true c.index-lists-collector.is _ _ c.loop-collector.invariant c.in_ok-place.ensures
