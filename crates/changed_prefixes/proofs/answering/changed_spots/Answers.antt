use Rattle.changed_prefixes.specs.inner.Gathered.{AreAllChanged}
use Rattle.changed_prefixes.proofs.Ordered.{all_changed, each_ok}
use Rattle.changed_prefixes.proofs.answering.changed_spots.Goals as goal

pub returns : goal.returns
returns c =
    each_ok (λ v. v.items) (AreAllChanged c.args.list.now c.args.question.now) _ c.spots_in.result
    (all_changed c.args.list.now c.args.question.now c.in_ok-table.table c.spots_in.ensures.order c.in_ok-table.ensures) c.spots_in.ensures.spots
