use Rattle.std.proofs.Common.{◌≡◌, subst}
use Rattle.archive_head.specs.declared.lane.Lane.{Lane}
use Rattle.intake.specs.Ring.{octets_for, ListsAfter}
use Rattle.archive_pages.specs.Places.{ring_of}
use Rattle.archive_pages.proofs.giving.give.Goals as goal

pub returns-clause-set : goal.returns-clause-set
returns-clause-set g c lane here =
    let same : c.lane_of-lane.result ≡ lane = cc in
    subst (λ (l : Lane). ListsAfter (ring_of c.args.settings c.args.collector l) (octets_for c.args.batch.now.timely) (g.P.Pages.named c.args.pages.now) (g.P.Pages.named c.take.new.pages)) same c.in_ok-after.ensures.set
