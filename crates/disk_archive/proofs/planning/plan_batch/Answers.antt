use Rattle.std.proofs.Common.{rules, Err, ◌≡◌, ◌<◌, ◌∙◌, ℕ, length, sym, ap, subst, arith, length-set, slice_get}
use Rattle.archive_head.specs.Head.{Contents}
use Rattle.intake.specs.Calls.{AppendRefusal}
use Rattle.archive_pages.specs.Batches.{CanTake, HasLane, lane_with}
use Rattle.archive_pages.specs.Changes.{with_lane}
use Rattle.archive_pages.specs.Refusals.{HeadRefusal}
use Rattle.disk_archive.proofs.Limiting.{can_take}
use Rattle.disk_archive.proofs.Plans.{lane_at, set_there, given_shown, plan_done}
use Rattle.disk_archive.proofs.Faults.{keeps_none, keeps_then, keeps_reported}
use Rattle.disk_archive.proofs.planning.plan_batch.Goals as goal

pub of_intake-requires-clause-free : goal.of_intake-requires-clause-free
of_intake-requires-clause-free g c e =
    let copy = c.in_ok-next.ensures.copy in
    let lane = lane_at c.args.collector c.args.head.now.lanes c.requires.collector in
    let at = subst (λ (x : Contents). HasLane x c.args.collector lane.0) (sym copy) lane.1 in
    let ring = (c.can_give.ensures.fits (cc c.if-not-can_give.false) lane.0 at).ring in
    let used = ring.used in
    let free = c.requires.free lane.0 lane.1 in
    let full = (c.give.ensures.full lane.0 at).0 (c.in-Err.is ∙ ap (λ x. Err x) e) in
    absurd (omega (arith, used, free, full))

pub returns-in-Err-clause-refused : goal.returns-in-Err-clause-refused
returns-in-Err-clause-refused g c = c.of_intake.ensures.refused _ (λ e. subst (AppendRefusal _ _ _ _) e c.in-Err.ensures.refused) (λ e. subst (AppendRefusal _ _ _ _) e c.in-Err.ensures.refused)

pub put_head-requires-clause-few : goal.put_head-requires-clause-few
put_head-requires-clause-few g c =
    let copy = c.in_ok-next.ensures.copy in
    let low : c.args.collector < length c.in_ok-next.next.lanes = subst (λ (x : Contents). c.args.collector < length x.lanes) (sym copy) c.requires.collector in
    let lane = lane_at c.args.collector _ low in
    let e = c.in_default.ensures.head lane.0 lane.1 in
    let n : length c.give.new.head.lanes ≡ length c.args.head.now.lanes = ap (λ (x : Contents). length x.lanes) e ∙ (length-set _ c.args.collector (lane_with lane.0 c.args.batch.now) ∙ ap (λ (x : Contents). length x.lanes) copy) in
    let few = c.requires.lanes in
    omega (arith, n, few)

pub returns-clause-lanes : goal.returns-clause-lanes
returns-clause-lanes g c =
    let copy = c.in_ok-next.ensures.copy in
    let low : c.args.collector < length c.in_ok-next.next.lanes = subst (λ (x : Contents). c.args.collector < length x.lanes) (sym copy) c.requires.collector in
    let lane = lane_at c.args.collector _ low in
    let e = c.in_default.ensures.head lane.0 lane.1 in
    ap (λ (x : Contents). length x.lanes) e ∙ (length-set _ c.args.collector (lane_with lane.0 c.args.batch.now) ∙ ap (λ (x : Contents). length x.lanes) copy)

pub returns-clause-lane : goal.returns-clause-lane
returns-clause-lane g c lane at =
    let copy = c.in_ok-next.ensures.copy in
    let here = subst (λ (x : Contents). HasLane x c.args.collector lane) (sym copy) at in
    let e = c.in_default.ensures.head lane here in
    ap (λ (x : Contents). slice_get x.lanes c.args.collector) e ∙ set_there c.in_ok-next.next.lanes c.args.collector lane (lane_with lane c.args.batch.now) here

pub returns-in-Err-put_head-clause-shown : goal.returns-in-Err-put_head-clause-shown
returns-in-Err-put_head-clause-shown g c count o start shown h shows b =
    let copy = c.in_ok-next.ensures.copy in
    let lane = lane_at c.args.collector c.args.head.now.lanes c.requires.collector in
    let at = subst (λ (x : Contents). HasLane x c.args.collector lane.0) (sym copy) lane.1 in
    let now = given_shown count c.args.settings o (g.P.Pages.shows c.give.new.pages start) c.args.head.now shown h c.args.collector c.args.batch.now lane.0 b lane.1
    (λ waits holds. c.in_default.ensures.gains lane.0 at start shown waits shows holds) in
    (now.0, c.in-Err-put_head.ensures.same start now.0 now.1)

pub returns-in-Err-put_head-clause-refused : goal.returns-in-Err-put_head-clause-refused
returns-in-Err-put_head-clause-refused g c = c.of_page.ensures.refused _ (λ e. absurd (subst (HeadRefusal _) e c.in-Err-put_head.ensures.refused)) (λ e. absurd (subst (HeadRefusal _) e c.in-Err-put_head.ensures.refused))

pub returns-clause-shown : goal.returns-clause-shown
returns-clause-shown g c count o start shown h shows b =
    let copy = c.in_ok-next.ensures.copy in
    let lane = lane_at c.args.collector c.args.head.now.lanes c.requires.collector in
    let at = subst (λ (x : Contents). HasLane x c.args.collector lane.0) (sym copy) lane.1 in
    let now = given_shown count c.args.settings o (g.P.Pages.shows c.give.new.pages start) c.args.head.now shown h c.args.collector c.args.batch.now lane.0 b lane.1
    (λ waits holds. c.in_default.ensures.gains lane.0 at start shown waits shows holds) in
    (_, c.in_default-put_head.ensures.written start now.0 now.1)

pub returns-clause-planned : goal.returns-clause-planned
returns-clause-planned g c count o start shown h i offered shows b here valid is =
    let copy = c.in_ok-next.ensures.copy in
    let lane = lane_at c.args.collector c.args.head.now.lanes c.requires.collector in
    let at = subst (λ (x : Contents). HasLane x c.args.collector lane.0) (sym copy) lane.1 in
    let e = c.in_default.ensures.head lane.0 at in
    plan_done count c.args.settings o (g.P.Pages.shows c.give.new.pages start) (g.P.Pages.shows c.put_head.new.pages start) c.args.head.now c.give.new.head shown h c.args.collector offered c.args.batch.now lane.0 i b valid lane.1 here is
    (λ waits holds. c.in_default.ensures.gains lane.0 at start shown waits shows holds)
    (e ∙ ap (λ (x : Contents). with_lane x c.args.collector (lane_with lane.0 c.args.batch.now)) copy)
    c.put_head.ensures.valid
    (λ pages shown. let n = g.met.P.Pages.count c.give.new.pages start pages shown in let m = c.give.ensures.homes in let some = c.requires.some in omega (arith, n, m, some))
    (λ pages shown. c.in_default-put_head.ensures.written start pages shown)

pub returns-then-not-can_give-clause-undamaged : goal.returns-then-not-can_give-clause-undamaged
returns-then-not-can_give-clause-undamaged g c count o start shown h i offered lane shows b here is at fits page reported =
    let copy = c.in_ok-next.ensures.copy in
    let there = subst (λ (x : Contents). HasLane x c.args.collector lane) (sym copy) at in
    let n = g.met.P.Pages.count c.args.pages.now start shown shows in
    let takes = can_take count c.args.settings o c.args.head.now shown h c.args.collector (g.P.Pages.homes c.args.pages.now) lane i offered c.args.batch.now b at here is n fits in
    let homes = c.home_pages.ensures in
    absurd (cc (c.can_give.ensures.only lane there (subst (λ (k : ℕ). CanTake k c.args.settings c.args.collector lane c.args.batch.now) (sym homes) takes), c.if-not-can_give.true))

pub returns-in-Err-clause-undamaged : goal.returns-in-Err-clause-undamaged
returns-in-Err-clause-undamaged g c count o start shown h i offered lane shows b here is at fits page reported = c.of_intake.ensures.undamaged page (cc reported)

pub returns-in-Err-put_head-clause-undamaged : goal.returns-in-Err-put_head-clause-undamaged
returns-in-Err-put_head-clause-undamaged g c count o start shown h i offered lane shows b here is at fits page reported = c.of_page.ensures.undamaged page (cc reported)

pub returns-clause-block : goal.returns-clause-block
returns-clause-block g c =
    let copy = c.in_ok-next.ensures.copy in
    let low : c.args.collector < length c.in_ok-next.next.lanes = subst (λ (x : Contents). c.args.collector < length x.lanes) (sym copy) c.requires.collector in
    let lane = lane_at c.args.collector _ low in
    ap (λ (x : Contents). x.block) (c.in_default.ensures.head lane.0 lane.1) ∙ ap (λ (x : Contents). x.block) copy

-- ---- how often the device failed

pub returns-in_err-next-clause-device : goal.returns-in_err-next-clause-device
returns-in_err-next-clause-device g c = keeps_none _ _ _ (λ reported. search (rules, reported))

pub returns-then-not-can_give-clause-device : goal.returns-then-not-can_give-clause-device
returns-then-not-can_give-clause-device g c = keeps_none _ _ _ (λ reported. cc)

pub returns-in-Err-clause-device : goal.returns-in-Err-clause-device
returns-in-Err-clause-device g c = keeps_reported _ _ _ _ _ _ (λ reported. ap (λ e. Err e) (c.of_intake.ensures.fault.0 (cc reported))) (λ f. ap (λ e. Err e) (c.of_intake.ensures.fault.1 (cc f))) c.in-Err.ensures.device

pub returns-in-Err-put_head-clause-device : goal.returns-in-Err-put_head-clause-device
returns-in-Err-put_head-clause-device g c = keeps_then _ _ _ _ _ _ _ (keeps_reported _ _ _ _ _ ⊥ (λ f. absurd f) (λ f. cc) c.in_default.ensures.device)
    (keeps_reported _ _ _ _ ⊥ _ (λ reported. subst (HeadRefusal _) (c.of_page.ensures.fault.0 (cc reported)) c.in-Err-put_head.ensures.refused) (λ f. absurd f) c.put_head.ensures.device)

pub returns-clause-device : goal.returns-clause-device
returns-clause-device g c = keeps_then _ _ _ _ _ _ _ (keeps_reported _ _ _ _ _ ⊥ (λ f. absurd f) (λ f. cc) c.in_default.ensures.device)
    (keeps_reported _ _ _ _ ⊥ _ (λ reported. cc) (λ f. absurd f) c.put_head.ensures.device)
