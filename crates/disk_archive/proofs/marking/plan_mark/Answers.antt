use Rattle.std.proofs.Common.{◌≡◌, ◌<◌, ◌≤◌, ◌∙◌, length, sym, ap, subst, arith, length-set}
use Rattle.route_model.specs.Moments.{last_mark}
use Rattle.archive_head.specs.Head.{Contents}
use Rattle.archive_pages.specs.Batches.{HasLane}
use Rattle.archive_pages.specs.Changes.{with_lane}
use Rattle.disk_archive.proofs.Plans.{lane_at}
use Rattle.disk_archive.proofs.Marks.{mark_planned, only_memory}
use Rattle.disk_archive.proofs.marking.plan_mark.Goals as goal

pub put_head-requires-clause-few : goal.put_head-requires-clause-few
put_head-requires-clause-few g c =
    let copy = c.in_ok-next.ensures.copy in
    let low : c.args.collector < length c.in_ok-next.next.lanes = subst (λ (x : Contents). c.args.collector < length x.lanes) (sym copy) c.requires.collector in
    let lane = lane_at c.args.collector _ low in
    let e = c.mark_head.ensures.head lane.0 lane.1 in
    let n : length c.mark_head.new.head.lanes ≡ length c.args.head.now.lanes = ap (λ (x : Contents). length x.lanes) e ∙ (length-set _ c.args.collector (record lane.0 { mark = c.args.mark }) ∙ ap (λ (x : Contents). length x.lanes) copy) in
    let few = c.requires.lanes in
    omega (arith, n, few)

pub of_head-requires : goal.of_head-requires
of_head-requires g c = record { memory = only_memory _ _ c.requires.none c.in-Err.ensures.refused }

pub returns-clause-lanes : goal.returns-clause-lanes
returns-clause-lanes g c =
    let copy = c.in_ok-next.ensures.copy in
    let low : c.args.collector < length c.in_ok-next.next.lanes = subst (λ (x : Contents). c.args.collector < length x.lanes) (sym copy) c.requires.collector in
    let lane = lane_at c.args.collector _ low in
    let e = c.mark_head.ensures.head lane.0 lane.1 in
    ap (λ (x : Contents). length x.lanes) e ∙ (length-set _ c.args.collector (record lane.0 { mark = c.args.mark }) ∙ ap (λ (x : Contents). length x.lanes) copy)

pub returns-clause-block : goal.returns-clause-block
returns-clause-block g c =
    let copy = c.in_ok-next.ensures.copy in
    let low : c.args.collector < length c.in_ok-next.next.lanes = subst (λ (x : Contents). c.args.collector < length x.lanes) (sym copy) c.requires.collector in
    let lane = lane_at c.args.collector _ low in
    ap (λ (x : Contents). x.block) (c.mark_head.ensures.head lane.0 lane.1) ∙ ap (λ (x : Contents). x.block) copy

pub returns-clause-planned : goal.returns-clause-planned
returns-clause-planned g c settings count o start shown h shows b below =
    let copy = c.in_ok-next.ensures.copy in
    let lane = lane_at c.args.collector c.args.head.now.lanes c.requires.collector in
    let at = subst (λ (x : Contents). HasLane x c.args.collector lane.0) (sym copy) lane.1 in
    let e = c.mark_head.ensures.head lane.0 at in
    let n = g.met.P.Pages.count c.args.pages.now start shown shows in
    let some = c.requires.some in
    mark_planned count settings o (g.P.Pages.shows c.args.pages.now start) (g.P.Pages.shows c.put_head.new.pages start) c.args.head.now c.mark_head.new.head shown h c.args.collector c.args.mark lane.0 b lane.1 below
    (subst (λ n. n ≤ last_mark) c.number-range.ensures.number c.number-range.ensures.in_range)
    (e ∙ ap (λ (x : Contents). with_lane x c.args.collector (record lane.0 { mark = c.args.mark })) copy)
    c.put_head.ensures.valid (omega (arith, n, some)) (c.in_default.ensures.written start shown shows)
