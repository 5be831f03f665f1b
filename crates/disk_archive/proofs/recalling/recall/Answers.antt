use Rattle.std.proofs.Common.{rules, ◌≡◌, ◌<◌, ◌≤◌, ◌∙◌, ℕ, IfErr, length, sym, ap, subst, arith}
use Rattle.std.specs.List.{AllByRecursion, slice_set}
use Rattle.route_meaning.specs.Merged.{IsRising, part}
use Rattle.route_meaning.specs.History.{waiting}
use Rattle.sequencer.specs.Lanes.{waiting_times}
use Rattle.intake.specs.Ring.{IsRing}
use Rattle.intake.proofs.Untouched.{reads_as, reads_none, reads_then}
use Rattle.archive_pages.specs.Places.{ring_of}
use Rattle.disk_archive.proofs.Plans.{lane_at}
use Rattle.disk_archive.proofs.Recalled.{knows_more, knows_none, mirrors_known, no_fault, own_of, times_more, waits_low, waits_rise}
use Rattle.disk_archive.proofs.Reopened.{passed_on}
use Rattle.disk_archive.proofs.recalling.recall.Goals as goal

pub loop-collector-init : goal.loop-collector-init
loop-collector-init g c = record {
  marks = knows_none c.args.head.now.lanes c.in_ok-sequencer.sequencer c.args.settings.collectors c.requires.lanes c.in_ok-sequencer.ensures.marks c.in_ok-sequencer.ensures.times;
  times = λ start shown are k lane waits lt at holds. absurd (omega (arith, lt));
  same = reads_none g.P.Pages c.args.pages.now ⊥ (λ no. no);
}

pub loop-collector-preserved : goal.loop-collector-preserved
loop-collector-preserved g c =
    let i = c.loop-collector.invariant in
    let reported = c.args.head.now.lanes in
    let k = c.loop-collector.collector in
    let lane = c.lane_of-mark.result in
    let low : k < length reported = (let n = c.requires.lanes in omega (arith, n)) in
    let times = c.in_ok-know_lane.ensures.times ∙ ap (slice_set (waiting_times c.loop-collector.sequencer) k) c.deref.ensures.value in
    record {
      marks = knows_more reported c.loop-collector.sequencer c.know_lane.new.sequencer k lane c.in_ok-times.times.items i.marks c.lane_of-mark.ensures.lane c.in_ok-know_lane.ensures.marks times;
      times = λ start shown are. times_more c.args.settings reported shown c.loop-collector.sequencer c.know_lane.new.sequencer k c.in_ok-times.times.items i.marks low (i.times start shown are) times
          (λ l waits at holds. c.in_ok-times.ensures.times start shown l waits (i.same.shown start shown are) at holds);
      same = reads_as g.P.Pages c.args.pages.now c.waiting_of.new.pages _ ⊥ (reads_then g.P.Pages c.args.pages.now c.loop-collector.pages c.waiting_of.new.pages ⊥ _ i.same (λ no. no) c.waiting_of.ensures.same) (λ e. no_fault c.waiting_of.result c.in_ok-times.times c.in_ok-times.was e) (λ no. absurd no);
    }

pub returns-clause-mirrors : goal.returns-clause-mirrors
returns-clause-mirrors g c count o start shown h shows b =
    let i = c.loop-collector.invariant in
    let all = c.requires.lanes in
    let end = c.loop-collector-test.false in
    mirrors_known count c.args.settings o c.args.head.now shown h c.loop-collector.sequencer c.loop-collector.collector b (omega (arith, all, end)) i.marks (i.times start shown shows)

pub returns-in_err-times-clause-sound : goal.returns-in_err-times-clause-sound
returns-in_err-times-clause-sound g c count o start shown h shows b page is =
    let i = c.loop-collector.invariant in
    let k = c.loop-collector.collector in
    let all = c.requires.lanes in
    let reported : IfErr c.from_residual-in_err-times.result (λ e. e ≡ c.in_err-times.field-0.0) = search rules in
    let was = passed_on c.from_residual-in_err-times.result c.waiting_of.result c.in_err-times.field-0.0 page reported c.in_err-times.was is in
    let now = i.same.shown start shown shows in
    let lane = lane_at k c.args.head.now.lanes (omega (arith, all)) in
    let own = own_of count c.args.settings o c.args.head.now shown h k lane.0 b lane.1 in
    let homes = g.met.P.Pages.count c.loop-collector.pages start shown now in
    c.waiting_of.ensures.sound start shown lane.0 (part k (waiting h)) now lane.1 (subst (λ n. IsRing n (ring_of c.args.settings k lane.0)) homes own.represents_all.place) own.represents_all.since own.represents_all.holds page was

pub returns-in_err-know_lane-clause-sound : goal.returns-in_err-know_lane-clause-sound
returns-in_err-know_lane-clause-sound g c count o start shown h shows b page is =
    let i = c.loop-collector.invariant in
    let k = c.loop-collector.collector in
    let lane = c.lane_of-mark.result in
    let reported : IfErr c.from_residual-in_err-know_lane.result (λ e. e ≡ c.in_err-know_lane.field-0.0) = search rules in
    let was = passed_on c.from_residual-in_err-know_lane.result c.know_lane.result c.in_err-know_lane.field-0.0 page reported c.in_err-know_lane.was is in
    let now = i.same.shown start shown shows in
    let own = own_of count c.args.settings o c.args.head.now shown h k lane b c.lane_of-mark.ensures.lane in
    let items = c.deref.ensures.value ∙ c.in_ok-times.ensures.times start shown lane (part k (waiting h)) now c.lane_of-mark.ensures.lane own.represents_all.holds in
    let rises = subst (IsRising (λ t. t)) (sym items) (waits_rise h k own.intake b.right own.here) in
    let low = subst (λ (m : ℕ). AllByRecursion (λ t. t ≤ m) c.deref.result.now) (sym own.represents_all.mark) (subst (AllByRecursion (λ t. t ≤ own.intake.mark)) (sym items) (waits_low h k own.intake b.right own.here)) in
    c.know_lane.ensures.sound rises low page was
