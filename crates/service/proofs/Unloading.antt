-- How a load ends.
use Rattle.std.proofs.Common.{◌≡◌, ◌∙◌, ℕ, Bool, true, false, List, [], length, Option, Some, None, Result, arith, inl, inr, refl, ap, sym, subst, ◌⊎◌, ◌↔◌, IsTrue}
use Rattle.std.specs.List.{slice_get}
use Rattle.resolve.specs.declared.without_hop.WithoutHop.{WithoutHop}
use Rattle.service.specs.Outputs.{OutputState, Reports}
use Rattle.service.proofs.Outputs.{Reports-trans, still_failed}
use Rattle.route_model.specs.Admission.{Admitted}
use Rattle.route_meaning.specs.History.{History, Intake, settled}
use Rattle.interleaving_core.specs.Steps.{changed, given, with_batch, with_mark, IsCollector, IsMarkAbove, NothingToApply}
use Rattle.service.specs.FeedLines.{settled_line}
use Rattle.resolve.specs.declared.fault.ResolveFault.{ResolveFault}
use Rattle.mrt_records.specs.Streams.{GainsFrames}
use Rattle.mrt_records.specs.Values.{Reported}
use Rattle.service.specs.Turns.{offered, admissions_of}
use Rattle.service.specs.Faults.{of_load}
use Rattle.service.specs.Feeds.{FitsFailures, IsEnd, IsFed, IsFeed, IsGivenUp, Sums, as_reported}
use Rattle.service.specs.FeedTexts.{intake_in}
use Rattle.service.specs.Doubts.{IsHeld}
use Rattle.service.specs.FileLoads.{refused_if}
use Rattle.service.specs.declared.feed_lines.FeedCounts.{FeedCounts}
use Rattle.service.specs.Loads.{IsLoaded, IsLoadEnd, IsGivenUpLoad, IsPartLoaded, IsSettled, IsUnloaded, marked_if}
use Rattle.service.specs.Refusals.{ReportsError, ReportsFailure}
use Rattle.service.specs.inner.Loading.{HasNotSettled, first_of, mark_after, status_after, reported_as}
use Rattle.archive_calls.specs.declared.refusal.Trouble.TheVariants as troubles
use Rattle.service.specs.declared.faults.FeedCut.{FeedCut}
use Rattle.service.specs.declared.faults.FeedStop.{FeedStop}
use Rattle.service.specs.declared.faults.FeedStop.TheVariants as reasons
use Rattle.service.specs.declared.faults.LoadStop.{LoadStop}
use Rattle.service.specs.declared.faults.LoadStop.TheVariants as stops
use Rattle.service.specs.declared.intake.End.{End}
use Rattle.service.specs.declared.intake.End.TheVariants as ends
use Rattle.service.specs.declared.status.Status.{Status}
use Rattle.service.specs.declared.status.Status.TheVariants as statuses
use Rattle.service.proofs.Turning.{as_many}
use Rattle.service.specs.declared.limits.BatchLimits.{BatchLimits}
use Rattle.service.specs.Represented.{Represented, HasIntakes, whatever}

-- a mark changes the same of the same intakes
marked_alike : (c : ℕ) (set : Option ℕ) (g k : History) → g.intakes ≡ k.intakes → (marked_if c set g).intakes ≡ (marked_if c set k).intakes
marked_alike c None g k alike = alike
marked_alike c (Some mark) g k alike = ap (changed c (with_mark mark)) alike

-- what settles each history that was represented settles the intakes that they have
pub settles_all : (c : ℕ) (set : Option ℕ) (k : History) (fed archive : Represented) → HasIntakes k.intakes fed → ((g : History) → fed g → IsSettled (marked_if c set g).intakes archive) → IsSettled (marked_if c set k).intakes archive
settles_all c set k fed archive w settles = subst (λ (is : List Intake). IsSettled is archive) (marked_alike c set w.now k w.are) (settles w.now w.represented)

above_alike : (c mark : ℕ) (g k : History) → g.intakes ≡ k.intakes → IsMarkAbove g c mark → IsMarkAbove k c mark
above_alike c mark g k alike above = record { intake = above.intake; here = ap (λ (is : List Intake). slice_get is c) (sym alike) ∙ above.here; above = above.above }

unsettled_alike : (c : ℕ) (set : Option ℕ) (g k : History) (archive : Represented) (why : LoadStop) → g.intakes ≡ k.intakes → HasNotSettled c set g archive why → HasNotSettled c set k archive why
unsettled_alike c set g k archive stops.NoCollector alike u = ((λ here. u.0 (let n = ap length alike in omega (arith, n, here))), subst (λ (is : List Intake). HasIntakes is archive) alike u.1)
unsettled_alike c set g k archive stops.MarkBack alike u = (u.0, u.1, above_alike c u.0 g k alike u.2, subst (λ (is : List Intake). HasIntakes is archive) alike u.3)
unsettled_alike c set g k archive (stops.Trouble trouble) alike u = (u.0, u.1, subst (λ (is : List Intake). HasIntakes is archive) (marked_alike c u.0 g k alike) u.2)

unsettles_all : (c : ℕ) (set : Option ℕ) (k : History) (fed archive : Represented) (why : LoadStop) → HasIntakes k.intakes fed → ((g : History) → fed g → HasNotSettled c set g archive why) → HasNotSettled c set k archive why
unsettles_all c set k fed archive why w un = unsettled_alike c set w.now k archive why w.are (un w.now w.represented)

-- whatever an archive represented, it represented something with these intakes
whatever_has : (intakes : List Intake) (archive : Represented) → HasIntakes intakes archive → HasIntakes intakes whatever
whatever_has intakes archive w = record { now = w.now; are = w.are; represented = tt }

fed_whatever : (rule : WithoutHop) (c dropped : ℕ) (limit : BatchLimits) (h : History) (bytes : List ℕ) (cut : Option FeedCut) (sums : Sums) (archive : Represented) (was now : OutputState) → IsFed rule c dropped limit h bytes cut sums archive was now → IsFed rule c dropped limit h bytes cut sums whatever was now
fed_whatever rule c dropped limit h bytes cut sums archive was now f =
    record { rest = f.rest; records = f.records; results = f.results; feed = f.feed; cut_is = f.cut_is; represented = whatever_has _ archive f.represented; wrote = f.wrote; summed = f.summed; there = f.there }

given_up_whatever : (rule : WithoutHop) (c dropped : ℕ) (limit : BatchLimits) (h : History) (bytes : List ℕ) (why : FeedStop) (sums : Sums) (archive : Represented) (was now : OutputState) → IsGivenUp rule c dropped limit h bytes why sums archive was now → IsGivenUp rule c dropped limit h bytes why sums whatever was now
given_up_whatever rule c dropped limit h bytes why sums archive was now g =
    record { seen = g.seen; later = g.later; parts = g.parts; records = g.records; results = g.results; feed = g.feed; made = g.made; unmade = g.unmade; turns = g.turns; represented = whatever_has _ archive g.represented; reason = g.reason; wrote = g.wrote; uncounted = g.uncounted; there = g.there }

-- what was fed is settled, with this mark or none
pub loaded : (rule : WithoutHop) (c dropped : ℕ) (limit : BatchLimits) (mark set : Option ℕ) (h : History) (bytes : List ℕ) (cut : Option FeedCut) (sums : Sums) (fed archive : Represented) (was mid now : OutputState)
    → set ≡ mark → IsFed rule c dropped limit h bytes cut sums fed was mid
    → ((g : History) → fed g → IsSettled (marked_if c set g).intakes archive)
    → ((g : History) → archive g → Reports mid now (settled_line (settled g)))
    → IsLoaded rule c dropped limit mark h bytes cut sums archive was now
loaded rule c dropped limit mark set h bytes cut sums fed archive was mid now same f settles reports =
    let stands = subst (λ (m : Option ℕ). IsSettled (marked_if c m (given h c (admissions_of f.results))).intakes archive) same (settles_all c set (given h c (admissions_of f.results)) fed archive f.represented settles) in
    record {
      rest = f.rest;
      records = f.records;
      results = f.results;
      feed = f.feed;
      cut_is = f.cut_is;
      applied = stands;
      wrote = Reports-trans was mid now _ (settled_line (settled stands.now)) f.wrote (reports stands.now stands.represented);
      summed = f.summed;
    }

there : (c : ℕ) (h : History) (batch : List Admitted) → IsCollector h c → IsCollector (given h c batch) c
there c h batch here = let n = as_many c (with_batch batch) h.intakes in omega (arith, n, here)

-- a feed of whole records has no rest
abbrev whole_feed : (rule : WithoutHop) (c dropped : ℕ) (bytes rest : List ℕ) (records : List Reported) (results : List (Result (Option Admitted) ResolveFault)) → rest ≡ [] → IsFeed rule c dropped bytes rest records results → IsFeed rule c dropped bytes [] records results
whole_feed rule c dropped bytes rest records results none f = record { items = f.items; framed = subst (λ (t : List ℕ). GainsFrames bytes t [] f.items) none f.framed; reported_are = f.reported_are; means = f.means }

-- the feed ended well, and then the load ended
unloaded_well : (rule : WithoutHop) (c dropped : ℕ) (limit : BatchLimits) (mark : Option ℕ) (h : History) (bytes : List ℕ) (sums : Sums) (lost_was lost : Bool) (fed archive : Represented) (was mid : OutputState) (why : LoadStop)
    → IsCollector h c → mid.failed ≡ false → lost ≡ lost_was → (f : IsFed rule c dropped limit h bytes None sums fed was mid) → HasNotSettled c mark (given h c (admissions_of f.results)) archive why → IsUnloaded rule c dropped limit mark h bytes sums lost_was lost archive was mid why
unfolding fed_whatever
unloaded_well rule c dropped limit mark h bytes sums lost_was lost fed archive was mid stops.NoCollector here sound unlost f u = absurd (u.0 (there c h (admissions_of f.results) here))
unloaded_well rule c dropped limit mark h bytes sums lost_was lost fed archive was mid stops.MarkBack here sound unlost f u = (
  record { lower = u.0; asked = u.1; records = f.records; results = f.results; feed = whole_feed rule c dropped bytes f.rest f.records f.results f.cut_is f.feed; above = u.2; wrote = f.wrote; summed = f.summed; represented = u.3 },
  unlost,
)
unloaded_well rule c dropped limit mark h bytes sums lost_was lost fed archive was mid (stops.Trouble trouble) here sound unlost f u = (u.0, u.1, u.2.now, u.2.represented, inl (fed_whatever rule c dropped limit h bytes None sums fed was mid f, sound, unlost, u.2.are))

unmarked : (c : ℕ) (set : Option ℕ) (k : History) → (set ≡ None) ⊎ (set ≡ None) → (marked_if c set k).intakes ≡ k.intakes
unmarked c None k none = refl
unmarked c (Some mark) k (inl none) = absurd cc
unmarked c (Some mark) k (inr none) = absurd cc

-- no mark was to be set, and then the load ended
unloaded_short : (rule : WithoutHop) (c dropped : ℕ) (limit : BatchLimits) (mark : Option ℕ) (h : History) (bytes : List ℕ) (sums : Sums) (lost_was lost : Bool) (archive : Represented) (was mid : OutputState) (gave : List Admitted) (why : LoadStop)
    → IsCollector h c → ((past : History) → past.intakes ≡ (given h c gave).intakes → IsPartLoaded rule c dropped limit None h bytes sums lost_was lost past was mid) → HasNotSettled c None (given h c gave) archive why → IsUnloaded rule c dropped limit mark h bytes sums lost_was lost archive was mid why
unloaded_short rule c dropped limit mark h bytes sums lost_was lost archive was mid gave stops.NoCollector here kept u = absurd (u.0 (there c h gave here))
unloaded_short rule c dropped limit mark h bytes sums lost_was lost archive was mid gave stops.MarkBack here kept u = let none = u.1 in absurd cc
unloaded_short rule c dropped limit mark h bytes sums lost_was lost archive was mid gave (stops.Trouble trouble) here kept u = (None, inr refl, u.2.now, u.2.represented, kept u.2.now (u.2.are ∙ unmarked c u.0 (given h c gave) u.1))

-- what the feed gave stands, without a mark
kept_without : (end : End) (rule : WithoutHop) (c dropped : ℕ) (limit : BatchLimits) (mark : Option ℕ) (h : History) (bytes : List ℕ) (sums : Sums) (lost_was lost : Bool) (fed archive : Represented) (was mid : OutputState)
    → (e : IsEnd rule c dropped limit h bytes end sums fed was mid) → (end ≡ ends.Well → mid.failed ≡ true) → FitsFailures end lost_was lost mid.failed
    → (gave : List Admitted) × HasIntakes (given h c gave).intakes fed × ((past : History) → past.intakes ≡ (given h c gave).intakes → IsPartLoaded rule c dropped limit mark h bytes sums lost_was lost past was mid)
unfolding fed_whatever given_up_whatever
kept_without ends.Well rule c dropped limit mark h bytes sums lost_was lost fed archive was mid f failed l = (admissions_of f.results, f.represented, λ past are. inr (inl (None, fed_whatever rule c dropped limit h bytes None sums fed was mid f, (λ e. failed refl), l.inside (λ e. absurd cc), are)))
kept_without ends.Cut rule c dropped limit mark h bytes sums lost_was lost fed archive was mid f failed l = (admissions_of f.1.results, f.1.represented, λ past are. inr (inl (Some f.0, fed_whatever rule c dropped limit h bytes (Some f.0) sums fed was mid f.1, (λ e. absurd cc), l.inside (λ e. absurd cc), are)))
kept_without (ends.Refused r) rule c dropped limit mark h bytes sums lost_was lost fed archive was mid g failed l = (offered g.made, g.represented, λ past are. inr (inr (r, given_up_whatever rule c dropped limit h bytes r sums fed was mid g, l, are)))

-- a load ended outside its feed
unloaded : (failed : Bool) (end : End) (rule : WithoutHop) (c dropped : ℕ) (limit : BatchLimits) (mark : Option ℕ) (h : History) (bytes : List ℕ) (sums : Sums) (lost_was lost : Bool) (fed archive : Represented) (was mid : OutputState) (why : LoadStop)
    → mid.failed ≡ failed → IsCollector h c → IsEnd rule c dropped limit h bytes end sums fed was mid → FitsFailures end lost_was lost mid.failed
    → ((g : History) → fed g → HasNotSettled c (mark_after (as_reported failed end) mark) g archive why) → IsUnloaded rule c dropped limit mark h bytes sums lost_was lost archive was mid why
unloaded true end rule c dropped limit mark h bytes sums lost_was lost fed archive was mid why failed here e l un =
    let k = kept_without end rule c dropped limit None h bytes sums lost_was lost fed archive was mid e (λ well. failed) l in
    unloaded_short rule c dropped limit mark h bytes sums lost_was lost archive was mid k.0 why here k.2 (unsettles_all c None (given h c k.0) fed archive why k.1 un)
unloaded false ends.Well rule c dropped limit mark h bytes sums lost_was lost fed archive was mid why sound here f l un =
    unloaded_well rule c dropped limit mark h bytes sums lost_was lost fed archive was mid why here sound (l.inside (λ e. absurd cc)) f (unsettles_all c mark (given h c (admissions_of f.results)) fed archive why f.represented un)
unloaded false ends.Cut rule c dropped limit mark h bytes sums lost_was lost fed archive was mid why sound here f l un =
    let k = kept_without ends.Cut rule c dropped limit None h bytes sums lost_was lost fed archive was mid f (λ e. absurd cc) l in
    unloaded_short rule c dropped limit mark h bytes sums lost_was lost archive was mid k.0 why here k.2 (unsettles_all c None (given h c k.0) fed archive why k.1 un)
unloaded false (ends.Refused r) rule c dropped limit mark h bytes sums lost_was lost fed archive was mid why sound here g l un =
    let k = kept_without (ends.Refused r) rule c dropped limit None h bytes sums lost_was lost fed archive was mid g (λ e. absurd cc) l in
    unloaded_short rule c dropped limit mark h bytes sums lost_was lost archive was mid k.0 why here k.2 (unsettles_all c None (given h c k.0) fed archive why k.1 un)

-- the refusal that a load ends with outside its feed is one for which it does
pub first_unsettled : (end : End) (why : LoadStop) (c : ℕ) (mark : Option ℕ) (h : History) (archive : Represented) → HasNotSettled c mark h archive why → HasNotSettled c mark h archive (first_of end why)
first_unsettled ends.Well why c mark h archive u = u
first_unsettled ends.Cut why c mark h archive u = u
first_unsettled (ends.Refused reasons.NoCollector) why c mark h archive u = u
first_unsettled (ends.Refused reasons.CounterFull) why c mark h archive u = u
first_unsettled (ends.Refused reasons.IntakeFull) why c mark h archive u = u
first_unsettled (ends.Refused reasons.Outside) why c mark h archive u = u
first_unsettled (ends.Refused (reasons.Trouble first)) stops.NoCollector c mark h archive u = u
first_unsettled (ends.Refused (reasons.Trouble first)) stops.MarkBack c mark h archive u = u
first_unsettled (ends.Refused (reasons.Trouble first)) (stops.Trouble troubles.Fault) c mark h archive u = u
first_unsettled (ends.Refused (reasons.Trouble first)) (stops.Trouble troubles.NeedsRecovery) c mark h archive u = u
first_unsettled (ends.Refused (reasons.Trouble first)) (stops.Trouble troubles.PagesFull) c mark h archive u = u
first_unsettled (ends.Refused (reasons.Trouble first)) (stops.Trouble troubles.OnceFull) c mark h archive u = u
first_unsettled (ends.Refused (reasons.Trouble first)) (stops.Trouble (troubles.Damaged block)) c mark h archive u = u
first_unsettled (ends.Refused (reasons.Trouble first)) (stops.Trouble (troubles.BadNode page)) c mark h archive u = u
first_unsettled (ends.Refused (reasons.Trouble first)) (stops.Trouble troubles.TooHigh) c mark h archive u = u
first_unsettled (ends.Refused (reasons.Trouble first)) (stops.Trouble troubles.CounterFull) c mark h archive u = u
first_unsettled (ends.Refused (reasons.Trouble first)) (stops.Trouble troubles.OutOfMemory) c mark h archive u = u

-- and that was reported, or it couldn't be
reported_stop : (out_failed err_failed : Bool) (result : Status) (rule : WithoutHop) (c dropped : ℕ) (limit : BatchLimits) (mark : Option ℕ) (h : History) (bytes : List ℕ) (sums : Sums) (lost_was lost : Bool) (archive : Represented) (was now err_was err_mid err_now : OutputState) (why : LoadStop)
    → now.failed ≡ out_failed → err_mid.failed ≡ err_failed → IsUnloaded rule c dropped limit mark h bytes sums lost_was lost archive was now why
    → result ≡ reported_as out_failed err_failed statuses.Refused → ReportsFailure now.failed err_mid err_now → ReportsError (of_load why) err_was err_mid
    → IsLoadEnd rule c dropped limit mark h bytes sums lost_was lost result archive was now err_was err_now
reported_stop true err_failed result rule c dropped limit mark h bytes sums lost_was lost archive was now err_was err_mid err_now why o e u is of_out reported_ =
    subst (λ (t : Status). IsLoadEnd rule c dropped limit mark h bytes sums lost_was lost t archive was now err_was err_now) (sym is) (inr (why, u, (err_mid, reported_, of_out)), inl o)
reported_stop false true result rule c dropped limit mark h bytes sums lost_was lost archive was now err_was err_mid err_now why o e u is of_out reported_ =
    subst (λ (t : Status). IsLoadEnd rule c dropped limit mark h bytes sums lost_was lost t archive was now err_was err_now) (sym is) (inr (why, u, (err_mid, reported_, of_out)), inr (still_failed now.failed true err_mid err_now o e of_out))
reported_stop false false result rule c dropped limit mark h bytes sums lost_was lost archive was now err_was err_mid err_now why o e u is of_out reported_ =
    subst (λ (t : Status). IsLoadEnd rule c dropped limit mark h bytes sums lost_was lost t archive was now err_was err_now) (sym is)
    (inr (inr (why, u, subst (λ (t : OutputState). ReportsError (of_load why) err_was t) (sym (of_out.quiet o)) reported_)), o, still_failed now.failed false err_mid err_now o e of_out)

pub load_stops : (end : End) (result : Status) (rule : WithoutHop) (c dropped : ℕ) (limit : BatchLimits) (mark : Option ℕ) (h : History) (bytes : List ℕ) (sums : Sums) (lost_was lost : Bool) (fed archive : Represented) (was now err_was err_mid err_now : OutputState) (why : LoadStop)
    → IsCollector h c → IsEnd rule c dropped limit h bytes end sums fed was now → FitsFailures end lost_was lost now.failed
    → ((g : History) → fed g → HasNotSettled c (mark_after (as_reported now.failed end) mark) g archive why)
    → result ≡ reported_as now.failed err_mid.failed statuses.Refused → ReportsFailure now.failed err_mid err_now → ReportsError (of_load why) err_was err_mid
    → IsLoadEnd rule c dropped limit mark h bytes sums lost_was lost result archive was now err_was err_now
load_stops end result rule c dropped limit mark h bytes sums lost_was lost fed archive was now err_was err_mid err_now why here e l un is of_out reported_ =
    reported_stop now.failed err_mid.failed result rule c dropped limit mark h bytes sums lost_was lost archive was now err_was err_mid err_now why refl refl
    (unloaded now.failed end rule c dropped limit mark h bytes sums lost_was lost fed archive was now why refl here e l un) is of_out reported_

-- there is no such collector
pub load_nowhere : (result : Status) (rule : WithoutHop) (c dropped : ℕ) (limit : BatchLimits) (mark : Option ℕ) (h : History) (bytes : List ℕ) (sums : Sums) (lost : Bool) (archive : Represented) (was err_was err_mid err_now : OutputState)
    → (IsCollector h c → ⊥) → archive h → sums.counts ≡ None
    → result ≡ reported_as was.failed err_mid.failed statuses.Refused → ReportsFailure was.failed err_mid err_now → ReportsError (of_load stops.NoCollector) err_was err_mid
    → IsLoadEnd rule c dropped limit mark h bytes sums lost lost result archive was was err_was err_now
load_nowhere result rule c dropped limit mark h bytes sums lost archive was err_was err_mid err_now none represented uncounted is of_out reported_ =
    reported_stop was.failed err_mid.failed result rule c dropped limit mark h bytes sums lost lost archive was was err_was err_mid err_now stops.NoCollector refl refl (none, represented, refl, refl, uncounted) is of_out reported_

-- what the feed gave is settled, where not all of it could be reported
part_loaded : (failed : Bool) (end : End) (rule : WithoutHop) (c dropped : ℕ) (limit : BatchLimits) (mark : Option ℕ) (h : History) (bytes : List ℕ) (sums : Sums) (lost_was lost : Bool) (fed archive : Represented) (was mid : OutputState)
    → mid.failed ≡ failed → IsEnd rule c dropped limit h bytes end sums fed was mid → FitsFailures end lost_was lost mid.failed
    → ((g : History) → fed g → IsSettled (marked_if c (mark_after (as_reported failed end) mark) g).intakes archive)
    → (past : History) × archive past × NothingToApply past × IsPartLoaded rule c dropped limit mark h bytes sums lost_was lost past was mid
unfolding fed_whatever settles_all
part_loaded true end rule c dropped limit mark h bytes sums lost_was lost fed archive was mid failed e l settles =
    let k = kept_without end rule c dropped limit mark h bytes sums lost_was lost fed archive was mid e (λ well. failed) l in
    let s = settles_all c None (given h c k.0) fed archive k.1 settles in
    (s.now, s.represented, s.idle, k.2 s.now s.intakes_are)
part_loaded false ends.Well rule c dropped limit mark h bytes sums lost_was lost fed archive was mid sound f l settles =
    let s = settles_all c mark (given h c (admissions_of f.results)) fed archive f.represented settles in
    (s.now, s.represented, s.idle, inl (fed_whatever rule c dropped limit h bytes None sums fed was mid f, sound, l.inside (λ e. absurd cc), s.intakes_are))
part_loaded false ends.Cut rule c dropped limit mark h bytes sums lost_was lost fed archive was mid sound f l settles =
    let k = kept_without ends.Cut rule c dropped limit mark h bytes sums lost_was lost fed archive was mid f (λ e. absurd cc) l in
    let s = settles_all c None (given h c k.0) fed archive k.1 settles in
    (s.now, s.represented, s.idle, k.2 s.now s.intakes_are)
part_loaded false (ends.Refused why) rule c dropped limit mark h bytes sums lost_was lost fed archive was mid sound g l settles =
    let k = kept_without (ends.Refused why) rule c dropped limit mark h bytes sums lost_was lost fed archive was mid g (λ e. absurd cc) l in
    let s = settles_all c None (given h c k.0) fed archive k.1 settles in
    (s.now, s.represented, s.idle, k.2 s.now s.intakes_are)

-- where the writer hasn't failed, the reader has
reader_lost : (lost : Bool) (mid : OutputState) → mid.failed ≡ false → (lost ≡ true) ⊎ (mid.failed ≡ true) → lost ≡ true
reader_lost lost mid sound (inl here) = here
reader_lost lost mid sound (inr other) = absurd cc

same_stop : (why : FeedStop) → ◌≡◌ {A = End} (ends.Refused why) (ends.Refused reasons.Outside) → why ≡ reasons.Outside
same_stop why e = cc

by_mark : (strict held : Bool) (mark : Option ℕ) (less : ℕ) (rule : WithoutHop) (c dropped : ℕ) (limit : BatchLimits) (h : History) (bytes : List ℕ) (cut : Option FeedCut) (sums : Sums) (fed : Represented) (was mid : OutputState)
    → IsFed rule c dropped limit h bytes cut sums fed was mid
    → ((g : History) → fed g → IsTrue held ↔ IsHeld strict mark sums.counts less (intake_in g.intakes c).mark) → IsTrue held ↔ IsHeld strict mark sums.counts less sums.mark
by_mark strict held mark less rule c dropped limit h bytes cut sums fed was mid f holds =
    let w = f.represented in
    subst (λ (n : ℕ). IsTrue held ↔ IsHeld strict mark sums.counts less n) (ap (λ (is : List Intake). (intake_in is c).mark) w.are ∙ sym f.summed.marks) (holds w.now w.represented)

-- whether a load is held back is weighed by the counts of its feed, by how many admissions were dropped, and by the collector's mark after it
pub weighed : (end : End) (strict held : Bool) (mark : Option ℕ) (less : ℕ) (rule : WithoutHop) (c dropped : ℕ) (limit : BatchLimits) (h : History) (bytes : List ℕ) (sums : Sums) (fed : Represented) (was mid : OutputState)
    → IsEnd rule c dropped limit h bytes end sums fed was mid
    → ((g : History) → fed g → IsTrue held ↔ IsHeld strict mark sums.counts less (intake_in g.intakes c).mark) → IsTrue held ↔ IsHeld strict mark sums.counts less sums.mark
weighed ends.Well strict held mark less rule c dropped limit h bytes sums fed was mid f holds = by_mark strict held mark less rule c dropped limit h bytes None sums fed was mid f holds
weighed ends.Cut strict held mark less rule c dropped limit h bytes sums fed was mid f holds = by_mark strict held mark less rule c dropped limit h bytes (Some f.0) sums fed was mid f.1 holds
weighed (ends.Refused why) strict held mark less rule c dropped limit h bytes sums fed was mid g holds =
    let w = g.represented in
    subst (λ (t : Option FeedCounts). IsTrue held ↔ IsHeld strict mark t less sums.mark) (sym g.uncounted)
    (subst (λ (t : Option FeedCounts). IsTrue held ↔ IsHeld strict mark t less (intake_in w.now.intakes c).mark) g.uncounted (holds w.now w.represented))

-- a load came to its end, and all was reported
whole_load : (end : End) (rule : WithoutHop) (c dropped : ℕ) (limit : BatchLimits) (mark : Option ℕ) (h : History) (bytes : List ℕ) (sums : Sums) (lost_was lost : Bool) (fed archive : Represented) (was mid now err_was : OutputState)
    → IsCollector h c → IsEnd rule c dropped limit h bytes end sums fed was mid
    → mid.failed ≡ false → now.failed ≡ false → err_was.failed ≡ false → FitsFailures end lost_was lost mid.failed
    → ((g : History) → fed g → IsSettled (marked_if c (mark_after end mark) g).intakes archive)
    → ((g : History) → archive g → Reports mid now (settled_line (settled g)))
    → IsLoadEnd rule c dropped limit mark h bytes sums lost_was lost (status_after end) archive was now err_was err_was
unfolding given_up_whatever loaded
whole_load ends.Well rule c dropped limit mark h bytes sums lost_was lost fed archive was mid now err_was here f first sound err_sound l settles reports =
    (here, loaded rule c dropped limit mark mark h bytes None sums fed archive was mid now refl f settles reports, sound, err_sound, refl, l.inside (λ e. absurd cc))
whole_load ends.Cut rule c dropped limit mark h bytes sums lost_was lost fed archive was mid now err_was here f first sound err_sound l settles reports =
    (inl (f.0, loaded rule c dropped limit None None h bytes (Some f.0) sums fed archive was mid now refl f.1 settles reports, refl, l.inside (λ e. absurd cc)), sound, err_sound)
whole_load (ends.Refused why) rule c dropped limit mark h bytes sums lost_was lost fed archive was mid now err_was here g first sound err_sound l settles reports =
    let stands = settles_all c None (given h c (offered g.made)) fed archive g.represented settles in
    let up : IsGivenUpLoad rule c dropped limit h bytes sums lost_was lost archive was now = record { why = why; outside = λ e. reader_lost lost mid first (l.outside (ap (λ (t : FeedStop). ends.Refused t) e)); inside = λ other. l.inside (λ e. other (same_stop why e)); between = mid; given_up = given_up_whatever rule c dropped limit h bytes why sums fed was mid g; applied = stands; wrote = reports stands.now stands.represented } in
    (inr (inl (up, refl)), sound, err_sound)

-- a writer that hasn't failed now hadn't before
sound_before : (failed : Bool) (was now : OutputState) (text : List ℕ) → was.failed ≡ failed → Reports was now text → now.failed ≡ false → was.failed ≡ false
sound_before true was now text failed t sound = let e = (t.stays failed).0 in absurd cc
sound_before false was now text failed t sound = failed

-- a load came to its end
ends_by : (out_failed err_failed : Bool) (end : End) (result : Status) (rule : WithoutHop) (c dropped : ℕ) (limit : BatchLimits) (mark : Option ℕ) (h : History) (bytes : List ℕ) (sums : Sums) (lost_was lost : Bool) (fed archive : Represented) (was mid now err_was err_now : OutputState)
    → now.failed ≡ out_failed → err_was.failed ≡ err_failed → IsCollector h c → IsEnd rule c dropped limit h bytes end sums fed was mid
    → FitsFailures end lost_was lost mid.failed
    → ((g : History) → fed g → IsSettled (marked_if c (mark_after (as_reported mid.failed end) mark) g).intakes archive)
    → ((g : History) → archive g → Reports mid now (settled_line (settled g)))
    → result ≡ reported_as out_failed err_failed (status_after (as_reported mid.failed end)) → ReportsFailure now.failed err_was err_now
    → IsLoadEnd rule c dropped limit mark h bytes sums lost_was lost result archive was now err_was err_now
ends_by true err_failed end result rule c dropped limit mark h bytes sums lost_was lost fed archive was mid now err_was err_now o e here is_end l settles reports is of_out =
    let p = part_loaded mid.failed end rule c dropped limit mark h bytes sums lost_was lost fed archive was mid refl is_end l settles in
    subst (λ (t : Status). IsLoadEnd rule c dropped limit mark h bytes sums lost_was lost t archive was now err_was err_now) (sym is) (inl (mid, p.0, p.1, p.2, p.3, reports p.0 p.1, of_out), inl o)
ends_by false true end result rule c dropped limit mark h bytes sums lost_was lost fed archive was mid now err_was err_now o e here is_end l settles reports is of_out =
    let p = part_loaded mid.failed end rule c dropped limit mark h bytes sums lost_was lost fed archive was mid refl is_end l settles in
    subst (λ (t : Status). IsLoadEnd rule c dropped limit mark h bytes sums lost_was lost t archive was now err_was err_now) (sym is)
    (inl (mid, p.0, p.1, p.2, p.3, reports p.0 p.1, of_out), inr (still_failed now.failed true err_was err_now o e of_out))
ends_by false false end result rule c dropped limit mark h bytes sums lost_was lost fed archive was mid now err_was err_now o e here is_end l settles reports is of_out =
    let p = part_loaded mid.failed end rule c dropped limit mark h bytes sums lost_was lost fed archive was mid refl is_end l settles in
    let sound = sound_before mid.failed mid now (settled_line (settled p.0)) refl (reports p.0 p.1) o in
    let same : as_reported mid.failed end ≡ end = ap (λ (t : Bool). as_reported t end) sound in
    subst (λ (t : Status). IsLoadEnd rule c dropped limit mark h bytes sums lost_was lost t archive was now err_was err_now) (sym (is ∙ ap status_after same))
    (subst (λ (t : OutputState). IsLoadEnd rule c dropped limit mark h bytes sums lost_was lost (status_after end) archive was now err_was t) (sym (of_out.quiet o))
    (whole_load end rule c dropped limit mark h bytes sums lost_was lost fed archive was mid now err_was here is_end sound o e l
    (subst (λ (t : End). (g : History) → fed g → IsSettled (marked_if c (mark_after t mark) g).intakes archive) same settles) reports))

pub load_ends : (end : End) (result : Status) (rule : WithoutHop) (c dropped : ℕ) (limit : BatchLimits) (mark : Option ℕ) (h : History) (bytes : List ℕ) (sums : Sums) (lost_was lost : Bool) (fed archive : Represented) (was mid now err_was err_now : OutputState)
    → IsCollector h c → IsEnd rule c dropped limit h bytes end sums fed was mid
    → FitsFailures end lost_was lost mid.failed
    → ((g : History) → fed g → IsSettled (marked_if c (mark_after (as_reported mid.failed end) mark) g).intakes archive)
    → ((g : History) → archive g → Reports mid now (settled_line (settled g)))
    → result ≡ reported_as now.failed err_was.failed (status_after (as_reported mid.failed end)) → ReportsFailure now.failed err_was err_now
    → IsLoadEnd rule c dropped limit mark h bytes sums lost_was lost result archive was now err_was err_now
load_ends end result rule c dropped limit mark h bytes sums lost_was lost fed archive was mid now err_was err_now here e l settles reports is of_out =
    ends_by now.failed err_was.failed end result rule c dropped limit mark h bytes sums lost_was lost fed archive was mid now err_was err_now refl refl here e l settles reports is of_out

-- a load that is done isn't held back
pub done_plain : (held : Bool) (plain status : Status) → status ≡ refused_if held plain → status ≡ statuses.Done → plain ≡ statuses.Done
done_plain true statuses.Done status is done = absurd cc
done_plain true statuses.Refused status is done = absurd cc
done_plain true statuses.Failed status is done = absurd cc
done_plain false plain status is done = sym is ∙ done

-- a load that is done has no feed that was given up for what is outside
pub done_inside : (out_failed err_failed : Bool) (end : End) → reported_as out_failed err_failed (status_after end) ≡ statuses.Done → end ≡ ends.Refused reasons.Outside → ⊥
done_inside true err_failed end is lost = absurd cc
done_inside false true end is lost = absurd cc
done_inside false false ends.Well is lost = absurd cc
done_inside false false ends.Cut is lost = absurd cc
done_inside false false (ends.Refused why) is lost = absurd cc

-- nor is one that ended outside its feed
pub refused_undone : (out_failed err_failed : Bool) → reported_as out_failed err_failed statuses.Refused ≡ statuses.Done → ⊥
refused_undone true err_failed is = absurd cc
refused_undone false true is = absurd cc
refused_undone false false is = absurd cc
