-- What an archive represents after a file is loaded.
use Rattle.std.specs.Prelude.{◌≡◌, ◌⊎◌, Bool, true, false, ℕ, ◌++◌, List, [], Option, Some, None, Result}
use Rattle.resolve.specs.declared.without_hop.WithoutHop.{WithoutHop}
use Rattle.service.specs.Represented.{Represented, HasIntakes, whatever}
use Rattle.service.specs.Outputs.{OutputState, Reports}
use Rattle.route_model.specs.Admission.{Admitted}
use Rattle.route_meaning.specs.History.{History, Intake, settled}
use Rattle.mrt_records.specs.Values.{Reported}
use Rattle.interleaving_core.specs.Steps.{given, marked, NothingToApply, IsCollector, IsMarkAbove}
use Rattle.resolve.specs.declared.fault.ResolveFault.{ResolveFault}
use Rattle.service.specs.Turns.{offered, admissions_of}
use Rattle.service.specs.FeedTexts.{intake_in, feed_text}
use Rattle.service.specs.FeedLines.{settled_line}
use Rattle.service.specs.Refusals.{ReportsError, ReportsFailure}
use Rattle.service.specs.Feeds.{IsFeed, IsCut, IsFed, IsGivenUp, FitsFailures, IsSummed, Sums}
use Rattle.service.specs.Faults.{of_load}
use Rattle.service.specs.declared.limits.BatchLimits.{BatchLimits}
use Rattle.service.specs.declared.faults.FeedCut.{FeedCut}
use Rattle.service.specs.declared.faults.FeedStop.{FeedStop}
use Rattle.service.specs.declared.faults.FeedStop.TheVariants as reasons
use Rattle.service.specs.declared.faults.LoadStop.{LoadStop}
use Rattle.service.specs.declared.faults.LoadStop.TheVariants as stops
use Rattle.service.specs.declared.intake.End.TheVariants as ends
use Rattle.service.specs.declared.status.Status.{Status}
use Rattle.service.specs.declared.status.Status.TheVariants as statuses

-- the collector's mark is this one if there is one
abbrev pub marked_if : ℕ → Option ℕ → History → History
marked_if c None h = h
marked_if c (Some mark) h = marked h c mark

-- the archive represents a history with these intakes, of which nothing may be applied any more
pub record IsSettled (intakes : List Intake) (archive : Represented) : Type 0 where
  pub now : History
  pub intakes_are : now.intakes ≡ intakes
  pub idle : NothingToApply now
  pub represented : archive now

-- The archive represented h; now it represents all that the feed of the collector gives too, and its mark, applied as far as may be.
-- What the feed writes was written, and then the settled watermark.
pub record IsLoaded (rule : WithoutHop) (c dropped : ℕ) (limit : BatchLimits) (mark : Option ℕ) (h : History) (bytes : List ℕ) (cut : Option FeedCut) (sums : Sums) (archive : Represented) (was now : OutputState) : Type 0 where
  pub rest : List ℕ
  pub records : List Reported
  pub results : List (Result (Option Admitted) ResolveFault)
  pub feed : IsFeed rule c dropped bytes rest records results
  pub cut_is : IsCut rest cut
  pub applied : IsSettled (marked_if c mark (given h c (admissions_of results))).intakes archive
  pub wrote : Reports was now (feed_text (intake_in h.intakes c) limit records results cut ++ settled_line (settled applied.now))
  pub summed : IsSummed c dropped limit h records results feed.means.meanings sums

-- The feed was given up, for what is outside only if the reader failed, and for anything else only if no read failed; the archive
-- represents what it gave until then too, applied as far as may be. What the feed wrote is followed by the settled watermark.
pub record IsGivenUpLoad (rule : WithoutHop) (c dropped : ℕ) (limit : BatchLimits) (h : History) (bytes : List ℕ) (sums : Sums) (lost_was lost : Bool) (archive : Represented) (was now : OutputState) : Type 0 where
  pub why : FeedStop
  pub outside : why ≡ reasons.Outside → lost ≡ true
  pub inside : (why ≡ reasons.Outside → ⊥) → lost ≡ lost_was
  pub between : OutputState
  pub given_up : IsGivenUp rule c dropped limit h bytes why sums whatever was between
  pub applied : IsSettled (given h c (offered given_up.made)).intakes archive
  pub wrote : Reports between now (settled_line (settled applied.now))

-- the whole feed was taken, and the mark that was asked for is below the collector's, which stays
pub record IsMarkedBack (rule : WithoutHop) (c dropped : ℕ) (limit : BatchLimits) (mark : Option ℕ) (h : History) (bytes : List ℕ) (sums : Sums) (archive : Represented) (was now : OutputState) : Type 0 where
  pub lower : ℕ
  pub asked : mark ≡ Some lower
  pub records : List Reported
  pub results : List (Result (Option Admitted) ResolveFault)
  pub feed : IsFeed rule c dropped bytes [] records results
  pub above : IsMarkAbove (given h c (admissions_of results)) c lower
  pub wrote : Reports was now (feed_text (intake_in h.intakes c) limit records results None)
  pub summed : IsSummed c dropped limit h records results feed.means.meanings sums
  pub represented : HasIntakes (given h c (admissions_of results)).intakes archive

-- This history has the intakes of what the feed gave, and its mark if the feed ended well and all of its lines were written. The feed
-- was given up for what is outside only if the reader failed, or the writer, and no read failed if it ended otherwise.
abbrev pub IsPartLoaded : WithoutHop → ℕ → ℕ → BatchLimits → Option ℕ → History → List ℕ → Sums → Bool → Bool → History → OutputState → OutputState → Type 0
IsPartLoaded rule c dropped limit mark h bytes sums lost_was lost past was now =
    ((f : IsFed rule c dropped limit h bytes None sums whatever was now) × (now.failed ≡ false) × (lost ≡ lost_was) × (past.intakes ≡ (marked_if c mark (given h c (admissions_of f.results))).intakes))
    ⊎ (((cut : Option FeedCut) × (f : IsFed rule c dropped limit h bytes cut sums whatever was now) × (cut ≡ None → now.failed ≡ true) × (lost ≡ lost_was) × (past.intakes ≡ (given h c (admissions_of f.results)).intakes))
    ⊎ ((why : FeedStop) × (g : IsGivenUp rule c dropped limit h bytes why sums whatever was now) × FitsFailures (ends.Refused why) lost_was lost now.failed × (past.intakes ≡ (given h c (offered g.made)).intakes)))

-- why a load ends outside its feed: there is no such collector, the mark is below the collector's, or the archive had another
-- trouble after the feed, before the mark was set or after it
abbrev pub IsUnloaded : WithoutHop → ℕ → ℕ → BatchLimits → Option ℕ → History → List ℕ → Sums → Bool → Bool → Represented → OutputState → OutputState → LoadStop → Type 0
IsUnloaded rule c dropped limit mark h bytes sums lost_was lost archive was now stops.NoCollector = (IsCollector h c → ⊥) × archive h × (now ≡ was) × (lost ≡ lost_was) × (sums.counts ≡ None)
IsUnloaded rule c dropped limit mark h bytes sums lost_was lost archive was now stops.MarkBack = IsMarkedBack rule c dropped limit mark h bytes sums archive was now × (lost ≡ lost_was)
IsUnloaded rule c dropped limit mark h bytes sums lost_was lost archive was now (stops.Trouble trouble) = (set : Option ℕ) × ((set ≡ mark) ⊎ (set ≡ None)) × (past : History) × archive past × IsPartLoaded rule c dropped limit set h bytes sums lost_was lost past was now

-- something was refused, and reported: the feed was cut short, or it was given up, or the load ended outside its feed
abbrev pub IsRefusedLoad : WithoutHop → ℕ → ℕ → BatchLimits → Option ℕ → History → List ℕ → Sums → Bool → Bool → Represented → OutputState → OutputState → OutputState → OutputState → Type 0
IsRefusedLoad rule c dropped limit mark h bytes sums lost_was lost archive was now err_was err_now =
    ((why : FeedCut) × IsLoaded rule c dropped limit None h bytes (Some why) sums archive was now × (err_now ≡ err_was) × (lost ≡ lost_was))
    ⊎ ((IsGivenUpLoad rule c dropped limit h bytes sums lost_was lost archive was now × (err_now ≡ err_was))
    ⊎ ((why : LoadStop) × IsUnloaded rule c dropped limit mark h bytes sums lost_was lost archive was now why × ReportsError (of_load why) err_was err_now))

-- Not all lines could be written. The archive represents all the same what the feed gave, applied as far as may be, and the watermark was
-- written after its lines as far as it could be; or the load ended outside its feed. Standard error shows what failed of standard output.
abbrev pub IsFailedLoad : WithoutHop → ℕ → ℕ → BatchLimits → Option ℕ → History → List ℕ → Sums → Bool → Bool → Represented → OutputState → OutputState → OutputState → OutputState → Type 0
IsFailedLoad rule c dropped limit mark h bytes sums lost_was lost archive was now err_was err_now =
    ((mid : OutputState) × (past : History) × archive past × NothingToApply past × IsPartLoaded rule c dropped limit mark h bytes sums lost_was lost past was mid × Reports mid now (settled_line (settled past)) × ReportsFailure now.failed err_was err_now)
    ⊎ ((why : LoadStop) × IsUnloaded rule c dropped limit mark h bytes sums lost_was lost archive was now why × ((err_mid : OutputState) × ReportsError (of_load why) err_was err_mid × ReportsFailure now.failed err_mid err_now))

-- How a load of these octets ended, by its status, and by whether the reader had failed before it, and has after it. It is
-- `Failed` exactly if a writer has.
abbrev pub IsLoadEnd : WithoutHop → ℕ → ℕ → BatchLimits → Option ℕ → History → List ℕ → Sums → Bool → Bool → Status → Represented → OutputState → OutputState → OutputState → OutputState → Type 0
IsLoadEnd rule c dropped limit mark h bytes sums lost_was lost statuses.Done archive was now err_was err_now = IsCollector h c × IsLoaded rule c dropped limit mark h bytes None sums archive was now × (now.failed ≡ false) × (err_now.failed ≡ false) × (err_now ≡ err_was) × (lost ≡ lost_was)
IsLoadEnd rule c dropped limit mark h bytes sums lost_was lost statuses.Refused archive was now err_was err_now = IsRefusedLoad rule c dropped limit mark h bytes sums lost_was lost archive was now err_was err_now × (now.failed ≡ false) × (err_now.failed ≡ false)
IsLoadEnd rule c dropped limit mark h bytes sums lost_was lost statuses.Failed archive was now err_was err_now = IsFailedLoad rule c dropped limit mark h bytes sums lost_was lost archive was now err_was err_now × ((now.failed ≡ true) ⊎ (err_now.failed ≡ true))
