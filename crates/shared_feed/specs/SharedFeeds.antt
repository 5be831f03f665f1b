-- How a feed into a shared archive ends.
use Rattle.std.specs.Prelude.{◌≡◌, ◌⊎◌, ◌<◌, ◌≤◌, ◌*◌, ⊤, ℕ, min, max, sum_by, List, [], ◌∷◌, ◌++◌, length, Option, Some, None, Result}
use Rattle.route_model.specs.Admission.{Admitted}
use Rattle.board.specs.Views.{View}
use Rattle.interleaving_core.specs.declared.reply.BatchReply.{BatchReply}
use Rattle.mrt_records.specs.Values.{Reported}
use Rattle.query_threads.specs.Seeing.{Since}
use Rattle.resolve.specs.declared.fault.ResolveFault.{ResolveFault}
use Rattle.resolve.specs.declared.without_hop.WithoutHop.TheVariants as rules
use Rattle.service.specs.Faults.{of_stop}
use Rattle.service.specs.FeedLines.{counts_line}
use Rattle.service.specs.FeedTexts.{capped, cut_line, skips}
use Rattle.service.specs.Feeds.{IsFeed, IsCut}
use Rattle.service.specs.Outputs.{OutputState, Reports}
use Rattle.service.specs.Refusals.{refusal_line}
use Rattle.service.specs.Turns.{Turn, Offer, refusals, feed_turns}
use Rattle.service.specs.declared.faults.FeedCut.{FeedCut}
use Rattle.service.specs.declared.faults.FeedStop.{FeedStop}
use Rattle.service.specs.declared.faults.FeedStop.TheVariants as stops
use Rattle.service.specs.declared.feed_lines.FeedCounts.{FeedCounts}
use Rattle.service.specs.declared.intake.End.{End}
use Rattle.service.specs.declared.intake.End.TheVariants as ends
use Rattle.service.specs.declared.limits.BatchLimits.{BatchLimits}
use Rattle.shared_feed.specs.Offers.{Makes, IsNotTaken, admitted_in, late_in}

-- the most that a batch may have of an archive whose rings have `ring` pages: `records` admissions; and the octets of a ring or the most of a
-- batch, the lesser, but always room for one admission
abbrev pub limits_of : ℕ → ℕ → BatchLimits
limits_of records ring = record { records = records; octets = min 262144 (max 131076 (ring * 16384)) }

-- what became of these records, of which these turns were made, with these replies to the batches
abbrev pub counts_by : List Reported → List Turn → List BatchReply → FeedCounts
counts_by records turns replies = record {
  records = capped (length records);
  admitted = capped (sum_by admitted_in replies);
  late = capped (sum_by late_in replies);
  refused = capped (refusals turns);
  skipped = capped (skips records);
}

-- All turns of the feed were made, then the line of why it was cut short, if it was, and the line of its counts were written.
pub record IsTakenIn (promised : Type 0) (c : ℕ) (limit : BatchLimits) (bytes : List ℕ) (cut : Option FeedCut) (v : View) (was : OutputState) (w : View) (now : OutputState) : Type 0 where
  pub rest : List ℕ
  pub records : List Reported
  pub results : List (Result (Option Admitted) ResolveFault)
  pub feed : IsFeed rules.Refused c 0 bytes rest records results
  pub cut_is : IsCut rest cut
  pub replies : List BatchReply
  pub then : OutputState
  pub makes : Makes promised c v was (feed_turns limit results) replies w then
  pub reports : Reports then now (cut_line cut (capped (length records)) ++ counts_line (counts_by records (feed_turns limit results) replies))
  pub since : Since v w

-- why the next turns aren't made: the next batch isn't taken; or memory ran out, or a reader or a writer failed
abbrev pub IsReason : Type 0 → ℕ → List Turn → View → View → FeedStop → Type 0
IsReason promised c unmade v w (stops.Trouble trouble) = ⊤
IsReason promised c unmade v w stops.Outside = ⊤
IsReason promised c unmade v w why = (batch : List Admitted) × (later : List Turn) × (unmade ≡ Offer batch ∷ later) × IsNotTaken promised c batch v w why

-- The first turns for the first records of the feed were made, and the next ones weren't; then the refusal was written.
pub record IsGivenUp (promised : Type 0) (c : ℕ) (limit : BatchLimits) (bytes : List ℕ) (why : FeedStop) (v : View) (was : OutputState) (w : View) (now : OutputState) : Type 0 where
  pub seen : List ℕ
  pub later : List ℕ
  pub parts : bytes ≡ seen ++ later
  pub records : List Reported
  pub results : List (Result (Option Admitted) ResolveFault)
  pub feed : IsFeed rules.Refused c 0 seen [] records results
  pub made : List Turn
  pub unmade : List Turn
  pub turns : feed_turns limit results ≡ made ++ unmade
  pub replies : List BatchReply
  pub last : View
  pub then : OutputState
  pub makes : Makes promised c v was made replies last then
  pub reason : IsReason promised c unmade last w why
  pub reports : Reports then now (refusal_line (of_stop why))
  pub since : Since v w

-- there is no such collector, and only that was written, and the pass sees what it saw
pub record IsOfNone (collectors c : ℕ) (v : View) (was : OutputState) (w : View) (now : OutputState) : Type 0 where
  pub none : collectors ≤ c
  pub same : w ≡ v
  pub reports : Reports was now (refusal_line (of_stop stops.NoCollector))

-- How a feed of these octets ended, of an archive with this many collectors: all of it was read, or it was cut short, or it was given up
-- for this. For a collector that doesn't exist only that is written.
abbrev pub IsEnd : Type 0 → ℕ → ℕ → BatchLimits → List ℕ → End → View → OutputState → View → OutputState → Type 0
IsEnd promised collectors c limit bytes ends.Well v was w now = (c < collectors) × IsTakenIn promised c limit bytes None v was w now
IsEnd promised collectors c limit bytes ends.Cut v was w now = (c < collectors) × ((why : FeedCut) × IsTakenIn promised c limit bytes (Some why) v was w now)
IsEnd promised collectors c limit bytes (ends.Refused why) v was w now = ((c < collectors) × IsGivenUp promised c limit bytes why v was w now) ⊎ ((why ≡ stops.NoCollector) × IsOfNone collectors c v was w now)
