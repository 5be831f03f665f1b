-- What a feed of MRT records is, and what an archive represents after it.
use Rattle.std.specs.Prelude.{◌≡◌, ◌⊎◌, ◌+◌, Bool, true, false, ℕ, map, length, List, [], ◌∷◌, ◌++◌, Option, Some, None, Result}
use Rattle.resolve.specs.declared.without_hop.WithoutHop.{WithoutHop}
use Rattle.service.specs.Represented.{Represented, HasIntakes}
use Rattle.service.specs.Resuming.{MeansFrom, left_over}
use Rattle.service.specs.Outputs.{OutputState, Reports}
use Rattle.route_model.specs.Admission.{Admitted}
use Rattle.route_meaning.specs.History.{History}
use Rattle.mrt_records.specs.Values.{Reported, reported}
use Rattle.mrt_records.specs.Records.{Over}
use Rattle.mrt_records.specs.Streams.{GainsFrames}
use Rattle.mrt_records.specs.declared.item.Item.{Item}
use Rattle.resolve.specs.Records.{left_out}
use Rattle.resolve.specs.declared.fault.ResolveFault.{ResolveFault}
use Rattle.interleaving_core.specs.Steps.{given, IsCollector, NothingToApply}
use Rattle.archive_calls.specs.Limits.{IsCounterFull}
use Rattle.service.specs.Turns.{Turn, Offer, offered, admissions_of, feed_turns}
use Rattle.service.specs.FeedTexts.{capped, intake_in, turns_text, feed_text, counts_of}
use Rattle.service.specs.Refusals.{refusal_line}
use Rattle.service.specs.Faults.{of_stop}
use Rattle.service.specs.declared.limits.BatchLimits.{BatchLimits}
use Rattle.service.specs.declared.settings.FeedSettings.{FeedSettings}
use Rattle.service.specs.declared.feed_lines.FeedCounts.{FeedCounts}
use Rattle.service.specs.declared.faults.FeedCut.{FeedCut}
use Rattle.service.specs.declared.faults.FeedCut.TheVariants as cuts
use Rattle.service.specs.declared.faults.FeedStop.{FeedStop}
use Rattle.service.specs.declared.faults.FeedStop.TheVariants as stops
use Rattle.service.specs.declared.intake.End.{End}
use Rattle.service.specs.declared.intake.End.TheVariants as ends

-- what a batch may have: a number of admissions, by the feed's settings, and of octets, by the archive
abbrev pub limits_for : FeedSettings → ℕ → BatchLimits
limits_for how most = record { records = how.limit; octets = most }

-- The octets are these whole records, and then a rest that begins with no whole record. Of the records this is taken, after as many of their first admissions are dropped.
pub record IsFeed (rule : WithoutHop) (c dropped : ℕ) (bytes rest : List ℕ) (records : List Reported) (results : List (Result (Option Admitted) ResolveFault)) : Type 0 where
  pub items : List Item
  pub framed : GainsFrames bytes rest [] items
  pub reported_are : map reported items ≡ records
  pub means : MeansFrom rule c dropped records results

-- The octets that a reader gives in all, if they are known before, as those of memory are. Of a file nothing is known: any octets may be those that it gave.
abbrev pub MayGive : Option (List ℕ) → List ℕ → Type 0
MayGive None bytes = Unit {0}
MayGive (Some all) bytes = bytes ≡ all

-- why a feed is cut short that has this rest after its whole records: it ends inside a record, or the next record's Length is above the limit
abbrev pub IsCut : List ℕ → Option FeedCut → Type 0
IsCut rest None = rest ≡ []
IsCut rest (Some cuts.Truncated) = (rest ≡ [] → ⊥) × (Over rest → ⊥)
IsCut rest (Some cuts.TooLong) = Over rest

-- how many entries of these records are left out, if they mean this
abbrev pub entries_lost : List Reported → List (Result (Option Admitted) ResolveFault) → ℕ
entries_lost [] meanings = 0
entries_lost (r ∷ records) [] = 0
entries_lost (r ∷ records) (m ∷ meanings) = left_out r m + entries_lost records meanings

-- What is known of a feed besides what it gave: what became of its records, if it came to its end; how many of their entries were left out; how many
-- admissions are still dropped; the collector's mark after it.
pub record Sums : Type 0 where
  pub counts : Option FeedCounts
  pub left_out : ℕ
  pub left : ℕ
  pub mark : ℕ

-- that of a feed of these records, which mean this and of which this was taken, that came to its end
pub record IsSummed (c dropped : ℕ) (limit : BatchLimits) (h : History) (records : List Reported) (results meanings : List (Result (Option Admitted) ResolveFault)) (sums : Sums) : Type 0 where
  pub counted : sums.counts ≡ Some (counts_of (intake_in h.intakes c) records (feed_turns limit results))
  pub lost : sums.left_out ≡ capped (entries_lost records meanings)
  pub drops : sums.left ≡ left_over dropped meanings
  pub marks : sums.mark ≡ (intake_in (given h c (admissions_of results)).intakes c).mark

-- The archive represented h; now it also represents all that the feed gives, wherever it is applied, and the feed's lines were written. It
-- was cut short for this reason, or not at all. If the feed gives anything, the collector exists.
pub record IsFed (rule : WithoutHop) (c dropped : ℕ) (limit : BatchLimits) (h : History) (bytes : List ℕ) (cut : Option FeedCut) (sums : Sums) (archive : Represented) (was now : OutputState) : Type 0 where
  pub rest : List ℕ
  pub records : List Reported
  pub results : List (Result (Option Admitted) ResolveFault)
  pub feed : IsFeed rule c dropped bytes rest records results
  pub cut_is : IsCut rest cut
  pub represented : HasIntakes (given h c (admissions_of results)).intakes archive
  pub wrote : Reports was now (feed_text (intake_in h.intakes c) limit records results cut)
  pub summed : IsSummed c dropped limit h records results feed.means.meanings sums
  pub there : (admissions_of results ≡ [] → ⊥) → IsCollector h c

-- why a feed is given up of which these turns were made and the next ones weren't: there is no such collector, the next batch would
-- pass the last count of offered records, the collector's ring was full and nothing could be applied any more, the archive had another
-- trouble, or a reader or a writer failed
abbrev pub IsReason : ℕ → History → List Turn → List Turn → FeedStop → Type 0
IsReason c h made unmade stops.NoCollector = IsCollector h c → ⊥
IsReason c h made unmade stops.CounterFull = (batch : List Admitted) × (later : List Turn) × (unmade ≡ Offer batch ∷ later) × IsCounterFull (given h c (offered made)) c (length batch)
IsReason c h made unmade stops.IntakeFull = IsCollector h c × (past : History) × (past.intakes ≡ (given h c (offered made)).intakes) × NothingToApply past
IsReason c h made unmade (stops.Trouble trouble) = Unit {0}
IsReason c h made unmade stops.Outside = Unit {0}

-- The archive represented h; now it represents what the first turns for the first records of the feed offer too, wherever it is applied. These
-- turns were written and then the refusal.
pub record IsGivenUp (rule : WithoutHop) (c dropped : ℕ) (limit : BatchLimits) (h : History) (bytes : List ℕ) (why : FeedStop) (sums : Sums) (archive : Represented) (was now : OutputState) : Type 0 where
  pub seen : List ℕ
  pub later : List ℕ
  pub parts : bytes ≡ seen ++ later
  pub records : List Reported
  pub results : List (Result (Option Admitted) ResolveFault)
  pub feed : IsFeed rule c dropped seen [] records results
  pub made : List Turn
  pub unmade : List Turn
  pub turns : feed_turns limit results ≡ made ++ unmade
  pub represented : HasIntakes (given h c (offered made)).intakes archive
  pub reason : IsReason c h made unmade why
  pub wrote : Reports was now (turns_text (intake_in h.intakes c) made ++ refusal_line (of_stop why))
  pub uncounted : sums.counts ≡ None
  pub there : (offered made ≡ [] → ⊥) → IsCollector h c

-- how a feed of these octets ended: all of it was read, or it was cut short, or it was given up for this
abbrev pub IsEnd : WithoutHop → ℕ → ℕ → BatchLimits → History → List ℕ → End → Sums → Represented → OutputState → OutputState → Type 0
IsEnd rule c dropped limit h bytes ends.Well sums archive was now = IsFed rule c dropped limit h bytes None sums archive was now
IsEnd rule c dropped limit h bytes ends.Cut sums archive was now = (why : FeedCut) × IsFed rule c dropped limit h bytes (Some why) sums archive was now
IsEnd rule c dropped limit h bytes (ends.Refused why) sums archive was now = IsGivenUp rule c dropped limit h bytes why sums archive was now

-- the result for a feed that ended so: if not all of its lines were written, it is given up for the writer
abbrev pub as_reported : Bool → End → End
as_reported true end = ends.Refused stops.Outside
as_reported false end = end

-- What is known of its reader, which had failed before it or not and has after it or not, and of its writer, if a feed ended so: it was
-- given up for what is outside only if one of them has failed, and if it ended otherwise, no read of it failed.
pub record FitsFailures (end : End) (lost_was lost failed : Bool) : Type 0 where
  pub outside : end ≡ ends.Refused stops.Outside → (lost ≡ true) ⊎ (failed ≡ true)
  pub inside : (end ≡ ends.Refused stops.Outside → ⊥) → lost ≡ lost_was
