-- A feed under way. Contracts of private functions alone cite this file.
use Rattle.std.specs.Prelude.{◌≡◌, ◌≤◌, ℕ, map, length, Bool, true, false, List, [], ◌∷◌, ◌++◌, Option, Result, Err}
use Rattle.resolve.specs.declared.without_hop.WithoutHop.{WithoutHop}
use Rattle.service.specs.Represented.{Represented, HasIntakes}
use Rattle.service.specs.Resuming.{MeansFrom, left_after, left_over, taken_at}
use Rattle.service.specs.Outputs.{OutputState, Reports}
use Rattle.route_model.specs.Admission.{Admitted}
use Rattle.route_meaning.specs.Holds.{admitted_time}
use Rattle.route_meaning.specs.History.{History}
use Rattle.sequencer.specs.Late.{lates}
use Rattle.mrt_records.specs.Values.{Reported, reported}
use Rattle.mrt_records.specs.Records.{Over}
use Rattle.mrt_records.specs.Streams.{GainsFrames}
use Rattle.mrt_records.specs.declared.item.Item.{Item}
use Rattle.resolve.specs.Tables.{LastTable, Feed}
use Rattle.resolve.specs.Records.{Gives, counted, left_out}
use Rattle.resolve.specs.declared.fault.ResolveFault.{ResolveFault}
use Rattle.resolve.specs.declared.fault.ResolveFault.TheVariants as faults
use Rattle.interleaving_core.specs.Steps.{given, IsCollector}
use Rattle.archive_calls.specs.Limits.{batch_octets}
use Rattle.service.specs.Turns.{Turn, offered, refusals, turns_for, waits_beyond, feed_turns}
use Rattle.service.specs.Feeds.{IsReason, entries_lost}
use Rattle.archive_calls.specs.declared.refusal.AdmitError.{AdmitError}
use Rattle.archive_calls.specs.declared.refusal.AdmitError.TheVariants as admits
use Rattle.archive_calls.specs.declared.refusal.Trouble.TheVariants as troubles
use Rattle.service.specs.declared.limits.BatchLimits.{BatchLimits}
use Rattle.service.specs.declared.faults.FeedStop.{FeedStop}
use Rattle.service.specs.declared.faults.FeedStop.TheVariants as stops
use Rattle.service.specs.FeedTexts.{capped, intake_in, admitted_of, turns_text, skips}
use Rattle.service.specs.declared.feed_lines.FeedCounts.{FeedCounts}
use Rattle.service.specs.declared.feeding.Feeding.{Feeding}

-- why a batch of a feed isn't taken; it is never too large
abbrev pub of_admit : AdmitError → FeedStop
of_admit admits.NoCollector = stops.NoCollector
of_admit admits.CounterFull = stops.CounterFull
of_admit admits.IntakeFull = stops.IntakeFull
of_admit admits.BatchTooLarge = stops.Trouble troubles.OutOfMemory
of_admit (admits.Trouble trouble) = stops.Trouble trouble

-- these turns were made for a collector of an archive that represented h
pub record HasDone (c : ℕ) (h : History) (turns : List Turn) (counts : FeedCounts) (archive : Represented) (was now : OutputState) : Type 0 where
  pub represented : HasIntakes (given h c (offered turns)).intakes archive
  pub wrote : Reports was now (turns_text (intake_in h.intakes c) turns)
  pub admitted : counts.admitted ≡ capped (length (admitted_of (intake_in h.intakes c) (offered turns)))
  pub late : counts.late ≡ capped (length (lates admitted_time (intake_in h.intakes c).mark [] 0 (offered turns)))
  pub refused : counts.refused ≡ capped (refusals turns)
  pub there : (offered turns ≡ [] → ⊥) → IsCollector h c

-- The next record means something, of which this is taken if this many admissions are dropped, and this many are still dropped after it.
pub record TakesNext (rule : WithoutHop) (was now : Feed) (dropping left : ℕ) (r : Reported) (taken : Result (Option Admitted) ResolveFault) : Type 0 where
  pub meaning : Result (Option Admitted) ResolveFault
  pub gives : Gives rule was.collector was.table r meaning
  pub taken_is : taken ≡ taken_at dropping meaning
  pub left_is : left ≡ left_after dropping meaning
  pub collector : now.collector ≡ was.collector
  pub lost : now.left_out ≡ counted was.left_out (left_out r meaning)
  pub table : (meaning ≡ Err faults.OutOfMemory → ⊥) → (before : List Reported) → LastTable before was.table → LastTable (before ++ r ∷ []) now.table

-- of a feed in progress all is the same but for the pending batch and what was done
pub record IsSameFeed (old new : Feeding) : Type 0 where
  pub collector : new.collector ≡ old.collector
  pub limit : new.limit ≡ old.limit
  pub dropping : new.dropping ≡ old.dropping
  pub rule : new.rule ≡ old.rule
  pub resolver : new.resolver ≡ old.resolver
  pub records : new.counts.records ≡ old.counts.records
  pub skipped : new.counts.skipped ≡ old.counts.skipped

-- the octets of the pending batch are counted, and fit a batch, as each admission does
pub record IsCounted (feeding : Feeding) : Type 0 where
  pub octets : feeding.octets ≡ batch_octets feeding.gathered.items
  pub fit : feeding.octets ≤ feeding.limit.octets
  pub one : 131076 ≤ feeding.limit.octets
  pub few : feeding.limit.octets ≤ 262144

-- the feed came after these records
pub record IsAfter (rule : WithoutHop) (c dropped : ℕ) (limit : BatchLimits) (h : History) (records : List Reported) (feeding : Feeding) (archive : Represented) (was now : OutputState) : Type 0 where
  pub results : List (Result (Option Admitted) ResolveFault)
  pub collector : feeding.collector ≡ c
  pub limited : feeding.limit ≡ limit
  pub ruled : feeding.rule ≡ rule
  pub fed : feeding.resolver.collector ≡ c
  pub known : LastTable records feeding.resolver.table
  pub means : MeansFrom rule c dropped records results
  pub drops : feeding.dropping ≡ left_over dropped means.meanings
  pub lost : feeding.resolver.left_out ≡ capped (entries_lost records means.meanings)
  pub waits : feeding.gathered.items ≡ waits_beyond limit [] results
  pub counted : IsCounted feeding
  pub done : HasDone c h (turns_for limit 0 [] results) feeding.counts archive was now
  pub recorded : feeding.counts.records ≡ capped (length records)
  pub skipped : feeding.counts.skipped ≡ capped (skips records)

-- the octets are whole records, after which the feed came, and this rest
pub record Reads (rule : WithoutHop) (c dropped : ℕ) (limit : BatchLimits) (h : History) (bytes rest : List ℕ) (feeding : Feeding) (archive : Represented) (was now : OutputState) : Type 0 where
  pub items : List Item
  pub framed : GainsFrames bytes rest [] items
  pub beyond : IsAfter rule c dropped limit h (map reported items) feeding archive was now

-- the framer holds the rest, or the front of one whose Length is above the limit
abbrev pub IsHeld : List ℕ → List ℕ → Bool → Type 0
IsHeld held rest true = held ≡ rest
IsHeld held rest false = (more : List ℕ) × (rest ≡ held ++ more) × Over held

-- the octets were read as far as the feed goes on
pub record IsRead (rule : WithoutHop) (c dropped : ℕ) (limit : BatchLimits) (h : History) (bytes held : List ℕ) (goes_on : Bool) (feeding : Feeding) (archive : Represented) (was now : OutputState) : Type 0 where
  pub rest : List ℕ
  pub holds : IsHeld held rest goes_on
  pub reads : Reads rule c dropped limit h bytes rest feeding archive was now

-- all the octets were read, or those after a Length above the limit are left
abbrev pub IsReadOut : WithoutHop → ℕ → ℕ → BatchLimits → History → List ℕ → List ℕ → Feeding → Represented → OutputState → OutputState → Type 0
IsReadOut rule c dropped limit h bytes held feeding archive was now = (goes_on : Bool) × IsRead rule c dropped limit h bytes held goes_on feeding archive was now

-- Some of these turns were made and written when the feed was given up for this, which isn't written yet.
pub record GivesUp (c : ℕ) (h : History) (turns : List Turn) (archive : Represented) (was now : OutputState) (why : FeedStop) : Type 0 where
  pub made : List Turn
  pub unmade : List Turn
  pub parts : turns ≡ made ++ unmade
  pub represented : HasIntakes (given h c (offered made)).intakes archive
  pub reason : IsReason c h made unmade why
  pub wrote : Reports was now (turns_text (intake_in h.intakes c) made)
  pub there : (offered made ≡ [] → ⊥) → IsCollector h c

-- the feed was given up at one of the items that came after these records, or before the first of them
pub record StopsAmong (rule : WithoutHop) (c dropped : ℕ) (limit : BatchLimits) (h : History) (records : List Reported) (items : List Item) (archive : Represented) (was now : OutputState) (why : FeedStop) : Type 0 where
  pub front : List Item
  pub back : List Item
  pub parts : items ≡ front ++ back
  pub results : List (Result (Option Admitted) ResolveFault)
  pub means : MeansFrom rule c dropped (records ++ map reported front) results
  pub gives_up : GivesUp c h (turns_for limit 0 [] results) archive was now why

-- the feed was given up among the whole records of the octets
pub record StopsWithin (rule : WithoutHop) (c dropped : ℕ) (limit : BatchLimits) (h : History) (bytes : List ℕ) (archive : Represented) (was now : OutputState) (why : FeedStop) : Type 0 where
  pub seen : List ℕ
  pub later : List ℕ
  pub parts : bytes ≡ seen ++ later
  pub items : List Item
  pub framed : GainsFrames seen [] [] items
  pub results : List (Result (Option Admitted) ResolveFault)
  pub means : MeansFrom rule c dropped (map reported items) results
  pub gives_up : GivesUp c h (feed_turns limit results) archive was now why
