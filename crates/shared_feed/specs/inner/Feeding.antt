-- A feed under way. Contracts of private functions alone cite this file.
use Rattle.std.specs.Prelude.{◌≡◌, ◌≤◌, ℕ, map, length, sum_by, Bool, true, false, List, [], ◌∷◌, ◌++◌, Option, Some, None, Result, Err}
use Rattle.route_model.specs.Admission.{Admitted}
use Rattle.board.specs.Views.{View}
use Rattle.mrt_records.specs.Values.{Reported, reported}
use Rattle.mrt_records.specs.Records.{Over}
use Rattle.mrt_records.specs.Streams.{GainsFrames}
use Rattle.mrt_records.specs.declared.item.Item.{Item}
use Rattle.query_threads.specs.Seeing.{Since}
use Rattle.query_threads.specs.declared.refusal.AdmitError.{AdmitError}
use Rattle.query_threads.specs.declared.refusal.AdmitError.TheVariants as admits
use Rattle.resolve.specs.Tables.{LastTable, Feed}
use Rattle.resolve.specs.Records.{Gives}
use Rattle.resolve.specs.Meanings.{Means}
use Rattle.resolve.specs.declared.fault.ResolveFault.{ResolveFault}
use Rattle.resolve.specs.declared.fault.ResolveFault.TheVariants as faults
use Rattle.resolve.specs.declared.without_hop.WithoutHop.TheVariants as rules
use Rattle.interleaving_core.specs.declared.reply.BatchReply.{BatchReply}
use Rattle.archive_calls.specs.Limits.{batch_octets}
use Rattle.archive_calls.specs.declared.refusal.Trouble.TheVariants as troubles
use Rattle.server.specs.Troubles.{of_shared}
use Rattle.service.specs.FeedTexts.{capped, skips}
use Rattle.service.specs.Outputs.{OutputState, Reports}
use Rattle.service.specs.Turns.{Turn, refusals, turns_for, waits_beyond, feed_turns}
use Rattle.service.specs.declared.faults.FeedStop.{FeedStop}
use Rattle.service.specs.declared.faults.FeedStop.TheVariants as stops
use Rattle.service.specs.declared.feed_lines.FeedCounts.{FeedCounts}
use Rattle.service.specs.declared.limits.BatchLimits.{BatchLimits}
use Rattle.shared_feed.specs.Offers.{Makes, admitted_in, late_in}
use Rattle.shared_feed.specs.SharedFeeds.{IsReason}
use Rattle.shared_feed.specs.declared.feeding.Feeding.{Feeding}

-- why a batch of a feed isn't taken; it is never too large
abbrev pub of_admit : AdmitError → FeedStop
of_admit admits.NoCollector = stops.NoCollector
of_admit admits.CounterFull = stops.CounterFull
of_admit admits.IntakeFull = stops.IntakeFull
of_admit admits.BatchTooLarge = stops.Trouble troubles.OutOfMemory
of_admit (admits.Trouble trouble) = stops.Trouble (of_shared trouble)

-- the same, but where the ring is full
abbrev pub stop_unless_full : AdmitError → Option FeedStop
stop_unless_full admits.NoCollector = Some stops.NoCollector
stop_unless_full admits.CounterFull = Some stops.CounterFull
stop_unless_full admits.IntakeFull = None
stop_unless_full admits.BatchTooLarge = Some (stops.Trouble troubles.OutOfMemory)
stop_unless_full (admits.Trouble trouble) = Some (stops.Trouble (of_shared trouble))

-- these turns were made for a collector since the pass saw v, and their batches and records are counted
pub record HasDone (promised : Type 0) (c : ℕ) (v : View) (turns : List Turn) (counts : FeedCounts) (w : View) (was now : OutputState) : Type 0 where
  pub replies : List BatchReply
  pub makes : Makes promised c v was turns replies w now
  pub since : Since v w
  pub admitted : counts.admitted ≡ capped (sum_by admitted_in replies)
  pub late : counts.late ≡ capped (sum_by late_in replies)
  pub refused : counts.refused ≡ capped (refusals turns)

-- the next record of a feed means this
pub record TakesNext (was now : Feed) (r : Reported) (meaning : Result (Option Admitted) ResolveFault) : Type 0 where
  pub gives : Gives rules.Refused was.collector was.table r meaning
  pub collector : now.collector ≡ was.collector
  pub table : (meaning ≡ Err faults.OutOfMemory → ⊥) → (before : List Reported) → LastTable before was.table → LastTable (before ++ r ∷ []) now.table

-- of a feed under way all is the same but for what waits and what was done
pub record IsSameFeed (old new : Feeding) : Type 0 where
  pub collector : new.collector ≡ old.collector
  pub limit : new.limit ≡ old.limit
  pub resolver : new.resolver ≡ old.resolver
  pub records : new.counts.records ≡ old.counts.records
  pub skipped : new.counts.skipped ≡ old.counts.skipped

-- the octets of what waits are counted, and fit a batch, as each admission does
pub record IsCounted (feeding : Feeding) : Type 0 where
  pub octets : feeding.octets ≡ batch_octets feeding.gathered.items
  pub fit : feeding.octets ≤ feeding.limit.octets
  pub one : 131076 ≤ feeding.limit.octets
  pub few : feeding.limit.octets ≤ 262144

-- the feed got past these records
pub record IsAfter (promised : Type 0) (c : ℕ) (limit : BatchLimits) (v : View) (records : List Reported) (feeding : Feeding) (w : View) (was now : OutputState) : Type 0 where
  pub results : List (Result (Option Admitted) ResolveFault)
  pub collector : feeding.collector ≡ c
  pub limited : feeding.limit ≡ limit
  pub fed : feeding.resolver.collector ≡ c
  pub known : LastTable records feeding.resolver.table
  pub means : Means rules.Refused c records results
  pub waits : feeding.gathered.items ≡ waits_beyond limit [] results
  pub counted : IsCounted feeding
  pub done : HasDone promised c v (turns_for limit 0 [] results) feeding.counts w was now
  pub recorded : feeding.counts.records ≡ capped (length records)
  pub skipped : feeding.counts.skipped ≡ capped (skips records)

-- the octets are whole records, which the feed got past, and this rest
pub record Reads (promised : Type 0) (c : ℕ) (limit : BatchLimits) (v : View) (bytes rest : List ℕ) (feeding : Feeding) (w : View) (was now : OutputState) : Type 0 where
  pub items : List Item
  pub framed : GainsFrames bytes rest [] items
  pub beyond : IsAfter promised c limit v (map reported items) feeding w was now

-- the framer holds the rest, or the front of one whose Length is above the limit
abbrev pub IsHeld : List ℕ → List ℕ → Bool → Type 0
IsHeld held rest true = held ≡ rest
IsHeld held rest false = (more : List ℕ) × (rest ≡ held ++ more) × Over held

-- the octets were read as far as the feed goes on
pub record IsRead (promised : Type 0) (c : ℕ) (limit : BatchLimits) (v : View) (bytes held : List ℕ) (goes_on : Bool) (feeding : Feeding) (w : View) (was now : OutputState) : Type 0 where
  pub rest : List ℕ
  pub holds : IsHeld held rest goes_on
  pub reads : Reads promised c limit v bytes rest feeding w was now

-- all the octets were read, or those after a Length above the limit are left
abbrev pub IsReadOut : Type 0 → ℕ → BatchLimits → View → List ℕ → List ℕ → Feeding → View → OutputState → OutputState → Type 0
IsReadOut promised c limit v bytes held feeding w was now = (goes_on : Bool) × IsRead promised c limit v bytes held goes_on feeding w was now

-- Some of these turns were made when the feed was given up for this, which isn't written yet.
pub record GivesUp (promised : Type 0) (c : ℕ) (v : View) (turns : List Turn) (w : View) (was now : OutputState) (why : FeedStop) : Type 0 where
  pub made : List Turn
  pub unmade : List Turn
  pub parts : turns ≡ made ++ unmade
  pub replies : List BatchReply
  pub last : View
  pub makes : Makes promised c v was made replies last now
  pub reason : IsReason promised c unmade last w why
  pub since : Since v w

-- the feed was given up at one of the items that came after these records, or before the first of them
pub record StopsAmong (promised : Type 0) (c : ℕ) (limit : BatchLimits) (v : View) (records : List Reported) (items : List Item) (w : View) (was now : OutputState) (why : FeedStop) : Type 0 where
  pub front : List Item
  pub back : List Item
  pub parts : items ≡ front ++ back
  pub results : List (Result (Option Admitted) ResolveFault)
  pub means : Means rules.Refused c (records ++ map reported front) results
  pub gives_up : GivesUp promised c v (turns_for limit 0 [] results) w was now why

-- the feed was given up among the whole records of the octets
pub record StopsWithin (promised : Type 0) (c : ℕ) (limit : BatchLimits) (v : View) (bytes : List ℕ) (w : View) (was now : OutputState) (why : FeedStop) : Type 0 where
  pub seen : List ℕ
  pub later : List ℕ
  pub parts : bytes ≡ seen ++ later
  pub items : List Item
  pub framed : GainsFrames seen [] [] items
  pub results : List (Result (Option Admitted) ResolveFault)
  pub means : Means rules.Refused c (map reported items) results
  pub gives_up : GivesUp promised c v (feed_turns limit results) w was now why
