-- What a call on an archive does to its history, and what it returns.
use Rattle.std.specs.Prelude.{◌≡◌, ◌<◌, ◌+◌, ◌*◌, ℕ, List, [], length, Some, slice_get, sum_by, Result, Ok, Err, IfErr}
use Rattle.route_model.specs.Admission.{Admitted, admission_octets}
use Rattle.sequencer.specs.Late.{timely}
use Rattle.route_meaning.specs.Holds.{admitted_time}
use Rattle.route_meaning.specs.Merged.{part}
use Rattle.route_meaning.specs.History.{Intake, History, Begins, waiting}
use Rattle.interleaving_core.specs.declared.reply.BatchReply.{BatchReply}
use Rattle.interleaving_core.specs.Does.{IsReply}
use Rattle.interleaving_core.specs.Steps.{IsCollector, IsMarkAbove, given, marked, Applies, AppliesMore, NothingToApply}
use Rattle.query_threads.specs.declared.refusal.Trouble.{Trouble}
use Rattle.query_threads.specs.declared.refusal.AdmitError.{AdmitError}
use Rattle.query_threads.specs.declared.refusal.AdmitError.TheVariants as admits
use Rattle.query_threads.specs.declared.refusal.MarkError.{MarkError}
use Rattle.query_threads.specs.declared.refusal.MarkError.TheVariants as marks
use Rattle.query_threads.specs.declared.refusal.Step.{Step}
use Rattle.query_threads.specs.declared.refusal.Step.TheVariants.{Applied, Idle}
use Rattle.query_threads.specs.declared.refusal.Flush.{Flush}
use Rattle.query_threads.specs.Troubles.{BlamesNone, IsOutside}

-- how many octets an admission takes in a ring and counts in a batch: 4, and those of its encoding
abbrev pub entry_octets : Admitted → ℕ
entry_octets a = 4 + length (admission_octets a)

-- what waits of the collector leaves too little room, in a ring of this many pages, for the records of the batch that aren't late
pub record IsCrowded (pages : ℕ) (h : History) (c : ℕ) (batch : List Admitted) : Type 0 where
  pub intake : Intake
  pub here : slice_get h.intakes c ≡ Some intake
  pub crowded : 16384 * pages < sum_by entry_octets (part c (waiting h)) + sum_by entry_octets (timely admitted_time intake.mark [] batch)

-- this many more records can't be counted for the collector
pub record IsCounterFull (h : History) (c more : ℕ) : Type 0 where
  pub intake : Intake
  pub here : slice_get h.intakes c ≡ Some intake
  pub above : 18446744073709551615 < intake.offered + more

-- Why no batch is taken. IsCrowded states separately how full a full ring is.
abbrev pub IsRefusal : History → ℕ → List Admitted → AdmitError → Type 0
IsRefusal h c batch admits.NoCollector = IsCollector h c → ⊥
IsRefusal h c batch admits.BatchTooLarge = 262144 < sum_by entry_octets batch
IsRefusal h c batch admits.CounterFull = IsCounterFull h c (length batch)
IsRefusal h c batch admits.IntakeFull = IsCollector h c
IsRefusal h c batch (admits.Trouble trouble) = IsOutside trouble

-- a batch was taken, as the reply says
pub record IsTaken (h : History) (c : ℕ) (batch : List Admitted) (reply : BatchReply) (g : History) : Type 0 where
  pub intake : Intake
  pub here : slice_get h.intakes c ≡ Some intake
  pub reply_is : IsReply intake c batch reply
  pub after : g ≡ given h c batch

-- the batch is taken but for its late records, or refused for its reason and nothing changes
abbrev pub DoesAdmit : ℕ → List Admitted → Result BatchReply AdmitError → History → History → Type 0
DoesAdmit c batch (Ok reply) h g = IsTaken h c batch reply g
DoesAdmit c batch (Err refusal) h g = (g ≡ h) × IsRefusal h c batch refusal

-- the mark is set; or there is no such collector, or its mark is above, or there was a trouble from outside, and nothing changes
abbrev pub DoesMark : ℕ → ℕ → Result (Unit {0}) MarkError → History → History → Type 0
DoesMark c mark (Ok done) h g = IsCollector h c × (g ≡ marked h c mark)
DoesMark c mark (Err marks.NoCollector) h g = (IsCollector h c → ⊥) × (g ≡ h)
DoesMark c mark (Err marks.MarkBack) h g = IsMarkAbove h c mark × (g ≡ h)
DoesMark c mark (Err (marks.Trouble trouble)) h g = IsOutside trouble × (g ≡ h)

-- the next change is applied, and perhaps some more
pub record AppliesSome (h g : History) : Type 0 where
  pub first : History
  pub next : Applies h first
  pub more : ℕ
  pub others : AppliesMore more first g

-- the next change was applied at least; or nothing may be applied, or the call failed and reports no damage, and nothing changes
abbrev pub DoesApply : Result Step Trouble → History → History → Type 0
DoesApply (Ok Applied) h g = AppliesSome h g
DoesApply (Ok Idle) h g = NothingToApply h × (g ≡ h)
DoesApply (Err trouble) h g = BlamesNone trouble × (g ≡ h)

-- the history stays as it is, and the call fails only for a trouble from outside
abbrev pub DoesFlush : Result Flush Trouble → History → History → Type 0
DoesFlush reported h g = IfErr reported IsOutside × (g ≡ h)

-- What is found begins with the history of before, and may go on with what a call that failed was about; where the archive isn't opened
-- again nothing changes.
abbrev pub DoesReopen : Result (Unit {0}) Trouble → History → History → Type 0
DoesReopen (Ok done) h g = Begins h g
DoesReopen (Err trouble) h g = g ≡ h
