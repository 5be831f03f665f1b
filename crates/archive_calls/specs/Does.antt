-- What a call on an archive does to the history that it represents, and what it returns.
use Rattle.std.specs.Prelude.{◌≡◌, ◌<◌, ◌≤◌, ⊤, ℕ, List, length, sum_by, Some, slice_get, Result, Ok, Err}
use Rattle.route_model.specs.Admission.{Admitted}
use Rattle.route_meaning.specs.declared.question.ChangedAnswer.{ChangedAnswer}
use Rattle.route_meaning.specs.declared.question.ChangedQuestion.{ChangedQuestion}
use Rattle.route_meaning.specs.Changed.{IsChangedAnswer}
use Rattle.route_meaning.specs.Merged.{Placed}
use Rattle.route_meaning.specs.History.{Intake, History, applied, settled}
use Rattle.interleaving_core.specs.declared.reply.BatchReply.{BatchReply}
use Rattle.interleaving_core.specs.declared.query.Query.{Query}
use Rattle.interleaving_core.specs.declared.query.Answer.{Answer}
use Rattle.interleaving_core.specs.Does.{IsReply, last_moment}
use Rattle.interleaving_core.specs.Headline.{IsAnswered}
use Rattle.interleaving_core.specs.Steps.{IsCollector, IsMarkAbove, given, marked, Applies, AppliesMore, NothingToApply}
use Rattle.archive_calls.specs.Limits.{batch_octets, IsCounterFull}
use Rattle.archive_calls.specs.declared.refusal.Trouble.{Trouble}
use Rattle.archive_calls.specs.declared.refusal.Trouble.TheVariants as troubles
use Rattle.archive_calls.specs.declared.refusal.AdmitError.{AdmitError}
use Rattle.archive_calls.specs.declared.refusal.AdmitError.TheVariants as admits
use Rattle.archive_calls.specs.declared.refusal.MarkError.{MarkError}
use Rattle.archive_calls.specs.declared.refusal.MarkError.TheVariants as marks
use Rattle.archive_calls.specs.declared.refusal.AskError.{AskError}
use Rattle.archive_calls.specs.declared.refusal.AskError.TheVariants as asks
use Rattle.archive_calls.specs.declared.reported.Step.{Step}
use Rattle.archive_calls.specs.declared.reported.Step.TheVariants.{Applied, Idle}

-- Why no batch is taken. Only the archive knows how full a ring is.
abbrev pub IsRefusal : History → ℕ → List Admitted → AdmitError → Type 0
IsRefusal h c batch admits.NoCollector = IsCollector h c → ⊥
IsRefusal h c batch admits.BatchTooLarge = 262144 < batch_octets batch
IsRefusal h c batch admits.CounterFull = IsCounterFull h c (length batch)
IsRefusal h c batch admits.IntakeFull = IsCollector h c
IsRefusal h c batch (admits.Trouble trouble) = ⊤

-- a batch was taken, as the reply reports
pub record IsTaken (h : History) (c : ℕ) (batch : List Admitted) (reply : BatchReply) (g : History) : Type 0 where
  pub intake : Intake
  pub here : slice_get h.intakes c ≡ Some intake
  pub reply_is : IsReply intake c batch reply
  pub after : g ≡ given h c batch

-- the batch is taken but for its late records; or it is refused for its reason, and nothing changes
abbrev pub DoesAdmit : ℕ → List Admitted → Result BatchReply AdmitError → History → History → Type 0
DoesAdmit c batch (Ok reply) h g = IsTaken h c batch reply g
DoesAdmit c batch (Err refusal) h g = (g ≡ h) × IsRefusal h c batch refusal

-- the mark is set; or there is no such collector, or its mark is above, and nothing changes
abbrev pub DoesMark : ℕ → ℕ → Result (Unit {0}) MarkError → History → History → Type 0
DoesMark c mark (Ok done) h g = IsCollector h c × (g ≡ marked h c mark)
DoesMark c mark (Err marks.NoCollector) h g = (IsCollector h c → ⊥) × (g ≡ h)
DoesMark c mark (Err marks.MarkBack) h g = IsMarkAbove h c mark × (g ≡ h)
DoesMark c mark (Err (marks.Trouble trouble)) h g = g ≡ h

-- the next change is applied, and perhaps some more
pub record AppliesSome (h g : History) : Type 0 where
  pub first : History
  pub next : Applies h first
  pub more : ℕ
  pub others : AppliesMore more first g

-- the next change was applied at least; or nothing may be applied, or the call failed, and nothing changes
abbrev pub DoesApply : Result Step Trouble → History → History → Type 0
DoesApply (Ok Applied) h g = AppliesSome h g
DoesApply (Ok Idle) h g = NothingToApply h × (g ≡ h)
DoesApply (Err trouble) h g = g ≡ h

-- the question's last moment is settled, and this is the answer over what is applied; or it isn't, and the watermark is returned
abbrev pub IsAnswerOf : History → Query → Result Answer AskError → Type 0
IsAnswerOf h query (Ok answer) = (last_moment query < settled h) × IsAnswered (applied h) query answer
IsAnswerOf h query (Err (asks.AboveWatermark watermark)) = (watermark ≡ settled h) × (settled h ≤ last_moment query)
IsAnswerOf h query (Err (asks.Trouble trouble)) = ⊤

-- the same of a question of which prefixes changed
abbrev pub IsChangedAnswerOf : History → ChangedQuestion → Result ChangedAnswer AskError → Type 0
IsChangedAnswerOf h q (Ok answer) = (q.to < settled h) × IsChangedAnswer (applied h) q answer.spots.items answer.more
IsChangedAnswerOf h q (Err (asks.AboveWatermark watermark)) = (watermark ≡ settled h) × (settled h ≤ q.to)
IsChangedAnswerOf h q (Err (asks.Trouble trouble)) = ⊤

-- how many changes the admissions have
abbrev pub changes_in : List (Placed Admitted) → ℕ
changes_in ps = sum_by (λ p. length p.item.changes) ps

-- how many changes are applied
abbrev pub applied_changes : History → ℕ
applied_changes h = changes_in (applied h)

-- Why the applied changes aren't counted: a device failed, the archive must be opened again, or memory ran out; or the count can't hold this
-- many changes. In an archive that represents a history no page and no block is reported as damaged.
abbrev pub IsUnchecked : History → Trouble → Type 0
IsUnchecked h troubles.Fault = ⊤
IsUnchecked h troubles.NeedsRecovery = ⊤
IsUnchecked h troubles.PagesFull = ⊥
IsUnchecked h troubles.OnceFull = ⊥
IsUnchecked h (troubles.Damaged block) = ⊥
IsUnchecked h (troubles.BadNode page) = ⊥
IsUnchecked h troubles.TooHigh = ⊥
IsUnchecked h troubles.CounterFull = 18446744073709551615 < applied_changes h
IsUnchecked h troubles.OutOfMemory = ⊤

-- this is how many changes are applied; or the number isn't returned, for its reason
abbrev pub DoesCheck : Result ℕ Trouble → History → Type 0
DoesCheck (Ok count) h = count ≡ applied_changes h
DoesCheck (Err trouble) h = IsUnchecked h trouble
