-- What each step does to the world, and what it replies; and runs of steps.
use Rattle.std.specs.Prelude.{ℕ, List, [], ◌∷◌, ◌++◌, ◌+◌, ◌≡◌, ◌<◌, ◌≤◌, ◌⊎◌, true, false, Some, length, slice_get, slice_set}
use Rattle.std.specs.List.{AllByRecursion}
use Rattle.route_model.specs.Admission.{Admitted, IsAdmission}
use Rattle.route_meaning.specs.Holds.{admitted_time}
use Rattle.route_meaning.specs.History.{Intake, History, applied, settled}
use Rattle.route_model.specs.Moments.{last_mark}
use Rattle.sequencer.specs.Late.{timely, lates}
use Rattle.interleaving_core.specs.declared.query.Query.{Query}
use Rattle.interleaving_core.specs.declared.query.Query.TheVariants.{Rows, Events}
use Rattle.interleaving_core.specs.declared.reply.BatchReply.{BatchReply}
use Rattle.interleaving_core.specs.declared.reply.Reply.{Reply}
use Rattle.interleaving_core.specs.declared.reply.Reply.TheVariants.{Taken, Marked, NoCollector, MarkBack, Applied, Idle, Flushed, Begun, Again, Done, AboveWatermark, NoQuestion, Crashed, Recovered, NeedsRecovery}
use Rattle.interleaving_core.specs.declared.step.Reach.{Reach}
use Rattle.interleaving_core.specs.declared.step.Step.{Step}
use Rattle.interleaving_core.specs.declared.step.Step.TheVariants.{Admit, Mark, Apply, Flush, Begin, Turn, Crash, Recover}
use Rattle.interleaving_core.specs.Steps.{IsCollector, marked, IsMarkAbove, given, Applies, AppliesMore, NothingToApply}
use Rattle.interleaving_core.specs.declared.question.Question.{Question}
use Rattle.interleaving_core.specs.declared.question.Question.TheVariants.{OfRows, OfEvents, Ended}
use Rattle.interleaving_core.specs.World.{World, asked, started, with_history, with_questions, crashed}
use Rattle.interleaving_core.specs.Turns.{TakesTurn}

-- all is up, and this; or all is down, which is the reply, and nothing is done
abbrev pub WhenUp : World → Reply → World → Type 0 → Type 0
WhenUp w reply v Up = ((w.down ≡ false) × Up) ⊎ ((w.down ≡ true) × (reply ≡ NeedsRecovery) × (v ≡ w))

-- the reply to a batch that the collector c gives after this intake
pub record IsReply (i : Intake) (c : ℕ) (batch : List Admitted) (reported : BatchReply) : Type 0 where
  pub collector : reported.receipt.collector ≡ c
  pub from : reported.receipt.from ≡ length i.admitted
  pub to : reported.receipt.to ≡ length i.admitted + length (timely admitted_time i.mark [] batch)
  pub offered : reported.offered ≡ i.offered + length batch
  pub late : reported.late.items ≡ lates admitted_time i.mark [] 0 batch

-- the collector gives the batch
pub record Admits (w : World) (c : ℕ) (batch : List Admitted) (reported : BatchReply) (v : World) : Type 0 where
  pub intake : Intake
  pub here : slice_get w.history.intakes c ≡ Some intake
  pub reply : IsReply intake c batch reported
  pub after : v ≡ with_history w (given w.history c batch)

-- a batch is taken, but for its late records, where there is such a collector
abbrev pub DoesAdmit : World → ℕ → List Admitted → Reply → World → Type 0
DoesAdmit w c batch (Taken reported) v = Admits w c batch reported v
DoesAdmit w c batch NoCollector v = (IsCollector w.history c → ⊥) × (v ≡ w)
DoesAdmit w c batch _ v = ⊥

-- a mark is set, where there is such a collector and its mark isn't above it
abbrev pub DoesMark : World → ℕ → ℕ → Reply → World → Type 0
DoesMark w c mark Marked v = IsCollector w.history c × (IsMarkAbove w.history c mark → ⊥) × (v ≡ with_history w (marked w.history c mark))
DoesMark w c mark NoCollector v = (IsCollector w.history c → ⊥) × (v ≡ w)
DoesMark w c mark MarkBack v = IsMarkAbove w.history c mark × (v ≡ w)
DoesMark w c mark _ v = ⊥

-- the next change is applied, and up to `more` after it
pub record AppliesSome (w : World) (more : ℕ) (v : World) : Type 0 where
  pub first : History
  pub last : History
  pub next : Applies w.history first
  pub others : AppliesMore more first last
  pub after : v ≡ with_history w last

-- nothing was applied, or, where all is up, the next change and up to some number below `more` after it
abbrev pub AppliesLess : World → ℕ → World → Type 0
AppliesLess w more v = (v ≡ w) ⊎ ((w.down ≡ false) × (fewer : ℕ) × (fewer < more) × AppliesSome w fewer v)

-- something is applied exactly if something may be
abbrev pub DoesApply : World → ℕ → Reply → World → Type 0
DoesApply w more Applied v = AppliesSome w more v
DoesApply w more Idle v = NothingToApply w.history × (v ≡ w)
DoesApply w more _ v = ⊥

-- the last moment that a question asks of
abbrev pub last_moment : Query → ℕ
last_moment (Rows q) = q.moment
last_moment (Events q) = q.to

-- the question hasn't ended
abbrev pub IsInProgress : Question → Type 0
IsInProgress (OfRows g) = Unit {0}
IsInProgress (OfEvents g) = Unit {0}
IsInProgress (Ended q) = ⊥

-- the question of this number takes a turn over what is applied: its last moment is below the settled watermark
pub record Turns (w : World) (i : ℕ) (reach : Reach) (reply : Reply) (v : World) : Type 0 where
  pub question : Question
  pub here : slice_get w.questions i ≡ Some question
  pub below : last_moment (asked question) < settled w.history
  pub new : Question
  pub turn : TakesTurn (applied w.history) reach question reply new
  pub after : v ≡ with_questions w (slice_set w.questions i new)

-- the question of this number is in progress, and its last moment isn't below the settled watermark, which is reported
pub record IsAboveWatermark (w : World) (i reported : ℕ) : Type 0 where
  pub question : Question
  pub here : slice_get w.questions i ≡ Some question
  pub in_progress : IsInProgress question
  pub reported_is : reported ≡ settled w.history
  pub above : settled w.history ≤ last_moment (asked question)

-- a turn of the question of this number
abbrev pub DoesTurn : World → ℕ → Reach → Reply → World → Type 0
DoesTurn w i reach Again v = Turns w i reach Again v
DoesTurn w i reach (Done answer) v = Turns w i reach (Done answer) v
DoesTurn w i reach (AboveWatermark reported) v = IsAboveWatermark w i reported × (v ≡ w)
DoesTurn w i reach NoQuestion v = ((question : Question) → slice_get w.questions i ≡ Some question → IsInProgress question → ⊥) × (v ≡ w)
DoesTurn w i reach _ v = ⊥

-- From w the step gives this reply and leads to v. A crash ends all questions, whose numbers stay taken; until a recover each other step but a begin and a
-- crash replies that all is down.
abbrev pub Does : World → Step → Reply → World → Type 0
Does w (Admit c batch) r v = WhenUp w r v (DoesAdmit w c batch.items r v)
Does w (Mark c mark) r v = WhenUp w r v (DoesMark w c mark r v)
Does w (Apply more) r v = WhenUp w r v (DoesApply w more r v)
Does w Flush r v = WhenUp w r v ((r ≡ Flushed) × (v ≡ w))
Does w (Begin query) r v = (r ≡ Begun (length w.questions)) × (v ≡ with_questions w (w.questions ++ started query ∷ []))
Does w (Turn i reach) r v = WhenUp w r v (DoesTurn w i reach r v)
Does w Crash r v = (r ≡ Crashed) × (v ≡ crashed w)
Does w Recover r v = (r ≡ Recovered) × (v ≡ record { history = w.history; questions = w.questions; down = false })

-- from w the steps, one after another, give these replies and lead to v
abbrev pub Runs : World → List Step → List Reply → World → Type 0
Runs w [] [] v = v ≡ w
Runs w [] (r ∷ rs) v = ⊥
Runs w (s ∷ ss) [] v = ⊥
Runs w (s ∷ ss) (r ∷ rs) v = (between : World) × Does w s r between × Runs between ss rs v

-- the step is made of values: each record of a batch is an admission, and a mark is one
abbrev pub IsStep : Step → Type 0
IsStep (Admit c batch) = AllByRecursion IsAdmission batch.items
IsStep (Mark c mark) = mark ≤ last_mark
IsStep _ = Unit {0}
