-- What a turn of a question gives.
use Rattle.std.specs.Prelude.{◌≡◌, ◌≤◌, ℕ, ⊤}
use Rattle.route_meaning.specs.History.{History, Begins, settled}
use Rattle.interleaving_core.specs.declared.query.Query.{Query}
use Rattle.interleaving_core.specs.declared.query.Answer.{Answer}
use Rattle.interleaving_core.specs.Does.{last_moment}
use Rattle.query_threads.specs.declared.refusal.Turn.{Turn}
use Rattle.query_threads.specs.declared.refusal.Turn.TheVariants.{Done, Again, Historical}
use Rattle.query_threads.specs.declared.refusal.AskError.{AskError}
use Rattle.query_threads.specs.declared.refusal.AskError.TheVariants.{AboveWatermark, Trouble as Troubled}
use Rattle.query_threads.specs.Troubles.{IsOutside}

-- a fact for each kind of turn
abbrev pub TurnGives : {E : Type 0} → (E → Type 0) → Type 0 → (Answer → Type 0) → Turn E → Type 0
TurnGives historical again answered (Done answer) = answered answer
TurnGives historical again answered Again = again
TurnGives historical again answered (Historical errand) = historical errand

-- what a question has gathered holds over this history and each later one
abbrev pub StaysTrue : {C : Type 0} → (C → History → Type 0) → C → History → Type 0
StaysTrue gathered cursor h = (g : History) → Begins h g → gathered cursor g

-- what asks up to this moment is refused as above the watermark only where it is, and the watermark is returned; else for a trouble from outside
abbrev pub IsReportedAt : AskError → History → ℕ → Type 0
IsReportedAt (AboveWatermark mark) h moment = (mark ≡ settled h) × (settled h ≤ moment)
IsReportedAt (Troubled trouble) h moment = IsOutside trouble

-- the same of a question
abbrev pub IsReported : AskError → History → Query → Type 0
IsReported e h query = IsReportedAt e h (last_moment query)

-- the question was refused as above the watermark
abbrev pub IsAbove : AskError → Type 0
IsAbove (AboveWatermark mark) = ⊤
IsAbove (Troubled trouble) = ⊥
