-- Each question that is done was begun in the run.
use Rattle.std.proofs.Common.{◌≡◌, ℕ, suc, ◌<◌, ◌⊎◌, List, [], ◌∷◌, ◌++◌, length, take, refl, sym, ap, ◌∙◌, inl, inr, arith, Some, length-append}
use Rattle.std.specs.List.{slice_get, slice_set}
use Rattle.std.proofs.lemmas.Bool.{cases_lt}
use Rattle.interleaving_core.specs.declared.query.Query.{Query}
use Rattle.interleaving_core.specs.declared.query.Answer.{Answer}
use Rattle.interleaving_core.specs.declared.reply.Reply.{Reply}
use Rattle.interleaving_core.specs.declared.reply.Reply.TheVariants.{Taken, Marked, NoCollector, MarkBack, Applied, Idle, Begun, Again, Done, AboveWatermark, NoQuestion, NeedsRecovery}
use Rattle.interleaving_core.specs.declared.step.Reach.{Reach}
use Rattle.interleaving_core.specs.declared.step.Step.{Step}
use Rattle.interleaving_core.specs.declared.step.Step.TheVariants.{Admit, Mark, Apply, Flush, Begin, Turn, Crash, Recover}
use Rattle.interleaving_core.specs.World.{World, started, created}
use Rattle.interleaving_core.specs.Does.{DoesTurn, Turns, Does, Runs}
use Rattle.interleaving_core.specs.Headline.{IsBegun}
use Rattle.interleaving_core.proofs.Places.{split, there, taken_there}
use Rattle.interleaving_core.proofs.Sound.{length_set, ended_length}

-- there are as many questions as before
abbrev SameCount : World → World → Type 0
SameCount w m = length m.questions ≡ length w.questions

same_count : (w m : World) → m ≡ w → SameCount w m
same_count w m e = ap (λ (x : World). length x.questions) e

turned_count : (w m : World) (i : ℕ) (reach : Reach) (reply : Reply) → Turns w i reach reply m → SameCount w m
turned_count w m i reach reply t = same_count' ∙ length_set w.questions i t.new
  where
    same_count' : length m.questions ≡ length (slice_set w.questions i t.new)
    same_count' = ap (λ (x : World). length x.questions) t.after

turn_count : (w m : World) (i : ℕ) (reach : Reach) (reply : Reply) → DoesTurn w i reach reply m → SameCount w m
turn_count w m i reach Again d = turned_count w m i reach Again d
turn_count w m i reach (Done answer) d = turned_count w m i reach (Done answer) d
turn_count w m i reach (AboveWatermark reported) d = same_count w m d.1
turn_count w m i reach NoQuestion d = same_count w m d.1
turn_count w m i reach _ d = absurd d

-- a number that is taken after the step was taken before, or the step began its question
abbrev IsTaken : World → Step → Reply → ℕ → Type 0
IsTaken w step reply i = (i < length w.questions) ⊎ ((query : Query) × (step ≡ Begin query) × (reply ≡ Begun i))

as_before : (w m : World) (step : Step) (reply : Reply) (i : ℕ) → SameCount w m → i < length m.questions → IsTaken w step reply i
as_before w m step reply i same lt = inl (omega (arith, same, lt))

taken_before : (w m : World) (step : Step) (reply : Reply) (i : ℕ) → Does w step reply m → i < length m.questions → IsTaken w step reply i
taken_before w m (Admit c batch) (Taken reported) i (inl up) lt = as_before w m (Admit c batch) (Taken reported) i (ap (λ (x : World). length x.questions) up.1.after) lt
taken_before w m (Admit c batch) NoCollector i (inl up) lt = as_before w m (Admit c batch) NoCollector i (same_count w m up.1.1) lt
taken_before w m (Admit c batch) _ i (inl up) lt = absurd up.1
taken_before w m (Admit c batch) reply i (inr down) lt = as_before w m (Admit c batch) reply i (same_count w m down.2) lt
taken_before w m (Mark c mark) Marked i (inl up) lt = as_before w m (Mark c mark) Marked i (ap (λ (x : World). length x.questions) up.1.2) lt
taken_before w m (Mark c mark) NoCollector i (inl up) lt = as_before w m (Mark c mark) NoCollector i (same_count w m up.1.1) lt
taken_before w m (Mark c mark) MarkBack i (inl up) lt = as_before w m (Mark c mark) MarkBack i (same_count w m up.1.1) lt
taken_before w m (Mark c mark) _ i (inl up) lt = absurd up.1
taken_before w m (Mark c mark) reply i (inr down) lt = as_before w m (Mark c mark) reply i (same_count w m down.2) lt
taken_before w m (Apply more) Applied i (inl up) lt = as_before w m (Apply more) Applied i (ap (λ (x : World). length x.questions) up.1.after) lt
taken_before w m (Apply more) Idle i (inl up) lt = as_before w m (Apply more) Idle i (same_count w m up.1.1) lt
taken_before w m (Apply more) _ i (inl up) lt = absurd up.1
taken_before w m (Apply more) reply i (inr down) lt = as_before w m (Apply more) reply i (same_count w m down.2) lt
taken_before w m Flush reply i (inl up) lt = as_before w m Flush reply i (same_count w m up.1.1) lt
taken_before w m Flush reply i (inr down) lt = as_before w m Flush reply i (same_count w m down.2) lt
taken_before w m (Begin query) reply i d lt =
    let many : length m.questions ≡ length (w.questions ++ started query ∷ []) = ap (λ (x : World). length x.questions) d.1 in
    elim (cases_lt i (length w.questions)) [
      | inl before ↦ inl before
      | inr not ↦ (let last : i ≡ length w.questions = omega (arith, not, lt, many, length-append w.questions (started query ∷ [])) in inr (query, refl, d.0 ∙ ap Begun (sym last)))
    ]
taken_before w m (Turn number reach) reply i (inl up) lt = as_before w m (Turn number reach) reply i (turn_count w m number reach reply up.1) lt
taken_before w m (Turn number reach) reply i (inr down) lt = as_before w m (Turn number reach) reply i (same_count w m down.2) lt
taken_before w m Crash reply i d lt = as_before w m Crash reply i (ap (λ (x : World). length x.questions) d.1 ∙ ended_length w.questions) lt
taken_before w m Recover reply i d lt = as_before w m Recover reply i (ap (λ (x : World). length x.questions) d.1) lt

-- some step of these began the question of the number
record Found (steps : List Step) (replies : List Reply) (i : ℕ) : Type 0 where
  place : ℕ
  query : Query
  step : slice_get steps place ≡ Some (Begin query)
  reply : slice_get replies place ≡ Some (Begun i)

found : (w v : World) (steps : List Step) (replies : List Reply) (i : ℕ) → Runs w steps replies v → i < length v.questions → (i < length w.questions) ⊎ Found steps replies i
found w v [] [] i run lt = inl (omega (arith, same_count w v run, lt))
found w v [] (r ∷ rs) i run lt = absurd run
found w v (s ∷ ss) [] i run lt = absurd run
found w v (s ∷ ss) (r ∷ rs) i run lt = elim (found run.0 v ss rs i run.2 lt) [
  | inr later ↦ inr (record { place = suc later.place; query = later.query; step = later.step; reply = later.reply })
  | inl between ↦ elim (taken_before w run.0 s r i run.1 between) [
    | inl before ↦ inl before
    | inr now ↦ inr (record { place = 0; query = now.0; step = ap (λ (x : Step). Some x) now.1; reply = ap (λ (x : Reply). Some x) now.2 })
  ]
]

took_turn : (w m : World) (i : ℕ) (reach : Reach) (answer : Answer) → Does w (Turn i reach) (Done answer) m → i < length w.questions
took_turn w m i reach answer (inl up) = there w.questions i up.1.question up.1.here
took_turn w m i reach answer (inr down) = absurd (let e : Done answer ≡ NeedsRecovery = down.1 in cc)

pub each_begun : (n : ℕ) (v : World) (steps : List Step) (replies : List Reply) (k i : ℕ) (reach : Reach) (answer : Answer) → Runs (created n) steps replies v → slice_get steps k ≡ Some (Turn i reach) → slice_get replies k ≡ Some (Done answer) → IsBegun steps replies i k
each_begun n v steps replies k i reach answer run turn done =
    let s = split (created n) v steps replies k (Turn i reach) (Done answer) run turn done in
    elim (found (created n) s.before (take k steps) (take k replies) i s.first (took_turn s.before s.after i reach answer s.does)) [
      | inl none ↦ absurd (omega (arith, none))
      | inr f ↦ (let step = taken_there k steps f.place (Begin f.query) f.step in record { place = f.place; earlier = step.1; query = f.query; step = step.0; reply = (taken_there k replies f.place (Begun i) f.reply).0 })
    ]
