-- A run before a place, the step there, and the run after it.
use Rattle.std.proofs.Common.{◌≡◌, ℕ, zero, suc, ◌+◌, ◌<◌, List, [], ◌∷◌, ◌++◌, length, take, drop, get_or, refl, sym, ap, ◌∙◌, subst, arith, Some}
use Rattle.std.proofs.lemmas.List.{take_more}
use Rattle.std.specs.List.{AllByRecursion, slice_get}
use Rattle.std.proofs.lemmas.Option.{same_Some, none-some}
use Rattle.route_meaning.proofs.api.Sorting.{all_append}
use Rattle.interleaving_core.specs.declared.reply.Reply.{Reply}
use Rattle.interleaving_core.specs.declared.step.Step.{Step}
use Rattle.interleaving_core.specs.World.{World}
use Rattle.interleaving_core.specs.Does.{Does, Runs}

-- the worlds before and after the step of the place k
pub record Split (w v : World) (steps : List Step) (replies : List Reply) (k : ℕ) (step : Step) (reply : Reply) : Type 0 where
  pub before : World
  pub after : World
  pub first : Runs w (take k steps) (take k replies) before
  pub does : Does before step reply after
  pub later : Runs after (drop (suc k) steps) (drop (suc k) replies) v

pub split : (w v : World) (steps : List Step) (replies : List Reply) (k : ℕ) (step : Step) (reply : Reply) → Runs w steps replies v → slice_get steps k ≡ Some step → slice_get replies k ≡ Some reply → Split w v steps replies k step reply
split w v [] rs k step reply run at reported = absurd (none-some step at)
split w v (s ∷ ss) [] k step reply run at reported = absurd run
split w v (s ∷ ss) (r ∷ rs) zero step reply run at reported = record {
  before = w;
  after = run.0;
  first = refl;
  does = subst (λ (x : Reply). Does w step x run.0) (same_Some r reply reported) (subst (λ (x : Step). Does w x r run.0) (same_Some s step at) run.1);
  later = run.2;
}
split w v (s ∷ ss) (r ∷ rs) (suc k) step reply run at reported =
    let rest = split run.0 v ss rs k step reply run.2 at reported in
    record { before = rest.before; after = rest.after; first = (run.0, run.1, rest.first); does = rest.does; later = rest.later }

-- what has something is a place of the list
pub there : {X : Type 0} (xs : List X) (i : ℕ) (x : X) → slice_get xs i ≡ Some x → i < length xs
there [] i x at = absurd (none-some x at)
there (y ∷ xs) zero x at = omega arith
there (y ∷ xs) (suc i) x at = omega (arith, there xs i x at)

-- what stands in the first k stands there in all
pub taken_there : {X : Type 0} (k : ℕ) (xs : List X) (j : ℕ) (x : X) → slice_get (take k xs) j ≡ Some x → (slice_get xs j ≡ Some x) × (j < k)
taken_there zero xs j x at = absurd (none-some x at)
taken_there (suc k) [] j x at = absurd (none-some x at)
taken_there (suc k) (y ∷ xs) zero x at = (at, omega arith)
taken_there (suc k) (y ∷ xs) (suc j) x at = let rest = taken_there k xs j x at in (rest.0, omega (arith, rest.1))

-- what holds of the first of a list holds of one more of which it holds
pub all_more : {X : Type 0} (P : X → Type 0) (xs : List X) (i : ℕ) (x : X) → i < length xs → x ≡ get_or xs i x → P x → AllByRecursion P (take i xs) → AllByRecursion P (take (i + 1) xs)
all_more {X} P xs i x lt e one all =
    subst (AllByRecursion P) (sym (take_more xs i x lt ∙ ap (λ (y : X). take i xs ++ y ∷ []) (sym e))) (all_append P (take i xs) (x ∷ []) all (one, tt))

-- one step more
runs_push : (w m v : World) (steps : List Step) (replies : List Reply) (step : Step) (reply : Reply) → Runs w steps replies m → Does m step reply v → Runs w (steps ++ step ∷ []) (replies ++ reply ∷ []) v
runs_push w m v [] [] step reply run d = (v, subst (λ (x : World). Does x step reply v) run d, refl)
runs_push w m v [] (r ∷ rs) step reply run d = absurd run
runs_push w m v (s ∷ ss) [] step reply run d = absurd run
runs_push w m v (s ∷ ss) (r ∷ rs) step reply run d = (run.0, run.1, runs_push run.0 m v ss rs step reply run.2 d)

pub runs_more : (w m v : World) (steps : List Step) (replies : List Reply) (i : ℕ) (step : Step) (reply : Reply) → i < length steps → step ≡ get_or steps i step → Runs w (take i steps) replies m → Does m step reply v → Runs w (take (i + 1) steps) (replies ++ reply ∷ []) v
runs_more w m v steps replies i step reply lt e run d =
    subst (λ (l : List Step). Runs w l (replies ++ reply ∷ []) v) (sym (take_more steps i step lt ∙ ap (λ (s : Step). take i steps ++ s ∷ []) (sym e)))
    (runs_push w m v (take i steps) replies step reply run d)
