-- Times that are scaled one after another.
use Rattle.std.proofs.Common.{◌≡◌, ◌<◌, ◌≤◌, ℕ, zero, suc, ◌*◌, List, [], ◌∷◌, length, refl, sym, ap, ◌∙◌, subst, arith, Option, Some, None, IfNone}
use Rattle.std.specs.List.{AllByRecursion, slice_get, slice_set}
use Rattle.route_model.specs.Moments.{IsMoment}
use Rattle.archive_pages.specs.Stored.{scaled_times}

-- one more
pub next_scaled : (k i : ℕ) (ts : List ℕ) (t : ℕ) → slice_get (scaled_times k i ts) i ≡ Some t → slice_set (scaled_times k i ts) i (t * k) ≡ scaled_times k (suc i) ts
next_scaled k zero [] t e = cc
next_scaled k zero (u ∷ ts) t e = let same : u ≡ t = cc in ap (λ (v : ℕ). v * k ∷ ts) (sym same)
next_scaled k (suc i) [] t e = cc
next_scaled k (suc i) (u ∷ ts) t e = ap (λ (l : List ℕ). u * k ∷ l) (next_scaled k i ts t e)

-- where the next one is no moment
pub none_scaled : (k i n : ℕ) (ts : List ℕ) (t : ℕ) → i < n → slice_get (scaled_times k i ts) i ≡ Some t → (IsMoment (t * k) → ⊥) → AllByRecursion IsMoment (scaled_times k n ts) → ⊥
none_scaled k zero zero ts t lt e none all = omega (arith, lt)
none_scaled k zero (suc n) [] t lt e none all = cc
none_scaled k zero (suc n) (u ∷ ts) t lt e none all = let same : u ≡ t = cc in none (subst (λ (v : ℕ). IsMoment (v * k)) same all.0)
none_scaled k (suc i) zero ts t lt e none all = omega (arith, lt)
none_scaled k (suc i) (suc n) [] t lt e none all = cc
none_scaled k (suc i) (suc n) (u ∷ ts) t lt e none all = none_scaled k i n ts t (omega (arith, lt)) e none all.1

-- as many are left
pub length-scaled : (k n : ℕ) (ts : List ℕ) → length (scaled_times k n ts) ≡ length ts
length-scaled k zero ts = refl
length-scaled k (suc n) [] = refl
length-scaled k (suc n) (t ∷ ts) = ap suc (length-scaled k n ts)

pub none_if : {X : Type 0} (o : Option X) (A : Type 0) → A → IfNone o A
none_if None A a = a
none_if (Some x) A a = tt
