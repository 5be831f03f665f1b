-- The next change is applied, and more.
use Rattle.std.proofs.Common.{◌≡◌, ℕ, zero, suc, ◌+◌, ◌<◌, ◌≤◌, List, [], ◌∷◌, length, map, drop, get_or, refl, sym, ap, inl, inr, arith, subst, Result, Ok, Err}
use Rattle.std.specs.List.{AllByRecursion}
use Rattle.std.specs.Result.{OnErr}
use Rattle.route_model.specs.Admission.{Admitted}
use Rattle.route_meaning.specs.Holds.{time_of}
use Rattle.route_meaning.specs.Merged.{Placed, all_placed, IsRising}
use Rattle.route_meaning.specs.History.{Intake, History, IsBelowMarks, all_of, waiting}
use Rattle.route_meaning.proofs.api.Sorting.{all_weaker, rises_by_time}
use Rattle.route_meaning.proofs.api.Settling.{rises_drop}
use Rattle.interleaving_core.specs.Steps.{moved, Applies, AppliesMore, NothingToApply}

-- the list from a place on is the admission at this place, and those after it
pub waits : (n : ℕ) (ps : List (Placed Admitted)) (p : Placed Admitted) → n < length ps → p ≡ get_or ps n p → drop n ps ≡ p ∷ drop (suc n) ps
waits n [] p lt e = absurd (omega arith)
waits zero (q ∷ ps) p lt e = ap (λ (x : Placed Admitted). x ∷ ps) (sym e)
waits (suc n) (q ∷ ps) p lt e = waits n ps p (omega arith) e

module _ (h : History) (next : Placed Admitted) (later : List (Placed Admitted)) (here : waiting h ≡ next ∷ later) where
  pub applies_part : IsBelowMarks h (time_of next) → suc h.some < length next.item.changes → Applies h (moved h h.whole (suc h.some))
  applies_part below lt = record { next = next; later = later; here = here; below = below; part = λ l. refl; whole = λ l. absurd (omega arith) }

  pub applies_whole : IsBelowMarks h (time_of next) → length next.item.changes ≤ suc h.some → Applies h (moved h (suc h.whole) 0)
  applies_whole below le = record { next = next; later = later; here = here; below = below; part = λ l. absurd (omega arith); whole = λ l. refl }

  -- where the first that waits isn't below every mark, nothing may be applied: those after it are no earlier
  pub nothing : (IsBelowMarks h (time_of next) → ⊥) → NothingToApply h
  nothing never =
      let all_rise : IsRising time_of (waiting h) = rises_drop time_of h.whole (all_of h) (rises_by_time time_of (all_placed 0 (map (λ (i : Intake). i.admitted) h.intakes))) in
      let rise : IsRising time_of (next ∷ later) = subst (IsRising time_of) here all_rise in
      let others : AllByRecursion (λ p. IsBelowMarks h (time_of p) → ⊥) later =
      all_weaker _ _ (λ p le below. never (all_weaker _ _ (λ (i : Intake) lt. let low : time_of p < i.mark = lt in let no_later : time_of next ≤ time_of p = le in omega (arith, low, no_later)) h.intakes below)) later rise.0 in
      subst (AllByRecursion (λ p. IsBelowMarks h (time_of p) → ⊥)) (sym here) (never, others)

-- beyond the last nothing waits
pub past_all : (n : ℕ) (ps : List (Placed Admitted)) → length ps ≤ n → drop n ps ≡ []
past_all zero [] le = refl
past_all zero (p ∷ ps) le = absurd (omega arith)
past_all (suc n) [] le = refl
past_all (suc n) (p ∷ ps) le = past_all n ps (omega arith)

pub none_waits : (h : History) → length (all_of h) ≤ h.whole → NothingToApply h
none_waits h le = subst (AllByRecursion (λ p. IsBelowMarks h (time_of p) → ⊥)) (sym (past_all h.whole (all_of h) le)) tt

-- exactly this many changes are applied
abbrev pub AppliesAll : ℕ → History → History → Type 0
AppliesAll zero h g = g ≡ h
AppliesAll (suc n) h g = (m : History) × Applies h m × AppliesAll n m g

pub all_push : (n : ℕ) (h m g : History) → AppliesAll n h m → Applies m g → AppliesAll (n + 1) h g
all_push n h m g all a = subst (λ k. AppliesAll k h g) (let e : suc n ≡ n + 1 = omega arith in e) (go n h all)
  where
    go : (k : ℕ) (f : History) → AppliesAll k f m → AppliesAll (suc k) f g
    go zero f e = (g, subst (λ (x : History). Applies x g) e a, refl)
    go (suc k) f some = (some.0, some.1, go k some.0 some.2)

pub all_more : (n : ℕ) (h g : History) → AppliesAll n h g → AppliesMore n h g
all_more zero h g e = e
all_more (suc n) h g some = inl (some.0, some.1, all_more n some.0 g some.2)

-- no more may be applied
pub stop_more : (k n : ℕ) (h g : History) → k ≤ n → AppliesAll k h g → NothingToApply g → AppliesMore n h g
stop_more zero zero h g le e none = e
stop_more zero (suc n) h g le e none = inr (subst NothingToApply e none, e)
stop_more (suc k) zero h g le some none = absurd (omega arith)
stop_more (suc k) (suc n) h g le some none = inl (some.0, some.1, stop_more k n some.0 g (omega arith) some.2 none)

-- what holds, holds of an error
pub of_error : {T E P : Type 0} (r : Result T E) → P → OnErr r P
of_error (Ok x) p = tt
of_error (Err e) p = p
