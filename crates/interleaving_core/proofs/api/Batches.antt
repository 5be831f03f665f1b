-- What of a batch is late, admission by admission.
use Rattle.std.proofs.Common.{◌≡◌, ℕ, ◌+◌, List, [], ◌∷◌, ◌++◌, map, refl, ap, ◌∙◌, inl, inr}
use Rattle.std.proofs.lemmas.Bool.{cases_Bool}
use Rattle.sequencer.specs.declared.late.Late.{Late}
use Rattle.sequencer.specs.Late.{greatest, is_late, lates}

pub lates-map : {X : Type 0} (f : X → ℕ) (mark : ℕ) (earlier : List ℕ) (i : ℕ) (xs : List X) → lates (λ t. t) mark earlier i (map f xs) ≡ lates f mark earlier i xs
lates-map f mark earlier i [] = refl
lates-map f mark earlier i (x ∷ xs) =
    let rest = lates-map f mark (earlier ++ f x ∷ []) (i + 1) xs in
    elim (cases_Bool (is_late mark earlier (f x))) [
      | inl e ↦ rw e (ap (λ (l : List Late). record { index = i; time = f x; mark = greatest mark earlier } ∷ l) rest)
      | inr e ↦ rw e rest
    ]

-- the late ones of a batch are those of its times
pub lates_of : {X : Type 0} (f : X → ℕ) (mark : ℕ) (xs : List X) (times : List ℕ) (late : List Late) → times ≡ map f xs → late ≡ lates (λ t. t) mark [] 0 times → late ≡ lates f mark [] 0 xs
lates_of f mark xs times late same reported = reported ∙ (ap (lates (λ t. t) mark [] 0) same ∙ lates-map f mark [] 0 xs)
