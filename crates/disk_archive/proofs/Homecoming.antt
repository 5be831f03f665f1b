-- What a step of flushing wrote home.
use Rattle.std.proofs.Common.{◌≡◌, ◌↔◌, ℕ, Bool, true, false, not, List, [], ◌∷◌, length, refl, sym, subst, ◌∙◌, ap, arith, true≢false, inl}
use Rattle.std.specs.Prelude.{IfSome, filter, ◌==◌, slice_get}
use Rattle.page_journal.specs.Recovers.{IsListed}
use Rattle.disk_archive.specs.Homes.{IsHomed}

-- a page was written home, the first of those that weren't
pub homed : (old new : List ℕ) (more : Bool) → more ≡ true → ((more ≡ false) ↔ (length old ≡ 0)) → IfSome (slice_get old 0) (λ n. new ≡ filter (λ m. not (m == n)) old) → IsHomed old new
homed [] new more written iff some = absurd (true≢false (sym written ∙ iff.1 refl))
homed (x ∷ xs) new more written iff some = record { first = x; others = xs; was = refl; left = some }

pub none_of : (xs : List ℕ) → length xs ≡ 0 → xs ≡ []
none_of [] e = refl
none_of (x ∷ xs) e = absurd (omega (arith, e))

-- none was
pub none_left : (old : List ℕ) (more : Bool) → more ≡ false → ((more ≡ false) ↔ (length old ≡ 0)) → old ≡ []
none_left old more none iff = none_of old (iff.0 none)

pub some_left : (old : List ℕ) (more : Bool) → more ≡ true → ((more ≡ false) ↔ (length old ≡ 0)) → old ≡ [] → ⊥
some_left old more written iff none = true≢false (sym written ∙ iff.1 (ap (λ (l : List ℕ). length l) none))

-- where none waited, and those that wait now waited then, none waits
pub still_none : (old new : List ℕ) → old ≡ [] → ((n : ℕ) → IsListed n new → IsListed n old) → new ≡ old
still_none old [] none only = sym none
still_none old (x ∷ xs) none only = absurd (subst (IsListed x) none (only x (inl refl)))
