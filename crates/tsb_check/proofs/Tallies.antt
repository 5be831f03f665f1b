-- Versions are counted one after another.
use Rattle.std.proofs.Common.{◌≡◌, ℕ, zero, suc, ◌+◌, ◌≤◌, List, [], ◌∷◌, length, drop, Option, Some, slice_get, refl, ap, arith}
use Rattle.version_model.specs.Versions.{Version}
use Rattle.version_model.specs.Ranges.{Range, IsPoint}
use Rattle.version_model.specs.Counts.{is_within, count_in}
use Rattle.version_model.proofs.api.Counting.{within_yes, within_no}
use Rattle.version_model.proofs.api.Sizing.{drop_at}

one_more : (r : Range) (v : Version) (rest : List Version) → IsPoint r v.key v.stamp → count_in (v ∷ rest) r ≡ 1 + count_in rest r
one_more r v rest is = rw (within_yes r v (record { low = is.low; high = is.high; start = is.start; end = is.end })) (omega arith)

none_more : (r : Range) (v : Version) (rest : List Version) → (IsPoint r v.key v.stamp → ⊥) → count_in (v ∷ rest) r ≡ count_in rest r
none_more r v rest not = rw (within_no r v (λ is. not (record { low = is.low; high = is.high; start = is.start; end = is.end }))) refl

module _ (r : Range) (vs : List Version) (n c : ℕ) (v : Version) (at : slice_get vs n ≡ Some v) (before : c + count_in (drop n vs) r ≡ count_in vs r) where
  here : count_in (drop n vs) r ≡ count_in (v ∷ drop (n + 1) vs) r
  here = ap (λ ws. count_in ws r) (drop_at vs n v at)

  pub count_yes : IsPoint r v.key v.stamp → c + 1 + count_in (drop (n + 1) vs) r ≡ count_in vs r
  count_yes is = omega (arith, here, one_more r v (drop (n + 1) vs) is, before)

  pub count_no : (IsPoint r v.key v.stamp → ⊥) → c + count_in (drop (n + 1) vs) r ≡ count_in vs r
  count_no not = omega (arith, here, none_more r v (drop (n + 1) vs) not, before)

drop_none : (vs : List Version) (n : ℕ) → length vs ≤ n → drop n vs ≡ []
drop_none [] zero le = refl
drop_none [] (suc n) le = refl
drop_none (v ∷ vs) zero le = absurd (omega (arith, le))
drop_none (v ∷ vs) (suc n) le = drop_none vs n (omega (arith, le))

pub count_all : (r : Range) (vs : List Version) (n c : ℕ) → length vs ≤ n → c + count_in (drop n vs) r ≡ count_in vs r → c ≡ count_in vs r
count_all r vs n c le before =
    let none : count_in (drop n vs) r ≡ 0 = ap (λ ws. count_in ws r) (drop_none vs n le) in
    omega (arith, none, before)
