-- Where a stamp lies in parts that follow one another.
use Rattle.std.proofs.Common.{◌≡◌, ℕ, zero, suc, ◌<◌, ◌≤◌, inl, inr, List, [], ◌∷◌, Some, slice_get, refl, subst, ap, arith}
use Rattle.std.proofs.lemmas.Bool.{cases_lt, cases_order}
use Rattle.std.proofs.lemmas.Option.{same_Some}
use Rattle.std.specs.List.{AllByRecursion}
use Rattle.version_model.specs.declared.part.Part.{Part}
use Rattle.version_model.specs.Blocks.{start_or}
use Rattle.tsb_node.specs.Columns.{AreAscending, starts_of}

none_at : (j : ℕ) (q : Part) → slice_get [] j ≡ Some q → ⊥
none_at zero q at = absurd (cc)
none_at (suc j) q at = absurd (cc)

above_at : (n : ℕ) (parts : List Part) → AllByRecursion (λ later. n < later) (starts_of parts) → (j : ℕ) (q : Part) → slice_get parts j ≡ Some q → n < q.start
above_at n [] all j q at = absurd (none_at j q at)
above_at n (p ∷ rest) all zero q at = subst (λ (x : Part). n < x.start) (same_Some p q at) all.0
above_at n (p ∷ rest) all (suc j) q at = above_at n rest all.1 j q at

-- the first of parts doesn't start after another
first_from : (parts : List Part) (end : ℕ) → AreAscending (starts_of parts) → (j : ℕ) (q : Part) → slice_get parts j ≡ Some q → start_or end (slice_get parts 0) ≤ q.start
first_from [] end rising j q at = absurd (none_at j q at)
first_from (p ∷ rest) end rising zero q at = (let same = ap (λ (x : Part). x.start) (same_Some p q at) in omega (arith, same))
first_from (p ∷ rest) end rising (suc j) q at = (let lt = above_at p.start rest rising.0 j q at in omega (arith, lt))

-- a later part doesn't start before the end of an earlier one
next_from : (parts : List Part) (end : ℕ) → AreAscending (starts_of parts) → (i j : ℕ) (q : Part) → i < j → slice_get parts j ≡ Some q → start_or end (slice_get parts (suc i)) ≤ q.start
next_from [] end rising i j q lt at = absurd (none_at j q at)
next_from (p ∷ rest) end rising i zero q lt at = absurd (omega (arith, lt))
next_from (p ∷ rest) end rising zero (suc j) q lt at = first_from rest end rising.1 j q at
next_from (p ∷ rest) end rising (suc i) (suc j) q lt at = next_from rest end rising.1 i j q (omega (arith, lt)) at

-- the stamp lies in the part at a place
pub record LocatedIn (parts : List Part) (end stamp place : ℕ) (part : Part) : Type 0 where
  pub at : slice_get parts place ≡ Some part
  pub from : part.start ≤ stamp
  pub before : stamp < start_or end (slice_get parts (suc place))

-- it lies in one part alone
pub one_place : (parts : List Part) (end stamp i j : ℕ) (p q : Part) → AreAscending (starts_of parts) → LocatedIn parts end stamp i p → LocatedIn parts end stamp j q → i ≡ j
one_place parts end stamp i j p q rising a b = elim (cases_order i j) [
  | inl same ↦ same
  | inr apart ↦ elim apart [
    | inl lt ↦ (let h = next_from parts end rising i j q lt b.at in absurd (omega (arith, h, a.before, b.from)))
    | inr gt ↦ (let h = next_from parts end rising j i p gt a.at in absurd (omega (arith, h, b.before, a.from)))
  ]
]

pub record Spot (parts : List Part) (end stamp : ℕ) : Type 0 where
  pub place : ℕ
  pub part : Part
  pub located : LocatedIn parts end stamp place part

-- it lies in one of them
pub spot_in : (parts : List Part) (end stamp : ℕ) (first : Part) → slice_get parts 0 ≡ Some first → first.start ≤ stamp → stamp < end → Spot parts end stamp
spot_in [] end stamp first at low high = absurd (none_at 0 first at)
spot_in (p ∷ []) end stamp first at low high =
    (let same = ap (λ (x : Part). x.start) (same_Some p first at) in
    record { place = 0; part = p; located = record { at = refl; from = omega (arith, same, low); before = high } })
spot_in (p ∷ q ∷ rest) end stamp first at low high = elim (cases_lt stamp q.start) [
  | inl lt ↦ (let same = ap (λ (x : Part). x.start) (same_Some p first at) in
      record { place = 0; part = p; located = record { at = refl; from = omega (arith, same, low); before = lt } })
  | inr le ↦ (let s = spot_in (q ∷ rest) end stamp q refl le high in
      record { place = suc s.place; part = s.part; located = record { at = s.located.at; from = s.located.from; before = s.located.before } })
]
