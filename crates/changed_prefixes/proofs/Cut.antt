-- The first of all spots, as an answer.
use Rattle.std.proofs.Common.{ℕ, zero, suc, ◌<◌, ◌⊎◌, inl, inr, List, [], ◌∷◌, length, take, ltb, refl, arith}
use Rattle.std.specs.List.{AllByRecursion}
use Rattle.std.proofs.lemmas.Bool.{lt-ltb, ltb-true}
use Rattle.std.proofs.lemmas.List.{length-take}
use Rattle.route_model.specs.Admission.{Admitted}
use Rattle.route_meaning.specs.declared.question.ChangedQuestion.{ChangedQuestion}
use Rattle.route_meaning.specs.declared.question.Spot.{Spot}
use Rattle.route_meaning.specs.Changed.{AreSpotsRising, IsAboveAll, IsChanged, IsChangedAnswer}
use Rattle.route_meaning.specs.Merged.{Placed}
use Rattle.route_meaning.specs.Rows.{most_rows, spot_number}
use Rattle.changed_prefixes.specs.inner.Gathered.{AreAllChanged}
use Rattle.changed_prefixes.proofs.Members.{IsIn, is_in, contains, in_all}

all_take : {X : Type 0} (P : X → Type 0) (n : ℕ) (xs : List X) → AllByRecursion P xs → AllByRecursion P (take n xs)
all_take P zero xs a = tt
all_take P (suc n) [] a = tt
all_take P (suc n) (x ∷ xs) a = (a.0, all_take P n xs a.1)

rising_take : (n : ℕ) (spots : List Spot) → AreSpotsRising spots → AreSpotsRising (take n spots)
rising_take zero spots r = tt
rising_take (suc n) [] r = tt
rising_take (suc n) (s ∷ spots) r = (all_take _ n spots r.0, rising_take n spots r.1)

-- a spot is one of the first n, or above them all
place : (n : ℕ) (spot : Spot) (spots : List Spot) → AreSpotsRising spots → IsIn spot spots → IsIn spot (take n spots) ⊎ ((n < length spots) × IsAboveAll (take n spots) spot)
place n spot [] r h = absurd h
place zero spot (s ∷ spots) r h = inr (omega arith, tt)
place (suc n) spot (s ∷ spots) r h = elim h [
  | inl e ↦ inl (inl e)
  | inr rest ↦ elim (place n spot spots r.1 rest) [
    | inl first ↦ inl (inr first)
    | inr beyond ↦ inr (omega (arith, beyond.0), (in_all (λ next. spot_number s < spot_number next) spot spots r.0 rest, beyond.1))
  ]
]

-- a spot of the list above the first n
record Next (n : ℕ) (spots : List Spot) : Type 0 where
  spot : Spot
  member : IsIn spot spots
  above : IsAboveAll (take n spots) spot

next_after : (n : ℕ) (spots : List Spot) → AreSpotsRising spots → n < length spots → Next n spots
next_after n [] r lt = absurd (omega arith)
next_after zero (s ∷ spots) r lt = record { spot = s; member = inl refl; above = tt }
next_after (suc n) (s ∷ spots) r lt =
    let next = next_after n spots r.1 (omega arith) in
    record { spot = next.spot; member = inr next.member; above = (in_all (λ it. spot_number s < spot_number it) next.spot spots r.0 next.member, next.above) }

pub cut : (ps : List (Placed Admitted)) (q : ChangedQuestion) (spots : List Spot) → AreAllChanged ps q spots → IsChangedAnswer ps q (take most_rows spots) (ltb most_rows (length spots))
cut ps q spots a = record {
  rising = rising_take most_rows spots a.rising;
  only = all_take (IsChanged ps q) most_rows spots a.only;
  each = λ spot h. elim (place most_rows spot spots a.rising (is_in spot spots (a.each spot h))) [
    | inl first ↦ inl (contains spot (take most_rows spots) first)
    | inr beyond ↦ inr (lt-ltb most_rows (length spots) beyond.0, beyond.1)
  ];
  few = omega (arith, length-take most_rows spots);
  full = λ e. (
      let lt : most_rows < length spots = ltb-true most_rows (length spots) e in
      let next = next_after most_rows spots a.rising lt in
      (omega (arith, length-take most_rows spots), record { next = next.spot; changed = in_all (IsChanged ps q) next.spot spots a.only next.member; above = next.above }));
}
