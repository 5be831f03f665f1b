-- What was sieved goes on rising.
use Rattle.std.proofs.Common.{◌≡◌, ℕ, ◌≤◌, List, [], ◌∷◌, ◌++◌, length, cond, ltb, refl, sym, ap, ◌∙◌, subst, arith, max, inl, inr}
use Rattle.std.specs.List.{AllByRecursion}
use Rattle.std.proofs.lemmas.Bool.{lt-ltb, le-ltb, cases_lt}
use Rattle.route_meaning.specs.Merged.{IsRising}
use Rattle.route_meaning.proofs.api.Sorting.{all_weaker, all_append}
use Rattle.sequencer.specs.Late.{greatest, timely}
use Rattle.sequencer.specs.Lanes.{Waiting, IsLane}
use Rattle.sequencer.proofs.api.Sieving.{greatest-push, is_late-greatest}

-- the times that aren't below a running mark
abbrev pub rising_part : ℕ → List ℕ → List ℕ
rising_part m [] = []
rising_part m (t ∷ ts) = cond (ltb t m) (rising_part m ts) (t ∷ rising_part t ts)

part_is : (m : ℕ) (earlier ts : List ℕ) → timely (λ t. t) m earlier ts ≡ rising_part (greatest m earlier) ts
part_is m earlier [] = refl
part_is m earlier (t ∷ ts) =
    let rest : timely (λ u. u) m (earlier ++ t ∷ []) ts ≡ rising_part (max t (greatest m earlier)) ts = part_is m (earlier ++ t ∷ []) ts ∙ ap (λ (n : ℕ). rising_part n ts) (greatest-push m earlier t) in
    elim (cases_lt t (greatest m earlier)) [
      | inl lt ↦
          let same : max t (greatest m earlier) ≡ greatest m earlier = omega arith in
          rw (is_late-greatest m earlier t, lt-ltb t (greatest m earlier) lt) (rest ∙ ap (λ (n : ℕ). rising_part n ts) same)
      | inr ge ↦
          let same : max t (greatest m earlier) ≡ t = omega arith in
          rw (is_late-greatest m earlier t, le-ltb t (greatest m earlier) ge) (ap (λ (l : List ℕ). t ∷ l) (rest ∙ ap (λ (n : ℕ). rising_part n ts) same))
    ]

part_above : (m : ℕ) (ts : List ℕ) → AllByRecursion (λ t. m ≤ t) (rising_part m ts)
part_above m [] = tt
part_above m (t ∷ ts) = elim (cases_lt t m) [
  | inl lt ↦ rw (lt-ltb t m lt) (part_above m ts)
  | inr ge ↦ rw (le-ltb t m ge) (ge, all_weaker (λ u. t ≤ u) (λ u. m ≤ u) (λ u le. omega arith) (rising_part t ts) (part_above t ts))
]

part_rises : (m : ℕ) (ts : List ℕ) → IsRising (λ t. t) (rising_part m ts)
part_rises m [] = tt
part_rises m (t ∷ ts) = elim (cases_lt t m) [
  | inl lt ↦ rw (lt-ltb t m lt) (part_rises m ts)
  | inr ge ↦ rw (le-ltb t m ge) (part_above t ts, part_rises t ts)
]

pub greatest-above : (m : ℕ) (ts : List ℕ) → m ≤ greatest m ts
greatest-above m [] = omega arith
greatest-above m (t ∷ ts) = omega (arith, greatest-above m ts)

greatest-mono : (m n : ℕ) (ts : List ℕ) → greatest m ts ≤ max m (greatest n ts)
greatest-mono m n [] = omega arith
greatest-mono m n (t ∷ ts) = omega (arith, greatest-mono m n ts)

part_below : (m : ℕ) (ts : List ℕ) → AllByRecursion (λ t. t ≤ greatest m ts) (rising_part m ts)
part_below m [] = tt
part_below m (t ∷ ts) = elim (cases_lt t m) [
  | inl lt ↦ rw (lt-ltb t m lt) (all_weaker (λ u. u ≤ greatest m ts) (λ u. u ≤ max t (greatest m ts)) (λ u le. omega arith) (rising_part m ts) (part_below m ts))
  | inr ge ↦ rw (le-ltb t m ge) ((let g = greatest-above m ts in omega arith), all_weaker (λ u. u ≤ greatest t ts) (λ u. u ≤ max t (greatest m ts)) (λ u le. let g = greatest-mono t m ts in omega arith) (rising_part t ts) (part_below t ts))
]

-- what rises up to m, and then what rises from m on
pub rises_append : (m : ℕ) (xs ys : List ℕ) → IsRising (λ t. t) xs → AllByRecursion (λ t. t ≤ m) xs → AllByRecursion (λ t. m ≤ t) ys → IsRising (λ t. t) ys → IsRising (λ t. t) (xs ++ ys)
rises_append m [] ys rx bx ay ry = ry
rises_append m (x ∷ xs) ys rx bx ay ry = (all_append (λ y. x ≤ y) xs ys rx.0 (all_weaker (λ y. m ≤ y) (λ y. x ≤ y) (λ y le. let b = bx.0 in omega arith) ys ay), rises_append m xs ys rx.1 bx.1 ay ry)

few_part : (m : ℕ) (ts : List ℕ) → length (rising_part m ts) ≤ length ts
few_part m [] = omega arith
few_part m (t ∷ ts) = elim (cases_lt t m) [
  | inl lt ↦ rw (lt-ltb t m lt) (omega (arith, few_part m ts))
  | inr ge ↦ rw (le-ltb t m ge) (omega (arith, few_part t ts))
]

-- no more are timely than were offered
pub few_timely : (m : ℕ) (earlier ts : List ℕ) → length (timely (λ t. t) m earlier ts) ≤ length ts
few_timely m earlier ts = subst (λ (l : List ℕ). length l ≤ length ts) (sym (part_is m earlier ts)) (few_part (greatest m earlier) ts)

-- none of the timely is below the mark
pub timely_above : (m : ℕ) (ts : List ℕ) → AllByRecursion (λ t. m ≤ t) (timely (λ t. t) m [] ts)
timely_above m ts = subst (AllByRecursion (λ t. m ≤ t)) (sym (part_is m [] ts)) (part_above m ts)

-- the timely rise
pub timely_rises : (m : ℕ) (ts : List ℕ) → IsRising (λ t. t) (timely (λ t. t) m [] ts)
timely_rises m ts = subst (IsRising (λ t. t)) (sym (part_is m [] ts)) (part_rises m ts)

-- none of them is above the mark after them
pub timely_below : (m : ℕ) (ts : List ℕ) → AllByRecursion (λ t. t ≤ greatest m ts) (timely (λ t. t) m [] ts)
timely_below m ts = subst (AllByRecursion (λ t. t ≤ greatest m ts)) (sym (part_is m [] ts)) (part_below m ts)

-- a lane takes in what was sieved at its mark
pub taken_in : (w : Waiting) (room : ℕ) (ts : List ℕ) → IsLane w → IsLane (record { mark = greatest w.mark ts; times = w.times ++ timely (λ t. t) w.mark [] ts; room = room })
taken_in w room ts is =
    let part = part_is w.mark [] ts in
    let g = greatest-above w.mark ts in
    record {
      rising = subst (λ (l : List ℕ). IsRising (λ t. t) (w.times ++ l)) (sym part) (rises_append w.mark w.times (rising_part w.mark ts) is.rising is.below (part_above w.mark ts) (part_rises w.mark ts));
      below = subst (λ (l : List ℕ). AllByRecursion (λ t. t ≤ greatest w.mark ts) (w.times ++ l)) (sym part) (all_append (λ t. t ≤ greatest w.mark ts) w.times (rising_part w.mark ts) (all_weaker (λ t. t ≤ w.mark) (λ t. t ≤ greatest w.mark ts) (λ t le. omega arith) w.times is.below) (part_below w.mark ts));
    }

-- a lane without its first time
pub popped : (w : Waiting) (time : ℕ) (rest : List ℕ) (room : ℕ) → w.times ≡ time ∷ rest → IsLane w → IsLane (record { mark = w.mark; times = rest; room = room })
popped w time rest room e is =
    let rising = subst (IsRising (λ t. t)) e is.rising in
    let below = subst (AllByRecursion (λ t. t ≤ w.mark)) e is.below in
    record { rising = rising.1; below = below.1 }
