-- What is applied stays the front of all, and the settled moment never falls.
use Rattle.std.proofs.Common.{◌≡◌, ℕ, ◌+◌, ◌<◌, ◌≤◌, ◌⊎◌, List, [], ◌∷◌, ◌++◌, length, take, drop, map, Bool, true, false, cond, leb, eqb, refl, sym, ap, ◌∙◌, subst, inl, inr, arith, zero, suc, append-nil, min, max}
use Rattle.std.specs.List.{AllByRecursion, AllZip, filter}
use Rattle.std.proofs.lemmas.List.{take-append-drop, length-take}
use Rattle.std.proofs.lemmas.List.Elements.{filter-append}
use Rattle.std.proofs.lemmas.Bool.{leb-true, leb-false, le-leb, lt-leb, cases_Bool, cases_eq, eq-eqb, ne_eqb, cond_both}
use Rattle.route_model.specs.Admission.{Admitted}
use Rattle.route_meaning.specs.Holds.{admitted_time, time_of}
use Rattle.route_meaning.specs.Merged.{by_time}
use Rattle.route_meaning.specs.Merged.{IsRising, Placed, all_placed, merged, part}
use Rattle.route_meaning.specs.Holds.{until}
use Rattle.route_meaning.specs.History.{Intake, History, GoesOn, floor, IsHistory, IsPlace, IsBelowMarks, Begins, all_of, waiting, begun, front, applied, first_or, bounds, least, settled}
use Rattle.route_meaning.proofs.api.Sorting.{all_weaker, all_append, all_filter, rises_by_time}
use Rattle.route_meaning.proofs.Merging.{until-merged, until-all_placed}
use Rattle.route_meaning.proofs.api.Settling.{all_take, rises_drop, marks_above_settled, waiting_after_settled, until-late, until-begins}

-- below every mark nothing more can come
pub until-marks : (h g : History) (moment : ℕ) → AllZip (λ i j. GoesOn (floor i) i j) h.intakes g.intakes → AllByRecursion (λ i. moment < i.mark) h.intakes → until moment (all_of g) ≡ until moment (all_of h)
until-marks h g moment each below =
    until-merged moment (map (λ i. i.admitted) g.intakes)
    ∙ (ap (by_time time_of) (until-all_placed moment 0 h.intakes g.intakes each below)
    ∙ sym (until-merged moment (map (λ i. i.admitted) h.intakes)))

take-until : (moment n : ℕ) (ps : List (Placed Admitted)) → AllByRecursion (λ p. time_of p ≤ moment) (take n ps) → take n (until moment ps) ≡ take n ps
take-until moment zero ps a = refl
take-until moment (suc n) [] a = refl
take-until moment (suc n) (p ∷ ps) a = rw (le-leb (time_of p) moment a.0) (ap (λ l. p ∷ l) (take-until moment n ps a.1))

all_late : (moment : ℕ) (p : Placed Admitted) (ps : List (Placed Admitted)) → IsRising time_of (p ∷ ps) → leb (time_of p) moment ≡ false → AllByRecursion (λ q. moment < time_of q) (p ∷ ps)
all_late moment p ps r e = let lt : moment < time_of p = leb-false _ _ e in (lt, all_weaker _ _ (λ q h. let le : time_of p ≤ time_of q = h in omega arith) ps r.0)

until-take : (moment n : ℕ) (ps : List (Placed Admitted)) → IsRising time_of ps → n ≤ length (until moment ps) → take n (until moment ps) ≡ take n ps
until-take moment zero ps r le = refl
until-take moment (suc n) [] r le = refl
until-take moment (suc n) (p ∷ ps) r le =
    elim (cases_Bool (leb (time_of p) moment)) [
      | inl e ↦ let le' = le in let le'' = rw e at le' in rw e (ap (λ l. p ∷ l) (until-take moment n ps r.1 (omega arith)))
      | inr e ↦ let none = until-late moment (p ∷ ps) (all_late moment p ps r e) in let le' : suc n ≤ length (until moment (p ∷ ps)) = le in let zero_ = ap length none in absurd (omega arith)
    ]

drop_late : (moment k : ℕ) (ps : List (Placed Admitted)) → IsRising time_of ps → length (until moment ps) ≤ k → AllByRecursion (λ p. moment < time_of p) (drop k ps)
drop_late moment zero [] r le = tt
drop_late moment zero (p ∷ ps) r le =
    elim (cases_Bool (leb (time_of p) moment)) [
      | inl e ↦ let le' = le in let le'' = rw e at le' in absurd (omega arith)
      | inr e ↦ all_late moment p ps r e
    ]
drop_late moment (suc k) [] r le = tt
drop_late moment (suc k) (p ∷ ps) r le =
    elim (cases_Bool (leb (time_of p) moment)) [
      | inl e ↦ let le' = le in let le'' = rw e at le' in drop_late moment k ps r.1 (omega arith)
      | inr e ↦ all_drop_late moment k ps (all_late moment p ps r e).1
    ]
  where
    all_drop_late : (moment k : ℕ) (ps : List (Placed Admitted)) → AllByRecursion (λ p. moment < time_of p) ps → AllByRecursion (λ p. moment < time_of p) (drop k ps)
    all_drop_late moment zero ps a = a
    all_drop_late moment (suc k) [] a = tt
    all_drop_late moment (suc k) (p ∷ ps) a = all_drop_late moment k ps a.1

-- the latest time
latest : List (Placed Admitted) → ℕ
latest [] = 0
latest (p ∷ ps) = max (time_of p) (latest ps)

latest_is : (n : ℕ) (ps : List (Placed Admitted)) → latest ps ≤ n → AllByRecursion (λ p. time_of p ≤ n) ps
unfolding latest
latest_is n [] le = tt
latest_is n (p ∷ ps) le = (omega arith, latest_is n ps (omega arith))

latest_below : (m : ℕ) (ps : List (Placed Admitted)) → 0 < m → AllByRecursion (λ p. time_of p < m) ps → latest ps < m
unfolding latest
latest_below m [] pos a = pos
latest_below m (p ∷ ps) pos a = let lt : time_of p < m = a.0 in let ih = latest_below m ps pos a.1 in omega (arith, ih)

all_swap : (is : List Intake) (ps : List (Placed Admitted)) → AllByRecursion (λ p. AllByRecursion (λ i. time_of p < i.mark) is) ps → AllByRecursion (λ i. AllByRecursion (λ p. time_of p < i.mark) ps) is
all_swap [] ps a = tt
all_swap (i ∷ is) ps a = (all_weaker _ _ (λ p h. h.0) ps a, all_swap is ps (all_weaker _ _ (λ p h. h.1) ps a))

pub front_stays : (h g : History) (n : ℕ) → AllZip (λ i j. GoesOn (floor i) i j) h.intakes g.intakes → n ≤ length (all_of h) → AllByRecursion (λ p. IsBelowMarks h (time_of p)) (take n (all_of h)) → take n (all_of g) ≡ take n (all_of h)
front_stays h g zero each le a = refl
front_stays h g (suc n) each le a =
    let front = take (suc n) (all_of h) in
    let marks : AllByRecursion (λ i. latest front < i.mark) h.intakes = all_weaker _ _ (λ i b. latest_below i.mark front (positive i.mark front long b) b) h.intakes (all_swap h.intakes front a) in
    let same : until (latest front) (all_of g) ≡ until (latest front) (all_of h) = until-marks h g (latest front) each marks in
    let kept : take (suc n) (until (latest front) (all_of h)) ≡ front = take-until (latest front) (suc n) (all_of h) (latest_is (latest front) front (omega arith)) in
    let enough : suc n ≤ length (until (latest front) (all_of g)) = omega (arith, ap length kept, ap length same, length-take (suc n) (until (latest front) (all_of h)), length-take (suc n) (all_of h)) in
    sym (until-take (latest front) (suc n) (all_of g) (rises_by_time time_of (all_placed 0 (map (λ i. i.admitted) g.intakes))) enough)
    ∙ (ap (take (suc n)) same ∙ kept)
  where
    long : 0 < length (take (suc n) (all_of h))
    long = omega (arith, length-take (suc n) (all_of h))

    positive : (m : ℕ) (ps : List (Placed Admitted)) → 0 < length ps → AllByRecursion (λ p. time_of p < m) ps → 0 < m
    positive m [] lt b = absurd (omega arith)
    positive m (p ∷ ps) lt b = let lt' : time_of p < m = b.0 in omega arith

pub all_left : (P : Placed Admitted → Type 0) (xs ys : List (Placed Admitted)) → AllByRecursion P (xs ++ ys) → AllByRecursion P xs
all_left P [] ys a = tt
all_left P (x ∷ xs) ys a = (a.0, all_left P xs ys a.1)

-- one more
pub take_next : (n : ℕ) (ps : List (Placed Admitted)) (p : Placed Admitted) (qs : List (Placed Admitted)) → drop n ps ≡ p ∷ qs → take (suc n) ps ≡ take n ps ++ p ∷ []
take_next zero [] p qs e = cc
take_next zero (x ∷ xs) p qs e = let same : x ≡ p = cc in ap (λ (q : Placed Admitted). q ∷ []) same
take_next (suc n) [] p qs e = cc
take_next (suc n) (x ∷ xs) p qs e = ap (λ l. x ∷ l) (take_next n xs p qs e)

-- where the fronts are one for one more, what stands at the place is one
pub drop_same : (n : ℕ) (ps qs : List (Placed Admitted)) (p : Placed Admitted) (rest : List (Placed Admitted)) → drop n ps ≡ p ∷ rest → take (suc n) qs ≡ take (suc n) ps → (more : List (Placed Admitted)) × (drop n qs ≡ p ∷ more)
drop_same zero [] qs p rest d t = cc
drop_same zero (x ∷ xs) [] p rest d t = cc
drop_same zero (x ∷ xs) (y ∷ ys) p rest d t = let same : y ≡ p = cc in (ys, ap (λ (q : Placed Admitted). q ∷ ys) same)
drop_same (suc n) [] qs p rest d t = cc
drop_same (suc n) (x ∷ xs) [] p rest d t = cc
drop_same (suc n) (x ∷ xs) (y ∷ ys) p rest d t = drop_same n xs ys p rest d (let tails : take (suc n) ys ≡ take (suc n) xs = cc in tails)

begun_first : (some : ℕ) (p : Placed Admitted) (xs ys : List (Placed Admitted)) → begun some (p ∷ xs) ≡ begun some (p ∷ ys)
begun_first zero p xs ys = refl
begun_first (suc n) p xs ys = refl

pub begun_time : (P : ℕ → Type 0) (some : ℕ) (p : Placed Admitted) (xs : List (Placed Admitted)) → 0 < some → AllByRecursion (λ q. P (time_of q)) (begun some (p ∷ xs)) → P (time_of p)
begun_time P zero p xs lt a = absurd (omega arith)
begun_time P (suc n) p xs lt a = a.0

pub all_right : (P : Placed Admitted → Type 0) (xs ys : List (Placed Admitted)) → AllByRecursion P (xs ++ ys) → AllByRecursion P ys
all_right P [] ys a = a
all_right P (x ∷ xs) ys a = all_right P xs ys a.1

pub length_of_drop : (n : ℕ) (ps : List (Placed Admitted)) (p : Placed Admitted) (qs : List (Placed Admitted)) → drop n ps ≡ p ∷ qs → suc n ≤ length ps
length_of_drop zero [] p qs e = cc
length_of_drop zero (x ∷ xs) p qs e = omega arith
length_of_drop (suc n) [] p qs e = cc
length_of_drop (suc n) (x ∷ xs) p qs e = let ih = length_of_drop n xs p qs e in omega (arith, ih)

-- a front that consists of whole admissions
front_none : (n some : ℕ) (ps qs : List (Placed Admitted)) → some ≡ 0 → take n qs ≡ take n ps → front n some qs ≡ front n some ps
front_none n zero ps qs e t = ap (λ l. l ++ []) t
front_none n (suc k) ps qs e t = cc

-- a front with changes of the next admission
front_some : (n some : ℕ) (ps qs : List (Placed Admitted)) (next : Placed Admitted) (later : List (Placed Admitted)) → drop n ps ≡ next ∷ later → take n qs ≡ take n ps → take (suc n) qs ≡ take (suc n) ps → front n some qs ≡ front n some ps
front_some n some ps qs next later d t t' =
    let m = drop_same n ps qs next later d t' in
    let same : begun some (drop n qs) ≡ begun some (drop n ps) = ap (begun some) m.1 ∙ (begun_first some next m.0 later ∙ ap (begun some) (sym d)) in
    rw (t, same) refl

-- what is applied, wholly or in part, stays the front of all that was admitted
pub front_kept : (h g : History) → IsHistory h → Begins h g → front h.whole h.some (all_of g) ≡ applied h
front_kept h g is b =
    let wholly = all_left _ (take h.whole (all_of h)) (begun h.some (waiting h)) is.released in
    let same : take h.whole (all_of g) ≡ take h.whole (all_of h) = front_stays h g h.whole b.each is.place.within wholly in
    elim is.place.part [
      | inl none ↦ front_none h.whole h.some (all_of h) (all_of g) none same
      | inr next ↦ in_part next.0 next.1 next.2 wholly same
    ]
  where
    in_part : (next : Placed Admitted) (later : List (Placed Admitted)) → waiting h ≡ next ∷ later → AllByRecursion (λ p. IsBelowMarks h (time_of p)) (take h.whole (all_of h)) → take h.whole (all_of g) ≡ take h.whole (all_of h) → front h.whole h.some (all_of g) ≡ applied h
    in_part next later w wholly same =
        elim (cases_eq h.some 0) [
          | inl none ↦ front_none h.whole h.some (all_of h) (all_of g) none same
          | inr begun_ ↦
              let below : IsBelowMarks h (time_of next) =
              begun_time (IsBelowMarks h) h.some next later (omega arith) (subst (λ (l : List (Placed Admitted)). AllByRecursion (λ p. IsBelowMarks h (time_of p)) (begun h.some l)) w (all_right _ (take h.whole (all_of h)) (begun h.some (waiting h)) is.released)) in
              let longer : AllByRecursion (λ p. IsBelowMarks h (time_of p)) (take (suc h.whole) (all_of h)) =
              rw (take_next h.whole (all_of h) next later w) (all_append _ (take h.whole (all_of h)) (next ∷ []) wholly (below, tt)) in
              front_some h.whole h.some (all_of h) (all_of g) next later w same (front_stays h g (suc h.whole) b.each (length_of_drop h.whole (all_of h) next later w) longer)
        ]

-- ---- the settled moment

first_above : (n mark : ℕ) (ts : List Admitted) → n < mark → AllByRecursion (λ t. n < t.time) ts → n < first_or admitted_time mark ts
first_above n mark [] lt a = lt
first_above n mark (t ∷ ts) lt a = a.0

part_above : (n c : ℕ) (ps : List (Placed Admitted)) → AllByRecursion (λ p. n < time_of p) ps → AllByRecursion (λ t. n < t.time) (part c ps)
part_above n c [] a = tt
part_above n c (p ∷ ps) a =
    elim (cases_eq p.collector c) [
      | inl e ↦ rw (eq-eqb p.collector c e) (a.0, part_above n c ps a.1)
      | inr ne ↦ rw (ne_eqb p.collector c ne) (part_above n c ps a.1)
    ]

bounds_above : (n c : ℕ) (is : List Intake) (ps : List (Placed Admitted)) → AllByRecursion (λ i. n < i.mark) is → AllByRecursion (λ p. n < time_of p) ps → AllByRecursion (λ b. n < b) (bounds c is ps)
bounds_above n c [] ps a b = tt
bounds_above n c (i ∷ is) ps a b = (first_above n i.mark (part c ps) a.0 (part_above n c ps b), bounds_above n (suc c) is ps a.1 b)

below_least : (n : ℕ) (xs : List ℕ) → 0 < length xs → AllByRecursion (λ x. n < x) xs → n < least xs
below_least n [] long a = absurd (omega arith)
below_least n (x ∷ []) long a = a.0
below_least n (x ∷ y ∷ ys) long a = let lt : n < x = a.0 in let ih : n < least (y ∷ ys) = below_least n (y ∷ ys) (omega arith) a.1 in omega arith

length_bounds : (c : ℕ) (is : List Intake) (ps : List (Placed Admitted)) → length (bounds c is ps) ≡ length is
length_bounds c [] ps = refl
length_bounds c (i ∷ is) ps = ap suc (length_bounds (suc c) is ps)

length_least : (n : ℕ) (xs : List ℕ) → n < least xs → 0 < length xs
length_least n [] lt = absurd (omega arith)
length_least n (x ∷ xs) lt = omega arith

marks_go_on : (n : ℕ) (is js : List Intake) → AllZip (λ i j. GoesOn (floor i) i j) is js → AllByRecursion (λ i. n < i.mark) is → AllByRecursion (λ i. n < i.mark) js × (length is ≡ length js)
marks_go_on n [] [] z a = (tt, refl)
marks_go_on n [] (j ∷ js) z a = absurd z
marks_go_on n (i ∷ is) [] z a = absurd z
marks_go_on n (i ∷ is) (j ∷ js) z a = let r = marks_go_on n is js z.1 a.1 in let lt : n < i.mark = a.0 in let le : i.mark ≤ j.mark = z.0.mark in ((omega arith, r.0), ap suc r.1)

length_filter : (p : Placed Admitted → Bool) (ps : List (Placed Admitted)) → length (filter p ps) ≤ length ps
length_filter p [] = omega arith
length_filter p (q ∷ qs) = let ih = length_filter p qs in cond_both (p q) (q ∷ filter p qs) (filter p qs) (λ l. length l ≤ suc (length qs)) (λ e. omega (arith, ih)) (λ e. omega (arith, ih))

-- a moment that was settled stays settled
pub settled_stays : (h g : History) (moment : ℕ) → IsHistory h → Begins h g → moment < settled h → moment < settled g
settled_stays h g moment is b lt =
    let marks = marks_above_settled h moment is lt in
    let later = marks_go_on moment h.intakes g.intakes b.each marks in
    let same = until-begins h g moment is b lt in
    let none : until moment (waiting h) ≡ [] = until-late moment (waiting h) (waiting_after_settled h moment lt) in
    let split = ap (until moment) (sym (take-append-drop h.whole (all_of h))) ∙ (filter-append (λ p. leb (time_of p) moment) (take h.whole (all_of h)) (waiting h) ∙ (ap (λ l. until moment (take h.whole (all_of h)) ++ l) none ∙ append-nil (until moment (take h.whole (all_of h))))) in
    let few : length (until moment (all_of g)) ≤ g.whole =
    let n = length_filter (λ p. leb (time_of p) moment) (take h.whole (all_of h)) in
    elim b.place [
      | inl l ↦ omega (arith, ap length same, ap length split, n, length-take h.whole (all_of h))
      | inr e ↦ omega (arith, ap length same, ap length split, n, length-take h.whole (all_of h))
    ] in
    let waits = drop_late moment g.whole (all_of g) (rises_by_time time_of (all_placed 0 (map (λ i. i.admitted) g.intakes))) few in
    let long : 0 < length (bounds 0 g.intakes (waiting g)) = omega (arith, length_bounds 0 g.intakes (waiting g), length_bounds 0 h.intakes (waiting h), later.1, length_least moment (bounds 0 h.intakes (waiting h)) lt) in
    below_least moment (bounds 0 g.intakes (waiting g)) long (bounds_above moment 0 g.intakes (waiting g) later.0 waits)
