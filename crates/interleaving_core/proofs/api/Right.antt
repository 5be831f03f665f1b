-- Each step keeps a history right.
use Rattle.std.proofs.Common.{◌≡◌, ℕ, ◌<◌, ◌≤◌, ◌⊎◌, List, [], ◌∷◌, ◌++◌, length, take, drop, map, replicate, refl, sym, ap, ◌∙◌, subst, arith, zero, suc, Some, inl, inr, length-append}
use Rattle.route_model.specs.Moments.{IsMoment, last_mark}
use Rattle.std.specs.List.{AllByRecursion, AllZip, slice_get}
use Rattle.std.proofs.lemmas.Bool.{cases_eq, cases_lt, cases_Bool}
use Rattle.std.proofs.lemmas.List.{length-take, map-append}
use Rattle.route_model.specs.Admission.{Admitted, IsAdmission}
use Rattle.route_meaning.specs.Holds.{admitted_time, time_of}
use Rattle.route_meaning.specs.Merged.{Placed, merged, IsRising}
use Rattle.route_meaning.specs.History.{Intake, History, IsIntake, IsHistory, IsBelowMarks, GoesOn, floor, Begins, all_of, begun, front, waiting, applied}
use Rattle.route_meaning.proofs.api.Sorting.{all_weaker, all_append}
use Rattle.route_meaning.proofs.api.Beginning.{GoesOn-refl, each-refl, Begins-refl, Begins-trans}
use Rattle.route_meaning.proofs.api.Front.{front_kept, front_stays, all_left, all_right, take_next, drop_same, begun_time, length_of_drop}
use Rattle.sequencer.specs.Late.{greatest, is_late, timely}
use Rattle.sequencer.specs.Lanes.{IsLane}
use Rattle.sequencer.proofs.api.Rising.{taken_in, greatest-above, timely_above, few_timely}
use Rattle.interleaving_core.specs.Steps.{empty, changed, with_mark, with_batch, marked, moved, given, Applies, AppliesMore}
use Rattle.interleaving_core.proofs.api.GoingOn.{begins_applied}

pub timely-map : {X : Type 0} (f : X → ℕ) (mark : ℕ) (earlier : List ℕ) (xs : List X) → timely (λ t. t) mark earlier (map f xs) ≡ map f (timely f mark earlier xs)
timely-map f mark earlier [] = refl
timely-map f mark earlier (x ∷ xs) =
    let rest = timely-map f mark (earlier ++ f x ∷ []) xs in
    elim (cases_Bool (is_late mark earlier (f x))) [
      | inl e ↦ rw e rest
      | inr e ↦ rw e (ap (λ (l : List ℕ). f x ∷ l) rest)
    ]

pub all_timely : {X : Type 0} (P : X → Type 0) (f : X → ℕ) (mark : ℕ) (earlier : List ℕ) (xs : List X) → AllByRecursion P xs → AllByRecursion P (timely f mark earlier xs)
all_timely P f mark earlier [] all = tt
all_timely P f mark earlier (x ∷ xs) all =
    let rest = all_timely P f mark (earlier ++ f x ∷ []) xs all.1 in
    elim (cases_Bool (is_late mark earlier (f x))) [
      | inl e ↦ rw e rest
      | inr e ↦ rw e (all.0, rest)
    ]

length_map : {X Y : Type 0} (f : X → Y) (xs : List X) → length (map f xs) ≡ length xs
length_map f [] = refl
length_map f (x ∷ xs) = ap suc (length_map f xs)

pub few : {X : Type 0} (f : X → ℕ) (mark : ℕ) (xs : List X) → length (timely f mark [] xs) ≤ length xs
few f mark xs = omega (arith, few_timely mark [] (map f xs), ap length (timely-map f mark [] xs), length_map f (timely f mark [] xs), length_map f xs)

pub to_map : {X : Type 0} (f : X → ℕ) (P : ℕ → Type 0) (xs : List X) → AllByRecursion (λ x. P (f x)) xs → AllByRecursion P (map f xs)
to_map f P [] a = tt
to_map f P (x ∷ xs) a = (a.0, to_map f P xs a.1)

rising_map : {X : Type 0} (f : X → ℕ) (xs : List X) → IsRising f xs → IsRising (λ t. t) (map f xs)
rising_map f [] r = tt
rising_map f (x ∷ xs) r = (to_map f (λ t. f x ≤ t) xs r.0, rising_map f xs r.1)

pub from_map : {X : Type 0} (f : X → ℕ) (P : ℕ → Type 0) (xs : List X) → AllByRecursion P (map f xs) → AllByRecursion (λ x. P (f x)) xs
from_map f P [] a = tt
from_map f P (x ∷ xs) a = (a.0, from_map f P xs a.1)

pub rising_from : {X : Type 0} (f : X → ℕ) (xs : List X) → IsRising (λ t. t) (map f xs) → IsRising f xs
rising_from f [] r = tt
rising_from f (x ∷ xs) r = (from_map f (λ t. f x ≤ t) xs r.0, rising_from f xs r.1)

greatest-below : (mark last : ℕ) (ts : List ℕ) → mark ≤ last → AllByRecursion (λ t. t ≤ last) ts → greatest mark ts ≤ last
greatest-below mark last [] le all = le
greatest-below mark last (t ∷ ts) le all = let ih = greatest-below mark last ts le all.1 in let h = all.0 in omega (arith, ih, h)

times_low : (batch : List Admitted) → AllByRecursion IsAdmission batch → AllByRecursion (λ t. t ≤ last_mark) (map admitted_time batch)
times_low [] all = tt
times_low (a ∷ batch) all = (let h : IsMoment a.time = all.0.time in omega arith, times_low batch all.1)

right_intake : (i : Intake) (batch : List Admitted) → IsIntake i → AllByRecursion IsAdmission batch → IsIntake (with_batch batch i)
right_intake i batch right valid =
    let times = map admitted_time batch in
    let kept = timely admitted_time i.mark [] batch in
    let lane : IsLane (record { mark = i.mark; times = map admitted_time i.admitted; room = 0 }) = record { rising = rising_map admitted_time i.admitted right.rising; below = to_map admitted_time (λ t. t ≤ i.mark) i.admitted right.below } in
    let taken = taken_in (record { mark = i.mark; times = map admitted_time i.admitted; room = 0 }) 0 times lane in
    let same : map admitted_time i.admitted ++ timely (λ t. t) i.mark [] times ≡ map admitted_time (i.admitted ++ kept) =
    ap (λ (l : List ℕ). map admitted_time i.admitted ++ l) (timely-map admitted_time i.mark [] batch) ∙ sym (map-append admitted_time i.admitted kept) in
    let n = few admitted_time i.mark batch in
    let c = right.counted in
    record {
      rising = rising_from admitted_time (i.admitted ++ kept) (subst (IsRising (λ t. t)) same taken.rising);
      below = from_map admitted_time (λ t. t ≤ greatest i.mark times) (i.admitted ++ kept) (subst (AllByRecursion (λ t. t ≤ greatest i.mark times)) same taken.below);
      valid = all_append IsAdmission i.admitted kept right.valid (all_timely IsAdmission admitted_time i.mark [] batch valid);
      mark = greatest-below i.mark last_mark times right.mark (times_low batch valid);
      counted = (let l = length-append i.admitted kept in omega (arith, n, c, l));
    }

goes_on : (i : Intake) (batch : List Admitted) → GoesOn (floor i) i (with_batch batch i)
goes_on i batch = record {
  more = timely admitted_time i.mark [] batch;
  begins = refl;
  after = from_map admitted_time (λ t. i.mark ≤ t) (timely admitted_time i.mark [] batch) (subst (AllByRecursion (λ t. i.mark ≤ t)) (timely-map admitted_time i.mark [] batch) (timely_above i.mark (map admitted_time batch)));
  mark = greatest-above i.mark (map admitted_time batch);
  offered = omega arith;
}

-- ---- all intakes

right_intakes : (c : ℕ) (batch : List Admitted) (is : List Intake) → AllByRecursion IsAdmission batch → AllByRecursion IsIntake is → AllByRecursion IsIntake (changed c (with_batch batch) is)
right_intakes c batch [] valid all = tt
right_intakes zero batch (i ∷ is) valid all = (right_intake i batch all.0 valid, all.1)
right_intakes (suc c) batch (i ∷ is) valid all = (all.0, right_intakes c batch is valid all.1)

each_goes_on : (c : ℕ) (batch : List Admitted) (is : List Intake) → AllZip (λ i j. GoesOn (floor i) i j) is (changed c (with_batch batch) is)
each_goes_on c batch [] = tt
each_goes_on zero batch (i ∷ is) = (goes_on i batch, each-refl is)
each_goes_on (suc c) batch (i ∷ is) = (GoesOn-refl i, each_goes_on c batch is)

below_given : (c time : ℕ) (batch : List Admitted) (is : List Intake) → AllByRecursion (λ i. time < i.mark) is → AllByRecursion (λ i. time < i.mark) (changed c (with_batch batch) is)
below_given c time batch [] all = tt
below_given zero time batch (i ∷ is) all = (let g = greatest-above i.mark (map admitted_time batch) in let lt : time < i.mark = all.0 in omega (arith, g, lt), all.1)
below_given (suc c) time batch (i ∷ is) all = (all.0, below_given c time batch is all.1)

pub begins_given : (h : History) (c : ℕ) (batch : List Admitted) → Begins h (given h c batch)
begins_given h c batch = record { each = each_goes_on c batch h.intakes; place = inr (refl, omega arith) }

-- what is wholly applied stays the front of all
pub whole_given : (h : History) (c : ℕ) (batch : List Admitted) → IsHistory h → take h.whole (all_of (given h c batch)) ≡ take h.whole (all_of h)
whole_given h c batch right = front_stays h (given h c batch) h.whole (each_goes_on c batch h.intakes) right.place.within (all_left _ (take h.whole (all_of h)) (begun h.some (waiting h)) right.released)

part_given : (h : History) (c : ℕ) (batch : List Admitted) → IsHistory h → (next : Placed Admitted) (later : List (Placed Admitted)) → waiting h ≡ next ∷ later → 0 < h.some → (more : List (Placed Admitted)) × (waiting (given h c batch) ≡ next ∷ more)
part_given h c batch right next later e lt =
    let below : IsBelowMarks h (time_of next) = begun_time (IsBelowMarks h) h.some next later lt (subst (λ (l : List (Placed Admitted)). AllByRecursion (λ p. IsBelowMarks h (time_of p)) (begun h.some l)) e (all_right _ (take h.whole (all_of h)) (begun h.some (waiting h)) right.released)) in
    let longer : AllByRecursion (λ p. IsBelowMarks h (time_of p)) (take (suc h.whole) (all_of h)) =
    subst (AllByRecursion (λ p. IsBelowMarks h (time_of p))) (sym (take_next h.whole (all_of h) next later e))
    (all_append _ (take h.whole (all_of h)) (next ∷ []) (all_left _ (take h.whole (all_of h)) (begun h.some (waiting h)) right.released) (below, tt)) in
    drop_same h.whole (all_of h) (all_of (given h c batch)) next later e
    (front_stays h (given h c batch) (suc h.whole) (each_goes_on c batch h.intakes) (length_of_drop h.whole (all_of h) next later e) longer)

pub right_given : (h : History) (c : ℕ) (batch : List Admitted) → AllByRecursion IsAdmission batch → IsHistory h → IsHistory (given h c batch)
right_given h c batch valid right =
    let whole = ap length (whole_given h c batch right) in
    let a = length-take h.whole (all_of (given h c batch)) in
    let b = length-take h.whole (all_of h) in
    let within = right.place.within in
    record {
      intakes = right_intakes c batch h.intakes valid right.intakes;
      place = record {
        within = omega (arith, whole, a, b, within);
        part = elim (cases_eq h.some 0) [
          | inl none ↦ inl none
          | inr some ↦ elim right.place.part [
            | inl none ↦ inl none
            | inr p ↦ let q = part_given h c batch right p.0 p.1 p.2 (omega arith) in inr (p.0, q.0, q.1, p.3)
          ]
        ];
      };
      released = subst (AllByRecursion (λ p. IsBelowMarks (given h c batch) (time_of p))) (sym (front_kept h (given h c batch) right (begins_given h c batch)))
          (all_weaker _ _ (λ p b. below_given c (time_of p) batch h.intakes b) (applied h) right.released);
    }

pub same_given : (c mark : ℕ) (is : List Intake) → map (λ i. i.admitted) (changed c (with_mark mark) is) ≡ map (λ i. i.admitted) is
same_given c mark [] = refl
same_given zero mark (i ∷ is) = refl
same_given (suc c) mark (i ∷ is) = ap (λ (l : List (List Admitted)). i.admitted ∷ l) (same_given c mark is)

-- the mark of the collector, where there is one, isn't above the new one
abbrev pub IsNotBack : ℕ → ℕ → List Intake → Type 0
IsNotBack c mark is = (i : Intake) → slice_get is c ≡ Some i → i.mark ≤ mark

right_marked_intakes : (c mark : ℕ) (is : List Intake) → IsNotBack c mark is → mark ≤ last_mark → AllByRecursion IsIntake is → AllByRecursion IsIntake (changed c (with_mark mark) is)
right_marked_intakes c mark [] back low all = tt
right_marked_intakes zero mark (i ∷ is) back low all =
    let le : i.mark ≤ mark = back i refl in
    (record { rising = all.0.rising; below = all_weaker _ _ (λ a h. let h' : a.time ≤ i.mark = h in omega arith) i.admitted all.0.below; valid = all.0.valid; mark = low; counted = all.0.counted }, all.1)
right_marked_intakes (suc c) mark (i ∷ is) back low all = (all.0, right_marked_intakes c mark is (λ j e. back j e) low all.1)

below_marked : (c mark time : ℕ) (is : List Intake) → IsNotBack c mark is → AllByRecursion (λ i. time < i.mark) is → AllByRecursion (λ i. time < i.mark) (changed c (with_mark mark) is)
below_marked c mark time [] back all = tt
below_marked zero mark time (i ∷ is) back all = (let le : i.mark ≤ mark = back i refl in let lt : time < i.mark = all.0 in omega arith, all.1)
below_marked (suc c) mark time (i ∷ is) back all = (all.0, below_marked c mark time is (λ j e. back j e) all.1)

pub right_marked : (h : History) (c mark : ℕ) → IsNotBack c mark h.intakes → mark ≤ last_mark → IsHistory h → IsHistory (marked h c mark)
right_marked h c mark back low right =
    let same : all_of h ≡ all_of (marked h c mark) = ap (merged admitted_time) (sym (same_given c mark h.intakes)) in
    record {
      intakes = right_marked_intakes c mark h.intakes back low right.intakes;
      place = record {
        within = subst (λ (l : List (Placed Admitted)). h.whole ≤ length l) same right.place.within;
        part = subst (λ (l : List (Placed Admitted)). (h.some ≡ 0) ⊎ ((next : Placed Admitted) × (later : List (Placed Admitted)) × (drop h.whole l ≡ next ∷ later) × (h.some < length next.item.changes))) same right.place.part;
      };
      released = subst (λ (l : List (Placed Admitted)). AllByRecursion (λ p. IsBelowMarks (marked h c mark) (time_of p)) (front h.whole h.some l)) same (all_weaker _ _ (λ p b. below_marked c mark (time_of p) h.intakes back b) (applied h) right.released);
    }

pub part_moved : (h : History) (next : Placed Admitted) (later : List (Placed Admitted)) → IsHistory h → waiting h ≡ next ∷ later → IsBelowMarks h (time_of next) → suc h.some < length next.item.changes → IsHistory (moved h h.whole (suc h.some))
part_moved h next later right e below lt = record {
  intakes = right.intakes;
  place = record { within = right.place.within; part = inr (next, later, e, lt) };
  released = all_append _ (take h.whole (all_of h)) (begun (suc h.some) (waiting h)) (all_left _ (take h.whole (all_of h)) (begun h.some (waiting h)) right.released)
      (subst (λ (l : List (Placed Admitted)). AllByRecursion (λ p. IsBelowMarks h (time_of p)) (begun (suc h.some) l)) (sym e) (below, tt));
}

pub whole_moved : (h : History) (next : Placed Admitted) (later : List (Placed Admitted)) → IsHistory h → waiting h ≡ next ∷ later → IsBelowMarks h (time_of next) → IsHistory (moved h (suc h.whole) 0)
whole_moved h next later right e below = record {
  intakes = right.intakes;
  place = record { within = length_of_drop h.whole (all_of h) next later e; part = inl refl };
  released = all_append _ (take (suc h.whole) (all_of h)) []
      (subst (AllByRecursion (λ p. IsBelowMarks h (time_of p))) (sym (take_next h.whole (all_of h) next later e))
      (all_append _ (take h.whole (all_of h)) (next ∷ []) (all_left _ (take h.whole (all_of h)) (begun h.some (waiting h)) right.released) (below, tt))) tt;
}

abbrev nothing : Intake
nothing = record { admitted = []; mark = 0; offered = 0 }

right_empty_intakes : (n : ℕ) → AllByRecursion IsIntake (replicate n nothing)
right_empty_intakes zero = tt
right_empty_intakes (suc n) = (record { rising = tt; below = tt; valid = tt; mark = omega arith; counted = omega arith }, right_empty_intakes n)

pub right_empty : (n : ℕ) → IsHistory (empty n)
right_empty n = record { intakes = right_empty_intakes n; place = record { within = omega arith; part = inl refl }; released = tt }

-- ---- what is applied

pub right_applied : (h g : History) → IsHistory h → Applies h g → IsHistory g
right_applied h g right a = elim (cases_lt (suc h.some) (length a.next.item.changes)) [
  | inl lt ↦ subst IsHistory (sym (a.part lt)) (part_moved h a.next a.later right a.here a.below lt)
  | inr ge ↦ subst IsHistory (sym (a.whole ge)) (whole_moved h a.next a.later right a.here a.below)
]

-- a right history that goes on from one
pub record Goes (h g : History) : Type 0 where
  pub begins : Begins h g
  pub right : IsHistory g

pub goes_more : (n : ℕ) (h g : History) → IsHistory h → AppliesMore n h g → Goes h g
goes_more zero h g right e = subst (Goes h) (sym e) (record { begins = Begins-refl h; right = right })
goes_more (suc n) h g right (inl a) =
    let rest = goes_more n a.0 g (right_applied h a.0 right a.1) a.2 in
    record { begins = Begins-trans h a.0 g (begins_applied h a.0 a.1) rest.begins; right = rest.right }
goes_more (suc n) h g right (inr none) = subst (Goes h) (sym none.1) (record { begins = Begins-refl h; right = right })
