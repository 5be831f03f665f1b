-- What of a history waits, collector by collector, before and after a step.
use Rattle.std.proofs.Common.{◌≡◌, ◌≢◌, ℕ, zero, suc, ◌+◌, List, [], ◌∷◌, ◌++◌, length, take, drop, map, refl, sym, ◌∙◌, ap, arith, Some, append_assoc, eqb}
use Rattle.std.specs.List.{AllByRecursion, slice_get, filter}
use Rattle.std.proofs.lemmas.List.{take-append-drop, map-append}
use Rattle.std.proofs.lemmas.List.Elements.{filter-append}
use Rattle.route_model.specs.Admission.{Admitted}
use Rattle.route_meaning.specs.Merged.{Placed, merged, part, parts, IsRising}
use Rattle.route_meaning.specs.Holds.{admitted_time}
use Rattle.route_meaning.specs.History.{Intake, History, IsIntake, IsHistory, all_of, waiting, front, applied}
use Rattle.route_meaning.proofs.api.OneOrder.{parts-merged}
use Rattle.route_meaning.proofs.api.Front.{front_kept}
use Rattle.sequencer.specs.Late.{timely}
use Rattle.interleaving_core.specs.Steps.{changed, with_batch, given, marked}
use Rattle.interleaving_core.proofs.api.Right.{whole_given, begins_given, same_given}

-- ---- intakes

pub changed_there : (c : ℕ) (f : Intake → Intake) (is : List Intake) (i : Intake) → slice_get is c ≡ Some i → slice_get (changed c f is) c ≡ Some (f i)
changed_there c f [] i e = cc
changed_there zero f (j ∷ is) i e = let same : j ≡ i = cc in ap (λ (k : Intake). Some (f k)) same
changed_there (suc c) f (j ∷ is) i e = changed_there c f is i e

pub changed_other : (c k : ℕ) (f : Intake → Intake) (is : List Intake) → k ≢ c → slice_get (changed c f is) k ≡ slice_get is k
changed_other c k f [] ne = refl
changed_other zero zero f (j ∷ is) ne = absurd (ne refl)
changed_other zero (suc k) f (j ∷ is) ne = refl
changed_other (suc c) zero f (j ∷ is) ne = refl
changed_other (suc c) (suc k) f (j ∷ is) ne = changed_other c k f is (λ e. ne (ap suc e))

pub length_changed : (c : ℕ) (f : Intake → Intake) (is : List Intake) → length (changed c f is) ≡ length is
length_changed c f [] = refl
length_changed zero f (j ∷ is) = refl
length_changed (suc c) f (j ∷ is) = ap suc (length_changed c f is)

-- ---- parts

part_append : (c : ℕ) (ps qs : List (Placed Admitted)) → part c (ps ++ qs) ≡ part c ps ++ part c qs
part_append c ps qs = ap (map (λ (p : Placed Admitted). p.item)) (filter-append (λ p. eqb p.collector c) ps qs) ∙ map-append (λ (p : Placed Admitted). p.item) (filter (λ p. eqb p.collector c) ps) (filter (λ p. eqb p.collector c) qs)

map_get : {X Y : Type 0} (f : X → Y) (xs : List X) (c : ℕ) (x : X) → slice_get xs c ≡ Some x → slice_get (map f xs) c ≡ Some (f x)
map_get f [] c x e = cc
map_get f (y ∷ xs) zero x e = let same : y ≡ x = cc in ap (λ z. Some (f z)) same
map_get f (y ∷ xs) (suc c) x e = map_get f xs c x e

part_at : (c n k : ℕ) (ps : List (Placed Admitted)) (xs : List Admitted) → slice_get (parts c n ps) k ≡ Some xs → part (c + k) ps ≡ xs
part_at c zero k ps xs e = cc
part_at c (suc n) zero ps xs e = let same : part c ps ≡ xs = cc in ap (λ m. part m ps) (omega arith) ∙ same
part_at c (suc n) (suc k) ps xs e = ap (λ m. part m ps) (omega arith) ∙ part_at (suc c) n k ps xs e

all_rise : (is : List Intake) → AllByRecursion IsIntake is → AllByRecursion (IsRising admitted_time) (map (λ i. i.admitted) is)
all_rise [] a = tt
all_rise (i ∷ is) a = (a.0.rising, all_rise is a.1)

-- what a collector gave is its part of all
pub part_of_all : (h : History) → IsHistory h → (c : ℕ) (i : Intake) → slice_get h.intakes c ≡ Some i → part c (all_of h) ≡ i.admitted
part_of_all h right c i here =
    let lists = map (λ (j : Intake). j.admitted) h.intakes in
    let there : slice_get lists c ≡ Some i.admitted = map_get (λ (j : Intake). j.admitted) h.intakes c i here in
    let same : slice_get (parts 0 (length lists) (all_of h)) c ≡ Some i.admitted = ap (λ (l : List (List Admitted)). slice_get l c) (parts-merged admitted_time lists (all_rise h.intakes right.intakes)) ∙ there in
    ap (λ n. part n (all_of h)) (let e : c ≡ 0 + c = omega arith in e) ∙ part_at 0 (length lists) c (all_of h) i.admitted same

-- and is what of it is wholly applied, and then what waits
applied_then_waits : (h : History) → IsHistory h → (c : ℕ) (i : Intake) → slice_get h.intakes c ≡ Some i → i.admitted ≡ part c (take h.whole (all_of h)) ++ part c (waiting h)
applied_then_waits h right c i here =
    sym (part_of_all h right c i here) ∙ (ap (part c) (sym (take-append-drop h.whole (all_of h))) ∙ part_append c (take h.whole (all_of h)) (waiting h))

cancel : {X : Type 0} (xs ys zs : List X) → xs ++ ys ≡ xs ++ zs → ys ≡ zs
cancel [] ys zs e = e
cancel (x ∷ xs) ys zs e = cancel xs ys zs (let f : xs ++ ys ≡ xs ++ zs = cc in f)

-- ---- a batch is given

pub waits_given : (h : History) (c : ℕ) (batch : List Admitted) → IsHistory h → IsHistory (given h c batch) → (i : Intake) → slice_get h.intakes c ≡ Some i → part c (waiting (given h c batch)) ≡ part c (waiting h) ++ timely admitted_time i.mark [] batch
waits_given h c batch right right' i here =
    let g = given h c batch in
    let new = timely admitted_time i.mark [] batch in
    let before = part c (take h.whole (all_of h)) in
    let old : i.admitted ≡ before ++ part c (waiting h) = applied_then_waits h right c i here in
    let later : i.admitted ++ new ≡ part c (take h.whole (all_of g)) ++ part c (waiting g) = applied_then_waits g right' c (with_batch batch i) (changed_there c (with_batch batch) h.intakes i here) in
    let front_is : part c (take h.whole (all_of g)) ≡ before = ap (part c) (whole_given h c batch right) in
    cancel before (part c (waiting g)) (part c (waiting h) ++ new)
    (ap (λ l. l ++ part c (waiting g)) (sym front_is) ∙ (sym later ∙ (ap (λ l. l ++ new) old ∙ append_assoc before (part c (waiting h)) new)))

pub waits_given_other : (h : History) (c k : ℕ) (batch : List Admitted) → IsHistory h → IsHistory (given h c batch) → k ≢ c → (i : Intake) → slice_get h.intakes k ≡ Some i → part k (waiting (given h c batch)) ≡ part k (waiting h)
waits_given_other h c k batch right right' ne i here =
    let g = given h c batch in
    let before = part k (take h.whole (all_of h)) in
    let old : i.admitted ≡ before ++ part k (waiting h) = applied_then_waits h right k i here in
    let later : i.admitted ≡ part k (take h.whole (all_of g)) ++ part k (waiting g) = applied_then_waits g right' k i (changed_other c k (with_batch batch) h.intakes ne ∙ here) in
    let front_is : part k (take h.whole (all_of g)) ≡ before = ap (part k) (whole_given h c batch right) in
    cancel before (part k (waiting g)) (part k (waiting h)) (ap (λ l. l ++ part k (waiting g)) (sym front_is) ∙ (sym later ∙ old))

pub applied_given : (h : History) (c : ℕ) (batch : List Admitted) → IsHistory h → applied (given h c batch) ≡ applied h
applied_given h c batch right = front_kept h (given h c batch) right (begins_given h c batch)

-- ---- a mark is raised

all_marked : (h : History) (c mark : ℕ) → all_of (marked h c mark) ≡ all_of h
all_marked h c mark = ap (merged admitted_time) (same_given c mark h.intakes)

pub waits_marked : (h : History) (c mark : ℕ) → waiting (marked h c mark) ≡ waiting h
waits_marked h c mark = ap (drop h.whole) (all_marked h c mark)

pub applied_marked : (h : History) (c mark : ℕ) → applied (marked h c mark) ≡ applied h
applied_marked h c mark = ap (front h.whole h.some) (all_marked h c mark)
