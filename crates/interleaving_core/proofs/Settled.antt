-- The settled watermark, collector by collector.
use Rattle.std.proofs.Common.{◌≡◌, ℕ, zero, suc, ◌+◌, ◌<◌, ◌≤◌, List, [], ◌∷◌, ◌++◌, length, map, take, drop, get_or, true, false, ◌==◌, min, refl, sym, ap, ◌∙◌, arith}
use Rattle.std.proofs.lemmas.List.{take_more, map-append, take-append-drop, length-take}
use Rattle.std.proofs.lemmas.List.Elements.{filter-append}
use Rattle.route_model.specs.Admission.{Admitted}
use Rattle.route_meaning.specs.Holds.{admitted_time, time_of}
use Rattle.route_meaning.specs.Merged.{Placed, part}
use Rattle.route_meaning.specs.History.{Intake, first_or, bounds, least}
use Rattle.interleaving_core.proofs.NextChanges.{waits}

-- ---- the bound of one collector

part-append : (c : ℕ) (ps qs : List (Placed Admitted)) → part c (ps ++ qs) ≡ part c ps ++ part c qs
part-append c ps qs = ap (map (λ (p : Placed Admitted). p.item)) (filter-append (λ p. p.collector == c) ps qs) ∙ map-append (λ (p : Placed Admitted). p.item) _ _

-- one more that another collector gave
pub none_more : (c : ℕ) (ps : List (Placed Admitted)) (i : ℕ) (p : Placed Admitted) → i < length ps → p ≡ get_or ps i p → part c (take i ps) ≡ [] → (p.collector == c) ≡ false → part c (take (i + 1) ps) ≡ []
none_more c ps i p lt e none other =
    let last : part c (p ∷ []) ≡ [] = rw other refl in
    ap (part c) (take_more ps i p lt ∙ ap (λ (q : Placed Admitted). take i ps ++ q ∷ []) (sym e)) ∙ (part-append c (take i ps) (p ∷ []) ∙ (ap (λ (l : List Admitted). l ++ part c (p ∷ [])) none ∙ last))

-- the first that the collector gave
pub first_found : (c mark : ℕ) (ps : List (Placed Admitted)) (i : ℕ) (p : Placed Admitted) → i < length ps → p ≡ get_or ps i p → part c (take i ps) ≡ [] → (p.collector == c) ≡ true → first_or admitted_time mark (part c ps) ≡ time_of p
first_found c mark ps i p lt e none own =
    let beyond : part c (p ∷ drop (suc i) ps) ≡ p.item ∷ part c (drop (suc i) ps) = rw own refl in
    let all : part c ps ≡ p.item ∷ part c (drop (suc i) ps) =
    ap (part c) (sym (take-append-drop i ps) ∙ ap (λ (l : List (Placed Admitted)). take i ps ++ l) (waits i ps p lt e))
    ∙ (part-append c (take i ps) (p ∷ drop (suc i) ps) ∙ (ap (λ (l : List Admitted). l ++ part c (p ∷ drop (suc i) ps)) none ∙ beyond)) in
    ap (first_or admitted_time mark) all

pub take_all : {X : Type 0} (n : ℕ) (xs : List X) → length xs ≤ n → take n xs ≡ xs
take_all zero [] le = refl
take_all zero (x ∷ xs) le = absurd (omega arith)
take_all (suc n) [] le = refl
take_all {X} (suc n) (x ∷ xs) le = ap (λ (l : List X). x ∷ l) (take_all n xs (omega arith))

-- ---- the bounds of all

bounds_push : (c : ℕ) (is : List Intake) (i : Intake) (ps : List (Placed Admitted)) → bounds c (is ++ i ∷ []) ps ≡ bounds c is ps ++ first_or admitted_time i.mark (part (c + length is) ps) ∷ []
bounds_push c [] i ps = ap (λ (n : ℕ). first_or admitted_time i.mark (part n ps) ∷ []) (let e : c ≡ c + 0 = omega arith in e)
bounds_push c (j ∷ is) i ps =
    ap (λ (l : List ℕ). first_or admitted_time j.mark (part c ps) ∷ l)
    (bounds_push (suc c) is i ps ∙ ap (λ (n : ℕ). bounds (suc c) is ps ++ first_or admitted_time i.mark (part n ps) ∷ []) (let e : suc c + length is ≡ c + suc (length is) = omega arith in e))

pub bounds_more : (is : List Intake) (k : ℕ) (i : Intake) (ps : List (Placed Admitted)) → k < length is → i ≡ get_or is k i → bounds 0 (take (k + 1) is) ps ≡ bounds 0 (take k is) ps ++ first_or admitted_time i.mark (part k ps) ∷ []
bounds_more is k i ps lt e =
    let count : 0 + length (take k is) ≡ k = omega (arith, length-take k is) in
    ap (λ (l : List Intake). bounds 0 l ps) (take_more is k i lt ∙ ap (λ (j : Intake). take k is ++ j ∷ []) (sym e))
    ∙ (bounds_push 0 (take k is) i ps ∙ ap (λ (n : ℕ). bounds 0 (take k is) ps ++ first_or admitted_time i.mark (part n ps) ∷ []) count)

-- ---- the least of them

abbrev pub lowest : ℕ → List ℕ → ℕ
lowest n [] = n
lowest n (m ∷ ms) = min m (lowest n ms)

lowest_push : (n : ℕ) (ms : List ℕ) (m : ℕ) → lowest n (ms ++ m ∷ []) ≡ min m (lowest n ms)
lowest_push n [] m = refl
lowest_push n (k ∷ ms) m = rw (lowest_push n ms m) (omega arith)

pub lowest_more : (n : ℕ) (ms : List ℕ) (i : ℕ) (m : ℕ) → i < length ms → m ≡ get_or ms i m → lowest n (take (i + 1) ms) ≡ min (lowest n (take i ms)) m
lowest_more n ms i m lt e = ap (lowest n) (take_more ms i m lt) ∙ (lowest_push n (take i ms) (get_or ms i m) ∙ (ap (λ (k : ℕ). min k (lowest n (take i ms))) (sym e) ∙ omega arith))

swapped : (m n : ℕ) (ms : List ℕ) → min m (lowest n ms) ≡ min n (lowest m ms)
swapped m n [] = omega arith
swapped m n (k ∷ ms) = let ih = swapped m n ms in omega (arith, ih)

lowest_least : (m : ℕ) (ms : List ℕ) → least (m ∷ ms) ≡ lowest m ms
lowest_least m [] = refl
lowest_least m (k ∷ ms) = rw (lowest_least k ms) (swapped m k ms)

twice : (n : ℕ) (ms : List ℕ) → min n (lowest n ms) ≡ lowest n ms
twice n [] = omega arith
twice n (k ∷ ms) = let ih = twice n ms in omega (arith, ih)

pub lowest_all : (ms : List ℕ) (m : ℕ) → 0 < length ms → m ≡ get_or ms 0 m → lowest m ms ≡ least ms
lowest_all [] m lt e = absurd (omega arith)
lowest_all (k ∷ ms) m lt e = ap (λ (x : ℕ). lowest x (k ∷ ms)) e ∙ (twice k ms ∙ sym (lowest_least k ms))
