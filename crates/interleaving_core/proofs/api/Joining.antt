-- Batches that are given one after another are one batch.
use Rattle.std.proofs.Common.{◌≡◌, ℕ, ◌+◌, List, [], ◌∷◌, ◌++◌, length, zero, suc, map, max, Bool, true, false, cond, ltb, refl, sym, ap, ◌∙◌, append_assoc, length-append, arith}
use Rattle.std.proofs.lemmas.List.{append-nil, map-append}
use Rattle.route_model.specs.Admission.{Admitted}
use Rattle.route_meaning.specs.Holds.{admitted_time}
use Rattle.route_meaning.specs.History.{Intake, History}
use Rattle.sequencer.specs.Late.{greatest, is_late, timely, lates}
use Rattle.sequencer.proofs.api.Sieving.{greatest-push, is_late-greatest}
use Rattle.interleaving_core.specs.Steps.{changed, with_batch, given}

-- what is late depends on the greatest time alone
timely_same : {X : Type 0} (time : X → ℕ) (m n : ℕ) (e f : List ℕ) (xs : List X) → greatest m e ≡ greatest n f → timely time m e xs ≡ timely time n f xs
timely_same time m n e f [] same = refl
timely_same time m n e f (x ∷ xs) same =
    let t = time x in
    let late : is_late m e t ≡ is_late n f t = is_late-greatest m e t ∙ ap (ltb t) same ∙ sym (is_late-greatest n f t) in
    let next : greatest m (e ++ t ∷ []) ≡ greatest n (f ++ t ∷ []) = greatest-push m e t ∙ ap (max t) same ∙ sym (greatest-push n f t) in
    let rest = timely_same time m n (e ++ t ∷ []) (f ++ t ∷ []) xs next in
    λ i. cond (late i) (rest i) (x ∷ rest i)

greatest_max : (x m : ℕ) (ys : List ℕ) → greatest (max x m) ys ≡ max x (greatest m ys)
greatest_max x m [] = refl
greatest_max x m (y ∷ ys) = let ih = greatest_max x m ys in omega (arith, ih)

greatest_both : (m : ℕ) (xs ys : List ℕ) → greatest m (xs ++ ys) ≡ greatest (greatest m xs) ys
greatest_both m [] ys = refl
greatest_both m (x ∷ xs) ys = ap (max x) (greatest_both m xs ys) ∙ sym (greatest_max x (greatest m xs) ys)

timely_split : {X : Type 0} (time : X → ℕ) (m : ℕ) (e : List ℕ) (xs ys : List X) → timely time m e (xs ++ ys) ≡ timely time m e xs ++ timely time m (e ++ map time xs) ys
timely_split time m e [] ys = ap (λ (t : List ℕ). timely time m t ys) (sym (append-nil e))
timely_split {X = X} time m e (x ∷ xs) ys =
    let rest = timely_split time m (e ++ time x ∷ []) xs ys ∙ ap (λ (t : List ℕ). timely time m (e ++ time x ∷ []) xs ++ timely time m t ys) (append_assoc e (time x ∷ []) (map time xs)) in
    both (is_late m e (time x)) x _ _ _ rest
  where
    both : (b : Bool) (x : X) (us vs ws : List X) → us ≡ vs ++ ws → cond b us (x ∷ us) ≡ cond b vs (x ∷ vs) ++ ws
    both true x us vs ws h = h
    both false x us vs ws h = ap (λ (t : List X). x ∷ t) h

pub timely_both : {X : Type 0} (time : X → ℕ) (m : ℕ) (xs ys : List X) → timely time m [] (xs ++ ys) ≡ timely time m [] xs ++ timely time (greatest m (map time xs)) [] ys
timely_both time m xs ys =
    timely_split time m [] xs ys ∙ ap (λ (t : List _). timely time m [] xs ++ t) (timely_same time m (greatest m (map time xs)) (map time xs) [] ys refl)

pub with_both : (a b : List Admitted) (i : Intake) → with_batch b (with_batch a i) ≡ with_batch (a ++ b) i
with_both a b i = λ k. record {
  admitted = (append_assoc i.admitted (timely admitted_time i.mark [] a) (timely admitted_time (greatest i.mark (map admitted_time a)) [] b) ∙ ap (λ (t : List Admitted). i.admitted ++ t) (sym (timely_both admitted_time i.mark a b))) k;
  mark = (sym (ap (greatest i.mark) (map-append admitted_time a b) ∙ greatest_both i.mark (map admitted_time a) (map admitted_time b))) k;
  offered = (let e : i.offered + length a + length b ≡ i.offered + length (a ++ b) = omega (arith, length-append a b) in e) k;
}

changed_both : (c : ℕ) (f g h : Intake → Intake) (is : List Intake) → ((i : Intake) → f (g i) ≡ h i) → changed c f (changed c g is) ≡ changed c h is
changed_both c f g h [] same = refl
changed_both zero f g h (i ∷ is) same = ap (λ (j : Intake). j ∷ is) (same i)
changed_both (suc c) f g h (i ∷ is) same = ap (λ (js : List Intake). i ∷ js) (changed_both c f g h is same)

pub given_both : (h : History) (c : ℕ) (a b : List Admitted) → given (given h c a) c b ≡ given h c (a ++ b)
given_both h c a b = λ k. record { intakes = changed_both c (with_batch b) (with_batch a) (with_batch (a ++ b)) h.intakes (with_both a b) k; whole = h.whole; some = h.some }

changed_same : (c : ℕ) (f : Intake → Intake) (is : List Intake) → ((i : Intake) → f i ≡ i) → changed c f is ≡ is
changed_same c f [] same = refl
changed_same zero f (i ∷ is) same = ap (λ (j : Intake). j ∷ is) (same i)
changed_same (suc c) f (i ∷ is) same = ap (λ (js : List Intake). i ∷ js) (changed_same c f is same)

pub with_none : (i : Intake) → with_batch [] i ≡ i
with_none i = λ k. record { admitted = append-nil i.admitted k; mark = i.mark; offered = (let e : i.offered + 0 ≡ i.offered = omega arith in e) k }

-- an empty batch changes nothing
pub given_none : (h : History) (c : ℕ) → given h c [] ≡ h
given_none h c = λ k. record { intakes = changed_same c (with_batch []) h.intakes with_none k; whole = h.whole; some = h.some }

-- each item of a batch is late, or it isn't
pub none_lost : {X : Type 0} (time : X → ℕ) (m : ℕ) (e : List ℕ) (i : ℕ) (xs : List X) → length (timely time m e xs) + length (lates time m e i xs) ≡ length xs
none_lost time m e i [] = refl
none_lost time m e i (x ∷ xs) = either (is_late m e (time x)) x _ _ _ _ (none_lost time m (e ++ time x ∷ []) (i + 1) xs)
  where
    either : {X Y : Type 0} (b : Bool) (x : X) (y : Y) (us : List X) (vs : List Y) (n : ℕ) → length us + length vs ≡ n → length (cond b us (x ∷ us)) + length (cond b (y ∷ vs) vs) ≡ suc n
    either true x y us vs n h = omega (arith, h)
    either false x y us vs n h = omega (arith, h)

-- as many of two batches together are late as of the first and then of the second
pub lates_both : {X : Type 0} (time : X → ℕ) (m : ℕ) (xs ys : List X)
    → length (lates time m [] 0 (xs ++ ys)) ≡ length (lates time m [] 0 xs) + length (lates time (greatest m (map time xs)) [] 0 ys)
lates_both time m xs ys =
    let whole = none_lost time m [] 0 (xs ++ ys) in
    let first = none_lost time m [] 0 xs in
    let second = none_lost time (greatest m (map time xs)) [] 0 ys in
    let kept : length (timely time m [] (xs ++ ys)) ≡ length (timely time m [] xs) + length (timely time (greatest m (map time xs)) [] ys) = ap length (timely_both time m xs ys) ∙ length-append _ _ in
    let all = length-append xs ys in
    omega (arith, whole, first, second, kept, all)
