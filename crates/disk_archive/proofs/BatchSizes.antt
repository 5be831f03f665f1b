-- How large a batch is.
use Rattle.std.proofs.Common.{◌≡◌, ℕ, zero, suc, ◌+◌, ◌<◌, ◌≤◌, List, [], ◌∷◌, ◌++◌, length, take, get_or, map, max, cond, ltb, append-nil, Bool, true, false, refl, sym, ap, ◌∙◌, subst, arith}
use Rattle.std.specs.Prelude.{sum_by}
use Rattle.std.specs.List.{AllByRecursion}
use Rattle.std.proofs.lemmas.Bool.{lt-ltb, le-ltb}
use Rattle.std.proofs.lemmas.List.{map-append, take_more}
use Rattle.std.proofs.lemmas.List.Sums.{sum_by-cons}
use Rattle.route_model.specs.Admission.{Admitted, admission_octets, IsAdmission}
use Rattle.route_meaning.specs.Holds.{admitted_time}
use Rattle.route_meaning.proofs.api.Sorting.{all_append}
use Rattle.sequencer.specs.Late.{greatest, is_late, timely}
use Rattle.sequencer.proofs.api.Sieving.{greatest-push, timely-push}
use Rattle.intake.specs.Ring.{entry_octets}

abbrev pub batch_octets : List Admitted → ℕ
batch_octets batch = sum_by entry_octets batch

more : {X : Type 0} (xs : List X) (i : ℕ) (x : X) → i < length xs → x ≡ get_or xs i x → take (i + 1) xs ≡ take i xs ++ x ∷ []
more {X} xs i x lt e = take_more xs i x lt ∙ ap (λ (y : X). take i xs ++ y ∷ []) (sym e)

first : (x : Admitted) (xs : List Admitted) → batch_octets (x ∷ xs) ≡ entry_octets x + batch_octets xs
first x xs = sum_by-cons entry_octets x xs

octets-append : (xs ys : List Admitted) → batch_octets (xs ++ ys) ≡ batch_octets xs + batch_octets ys
octets-append [] ys = omega arith
octets-append (x ∷ xs) ys = let ih = octets-append xs ys in let a = first x xs in let b = first x (xs ++ ys) in omega (arith, ih, a, b)

pub octets_more : (xs : List Admitted) (i : ℕ) (x : Admitted) → i < length xs → x ≡ get_or xs i x → batch_octets (take (i + 1) xs) ≡ batch_octets (take i xs) + (4 + length (admission_octets x))
octets_more xs i x lt e = ap batch_octets (more xs i x lt e) ∙ (octets-append (take i xs) (x ∷ []) ∙ omega arith)

octets_part : (i : ℕ) (xs : List Admitted) → batch_octets (take i xs) ≤ batch_octets xs
octets_part zero xs = omega arith
octets_part (suc i) [] = omega arith
octets_part (suc i) (x ∷ xs) = let ih = octets_part i xs in let a = first x xs in let b = first x (take i xs) in omega (arith, ih, a, b)

pub too_many : (xs : List Admitted) (i : ℕ) (x : Admitted) → i < length xs → x ≡ get_or xs i x → 262144 < batch_octets (take i xs) + (4 + length (admission_octets x)) → batch_octets xs ≤ 262144 → ⊥
too_many xs i x lt e high low = let a = octets_more xs i x lt e in let b = octets_part (i + 1) xs in absurd (omega (arith, a, b))

pub valid_more : (xs : List Admitted) (i : ℕ) (x : Admitted) → i < length xs → x ≡ get_or xs i x → IsAdmission x → AllByRecursion IsAdmission (take i xs) → AllByRecursion IsAdmission (take (i + 1) xs)
valid_more xs i x lt e valid all = subst (AllByRecursion IsAdmission) (sym (more xs i x lt e)) (all_append IsAdmission (take i xs) (x ∷ []) all (valid, tt))

-- what isn't late has no more octets
pub octets_timely : (mark : ℕ) (earlier : List ℕ) (xs : List Admitted) → batch_octets (timely admitted_time mark earlier xs) ≤ batch_octets xs
octets_timely mark earlier [] = omega arith
octets_timely mark earlier (x ∷ xs) =
    let ih = octets_timely mark (earlier ++ admitted_time x ∷ []) xs in
    let a = first x xs in
    let b = first x rest in
    cases (is_late mark earlier (admitted_time x)) (omega (arith, ih, a)) (omega (arith, ih, a, b))
  where
    rest : List Admitted
    rest = timely admitted_time mark (earlier ++ admitted_time x ∷ []) xs

    cases : (b : Bool) → batch_octets rest ≤ batch_octets (x ∷ xs) → batch_octets (x ∷ rest) ≤ batch_octets (x ∷ xs) → batch_octets (cond b rest (x ∷ rest)) ≤ batch_octets (x ∷ xs)
    cases true p q = p
    cases false p q = q

-- ---- one admission more of a batch

timely_more : (mark : ℕ) (xs : List Admitted) (i : ℕ) (x : Admitted) → i < length xs → x ≡ get_or xs i x
    → timely admitted_time mark [] (take (i + 1) xs) ≡ timely admitted_time mark [] (take i xs) ++ cond (ltb (admitted_time x) (greatest mark (map admitted_time (take i xs)))) [] (x ∷ [])
timely_more mark xs i x lt e = ap (timely admitted_time mark []) (more xs i x lt e) ∙ timely-push admitted_time mark [] (take i xs) x

greatest_more : (mark : ℕ) (xs : List Admitted) (i : ℕ) (x : Admitted) → i < length xs → x ≡ get_or xs i x
    → greatest mark (map admitted_time (take (i + 1) xs)) ≡ max (admitted_time x) (greatest mark (map admitted_time (take i xs)))
greatest_more mark xs i x lt e =
    ap (λ (l : List Admitted). greatest mark (map admitted_time l)) (more xs i x lt e)
    ∙ (ap (greatest mark) (map-append admitted_time (take i xs) (x ∷ [])) ∙ greatest-push mark (map admitted_time (take i xs)) (admitted_time x))

-- `count` octets of the first ones of a batch aren't late, and `present` is the mark after them
pub record AreTimely (mark : ℕ) (xs : List Admitted) (count present : ℕ) : Type 0 where
  pub octets : count ≡ batch_octets (timely admitted_time mark [] xs)
  pub reached : present ≡ greatest mark (map admitted_time xs)

-- it is late
pub late_more : (mark : ℕ) (xs : List Admitted) (i octets reached : ℕ) (x : Admitted) → i < length xs → x ≡ get_or xs i x → AreTimely mark (take i xs) octets reached → admitted_time x < reached
    → AreTimely mark (take (i + 1) xs) octets reached
late_more mark xs i octets reached x lt e t low =
    let is = t.reached in
    let late : ltb (admitted_time x) (greatest mark (map admitted_time (take i xs))) ≡ true = lt-ltb _ _ (omega (arith, is, low)) in
    record {
      octets = (let same : timely admitted_time mark [] (take (i + 1) xs) ≡ timely admitted_time mark [] (take i xs) = timely_more mark xs i x lt e ∙ rw late (append-nil _) in t.octets ∙ sym (ap batch_octets same));
      reached = (let g = greatest_more mark xs i x lt e in omega (arith, is, low, g));
    }

-- it isn't
pub timely_next : (mark : ℕ) (xs : List Admitted) (i octets reached : ℕ) (x : Admitted) → i < length xs → x ≡ get_or xs i x → AreTimely mark (take i xs) octets reached → reached ≤ admitted_time x
    → AreTimely mark (take (i + 1) xs) (octets + (4 + length (admission_octets x))) (admitted_time x)
timely_next mark xs i octets reached x lt e t high =
    let is = t.reached in
    let all = t.octets in
    let on : ltb (admitted_time x) (greatest mark (map admitted_time (take i xs))) ≡ false = le-ltb _ _ (omega (arith, is, high)) in
    let more : timely admitted_time mark [] (take (i + 1) xs) ≡ timely admitted_time mark [] (take i xs) ++ x ∷ [] = timely_more mark xs i x lt e ∙ rw on refl in
    let then = ap batch_octets more ∙ octets-append (timely admitted_time mark [] (take i xs)) (x ∷ []) in
    record {
      octets = omega (arith, all, then);
      reached = (let g = greatest_more mark xs i x lt e in omega (arith, is, high, g));
    }

-- what isn't late of the first ones of a batch has no more octets than the batch
pub few_timely : (mark : ℕ) (xs : List Admitted) (i octets reached : ℕ) → AreTimely mark (take i xs) octets reached → octets ≤ batch_octets xs
few_timely mark xs i octets reached t = let is = t.octets in let a = octets_timely mark [] (take i xs) in let b = octets_part i xs in omega (arith, is, a, b)
