-- A running mark determines what is late.
use Rattle.std.proofs.Common.{◌≡◌, ℕ, ◌+◌, ◌<◌, ◌≤◌, List, [], ◌∷◌, ◌++◌, length, take, get_or, Bool, true, false, cond, ltb, refl, sym, ap, ◌∙◌, arith, max, append_assoc, append-nil, add-zero, map, subst, zero, suc}
use Rattle.std.proofs.lemmas.Bool.{lt-ltb, le-ltb}
use Rattle.std.proofs.lemmas.Bool.Decides.{nat_tests}
use Rattle.std.proofs.lemmas.List.{take_more, length-take}
use Rattle.sequencer.specs.Late.{greatest, is_late, timely, lates}

pub greatest-push : (mark : ℕ) (ts : List ℕ) (t : ℕ) → greatest mark (ts ++ t ∷ []) ≡ max t (greatest mark ts)
greatest-push mark [] t = omega arith
greatest-push mark (u ∷ ts) t = rw (greatest-push mark ts t) (omega arith)

pub is_late-greatest : (mark : ℕ) (earlier : List ℕ) (t : ℕ) → is_late mark earlier t ≡ ltb t (greatest mark earlier)
is_late-greatest mark [] t = grind (arith, nat_tests)
is_late-greatest mark (u ∷ ts) t = grind (arith, nat_tests, is_late-greatest mark ts t)

cond_append : {X : Type 0} (b : Bool) (xs ys zs : List X) → cond b (xs ++ zs) (ys ++ zs) ≡ cond b xs ys ++ zs
cond_append true xs ys zs = refl
cond_append false xs ys zs = refl

-- one more is late where it's below the greatest of all before it
pub timely-push : {X : Type 0} (time : X → ℕ) (mark : ℕ) (earlier : List ℕ) (xs : List X) (x : X) → timely time mark earlier (xs ++ x ∷ []) ≡ timely time mark earlier xs ++ cond (ltb (time x) (greatest mark (earlier ++ map time xs))) [] (x ∷ [])
timely-push time mark earlier [] x = rw (is_late-greatest mark earlier (time x), append-nil earlier) refl
timely-push time mark earlier (y ∷ xs) x =
    rw (timely-push time mark (earlier ++ time y ∷ []) xs x, append_assoc earlier (time y ∷ []) (map time xs))
    (cond_append (is_late mark earlier (time y)) (timely time mark (earlier ++ time y ∷ []) xs) (y ∷ timely time mark (earlier ++ time y ∷ []) xs) (cond (ltb (time x) (greatest mark (earlier ++ (time y ∷ map time xs)))) [] (x ∷ [])))

pub lates-push : {X : Type 0} (time : X → ℕ) (mark : ℕ) (earlier : List ℕ) (i : ℕ) (xs : List X) (x : X) → lates time mark earlier i (xs ++ x ∷ []) ≡ lates time mark earlier i xs ++ cond (ltb (time x) (greatest mark (earlier ++ map time xs))) (record { index = i + length xs; time = time x; mark = greatest mark (earlier ++ map time xs) } ∷ []) []
lates-push time mark earlier i [] x = rw (is_late-greatest mark earlier (time x), append-nil earlier, add-zero) refl
lates-push time mark earlier i (y ∷ xs) x =
    let sum : i + 1 + length xs ≡ i + suc (length xs) = omega arith in
    rw (lates-push time mark (earlier ++ time y ∷ []) (i + 1) xs x, append_assoc earlier (time y ∷ []) (map time xs), sum)
    (cond_append (is_late mark earlier (time y)) (record { index = i; time = time y; mark = greatest mark earlier } ∷ lates time mark (earlier ++ time y ∷ []) (i + 1) xs) (lates time mark (earlier ++ time y ∷ []) (i + 1) xs) _)

pub map_same : (xs : List ℕ) → map (λ x. x) xs ≡ xs
map_same [] = refl
map_same (x ∷ xs) = ap (λ l. x ∷ l) (map_same xs)

-- the same of the first i of a list of times
pub timely_more : (mark : ℕ) (ts : List ℕ) (i : ℕ) → i < length ts → timely (λ t. t) mark [] (take (i + 1) ts) ≡ timely (λ t. t) mark [] (take i ts) ++ cond (ltb (get_or ts i 0) (greatest mark (take i ts))) [] (get_or ts i 0 ∷ [])
timely_more mark ts i lt = ap (timely (λ t. t) mark []) (take_more ts i 0 lt) ∙ (timely-push (λ t. t) mark [] (take i ts) (get_or ts i 0) ∙ rw (map_same (take i ts)) refl)

pub lates_more : (mark : ℕ) (ts : List ℕ) (i : ℕ) → i < length ts → lates (λ t. t) mark [] 0 (take (i + 1) ts) ≡ lates (λ t. t) mark [] 0 (take i ts) ++ cond (ltb (get_or ts i 0) (greatest mark (take i ts))) (record { index = i; time = get_or ts i 0; mark = greatest mark (take i ts) } ∷ []) []
lates_more mark ts i lt =
    let n : 0 + length (take i ts) ≡ i = omega (arith, length-take i ts) in
    ap (lates (λ t. t) mark [] 0) (take_more ts i 0 lt) ∙ (lates-push (λ t. t) mark [] 0 (take i ts) (get_or ts i 0) ∙ rw (map_same (take i ts), n) refl)

pub greatest_more : (mark : ℕ) (ts : List ℕ) (i : ℕ) → i < length ts → greatest mark (take (i + 1) ts) ≡ max (get_or ts i 0) (greatest mark (take i ts))
greatest_more mark ts i lt = ap (greatest mark) (take_more ts i 0 lt) ∙ greatest-push mark (take i ts) (get_or ts i 0)

-- a loop's step at a late time, and at one that isn't
pub record LateStep (mark : ℕ) (ts : List ℕ) (i m x : ℕ) : Type 0 where
  pub kept : timely (λ t. t) mark [] (take (i + 1) ts) ≡ timely (λ t. t) mark [] (take i ts)
  pub late : lates (λ t. t) mark [] 0 (take (i + 1) ts) ≡ lates (λ t. t) mark [] 0 (take i ts) ++ record { index = i; time = x; mark = m } ∷ []
  pub mark_ : greatest mark (take (i + 1) ts) ≡ m

pub record KeptStep (mark : ℕ) (ts : List ℕ) (i x : ℕ) : Type 0 where
  pub kept : timely (λ t. t) mark [] (take (i + 1) ts) ≡ timely (λ t. t) mark [] (take i ts) ++ x ∷ []
  pub late : lates (λ t. t) mark [] 0 (take (i + 1) ts) ≡ lates (λ t. t) mark [] 0 (take i ts)
  pub mark_ : greatest mark (take (i + 1) ts) ≡ x

late_step_at : (mark : ℕ) (ts : List ℕ) (i m : ℕ) → i < length ts → m ≡ greatest mark (take i ts) → get_or ts i 0 < m → LateStep mark ts i m (get_or ts i 0)
late_step_at mark ts i m lt is low =
    let e : ltb (get_or ts i 0) (greatest mark (take i ts)) ≡ true = lt-ltb _ _ (omega arith) in
    record {
      kept = timely_more mark ts i lt ∙ rw e (append-nil _);
      late = lates_more mark ts i lt ∙ rw (e, is) refl;
      mark_ = greatest_more mark ts i lt ∙ (omega arith);
    }

kept_step_at : (mark : ℕ) (ts : List ℕ) (i : ℕ) → i < length ts → greatest mark (take i ts) ≤ get_or ts i 0 → KeptStep mark ts i (get_or ts i 0)
kept_step_at mark ts i lt high =
    let e : ltb (get_or ts i 0) (greatest mark (take i ts)) ≡ false = le-ltb _ _ high in
    record {
      kept = timely_more mark ts i lt ∙ rw e refl;
      late = lates_more mark ts i lt ∙ rw e (append-nil _);
      mark_ = greatest_more mark ts i lt ∙ (omega arith);
    }

item_is : (ts : List ℕ) (i x : ℕ) → i < length ts → x ≡ get_or ts i x → get_or ts i 0 ≡ x
item_is [] i x lt e = absurd (omega arith)
item_is (t ∷ ts) zero x lt e = sym e
item_is (t ∷ ts) (suc i) x lt e = item_is ts i x (omega arith) e

pub late_step : (mark : ℕ) (ts : List ℕ) (i m x : ℕ) → i < length ts → x ≡ get_or ts i x → m ≡ greatest mark (take i ts) → x < m → LateStep mark ts i m x
late_step mark ts i m x lt e is low =
    let item = item_is ts i x lt e in
    subst (λ (y : ℕ). LateStep mark ts i m y) item (late_step_at mark ts i m lt is (omega (arith, item)))

pub kept_step : (mark : ℕ) (ts : List ℕ) (i x : ℕ) → i < length ts → x ≡ get_or ts i x → greatest mark (take i ts) ≤ x → KeptStep mark ts i x
kept_step mark ts i x lt e high =
    let item = item_is ts i x lt e in
    subst (λ (y : ℕ). KeptStep mark ts i y) item (kept_step_at mark ts i lt (omega (arith, item)))
