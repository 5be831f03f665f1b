-- Texts that are cut at an octet.
use Rattle.std.proofs.Common.{◌≡◌, ◌≢◌, ℕ, zero, suc, ◌+◌, ◌<◌, ◌≤◌, List, [], ◌∷◌, ◌++◌, length, get_or, refl, sym, ap, subst, ◌∙◌, arith, Option, Some, None, take, drop, IfSome, IfNone, MatchOption, eqb}
use Rattle.std.specs.Borrow.{Bor}
use Rattle.std.specs.Str.{NoCharPasses}
use Rattle.std.specs.Str.Pattern.{RFindsChar}
use Rattle.std.proofs.lemmas.List.{take-append-drop}
use Rattle.std.proofs.lemmas.Str.Pattern.{split_parts, IsSplitOnceResult, NoCharPasses-char, drop_at_char}
use Rattle.route_text.specs.Octets.{Lacks}

-- ---- octets that stand nowhere

pub Lacks-nil : (c : ℕ) → Lacks c []
Lacks-nil c = record { nowhere = λ i h e. omega arith }

pub Lacks-cons : (c x : ℕ) (xs : List ℕ) → x ≢ c → Lacks c xs → Lacks c (x ∷ xs)
Lacks-cons c x xs here later = record { nowhere = at }
  where
    at : (i : ℕ) → i < length (x ∷ xs) → get_or (x ∷ xs) i 0 ≢ c
    at zero h e = here e
    at (suc i) h e = later.nowhere i (omega arith) e

pub Lacks-head : (c x : ℕ) (xs : List ℕ) → Lacks c (x ∷ xs) → x ≢ c
Lacks-head c x xs h e = h.nowhere 0 (omega arith) e

pub Lacks-tail : (c x : ℕ) (xs : List ℕ) → Lacks c (x ∷ xs) → Lacks c xs
Lacks-tail c x xs h = record { nowhere = λ i l e. h.nowhere (suc i) (omega arith) e }

pub Lacks-append : (c : ℕ) (xs ys : List ℕ) → Lacks c xs → Lacks c ys → Lacks c (xs ++ ys)
Lacks-append c [] ys h k = k
Lacks-append c (x ∷ xs) ys h k = Lacks-cons c x (xs ++ ys) (Lacks-head c x xs h) (Lacks-append c xs ys (Lacks-tail c x xs h) k)

pub Lacks-same : (c : ℕ) (xs ys : List ℕ) → xs ≡ ys → Lacks c xs → Lacks c ys
Lacks-same c xs ys e h = subst (Lacks c) e h

-- a text in which c stands doesn't lack it
pub Lacks-at : (c : ℕ) (xs ys : List ℕ) → Lacks c (xs ++ c ∷ ys) → ⊥
Lacks-at c [] ys h = Lacks-head c c ys h refl
Lacks-at c (x ∷ xs) ys h = Lacks-at c xs ys (Lacks-tail c x (xs ++ c ∷ ys) h)

-- ---- one cut

-- there is one cut at the first c
pub first_cut : (c : ℕ) (xs ys us vs : List ℕ) → xs ++ c ∷ ys ≡ us ++ c ∷ vs → Lacks c xs → Lacks c us → (xs ≡ us) × (ys ≡ vs)
first_cut c [] ys [] vs e h k = (refl, cc)
first_cut c [] ys (u ∷ us) vs e h k = absurd (Lacks-head c u us k (cc))
first_cut c (x ∷ xs) ys [] vs e h k = absurd (Lacks-head c x xs h (cc))
first_cut c (x ∷ xs) ys (u ∷ us) vs e h k =
    let rest = first_cut c xs ys us vs (cc) (Lacks-tail c x xs h) (Lacks-tail c u us k) in
    let heads : x ≡ u = cc in
    let tails : xs ≡ us = rest.0 in
    (cc, rest.1)

-- there is one cut at the last c
pub last_cut : (c : ℕ) (xs ys us vs : List ℕ) → xs ++ c ∷ ys ≡ us ++ c ∷ vs → Lacks c ys → Lacks c vs → (xs ≡ us) × (ys ≡ vs)
last_cut c [] ys [] vs e h k = (refl, cc)
last_cut c [] ys (u ∷ us) vs e h k = let rest : ys ≡ us ++ c ∷ vs = cc in absurd (Lacks-at c us vs (Lacks-same c ys (us ++ c ∷ vs) rest h))
last_cut c (x ∷ xs) ys [] vs e h k = let rest : vs ≡ xs ++ c ∷ ys = cc in absurd (Lacks-at c xs ys (Lacks-same c vs (xs ++ c ∷ ys) rest k))
last_cut c (x ∷ xs) ys (u ∷ us) vs e h k =
    let rest = last_cut c xs ys us vs (cc) h k in
    let heads : x ≡ u = cc in
    let tails : xs ≡ us = rest.0 in
    (cc, rest.1)

-- ---- what `split_once` and `rsplit_once` give

abbrev Parts : Type 0
Parts = Option (Bor (List ℕ) × Bor (List ℕ))

pub cut_parts : (c : ℕ) (bs : List ℕ) (r : Parts) → IsSplitOnceResult c bs r → c < 128 → IfSome r (λ x. bs ≡ x.0.now ++ c ∷ x.1.now)
cut_parts c bs None h low = tt
cut_parts c bs (Some x) h low = (split_parts c bs (Some x) h low).0

pub cut_first : (c : ℕ) (bs : List ℕ) (r : Parts) → IsSplitOnceResult c bs r → c < 128 → IfSome r (λ x. Lacks c x.0.now)
cut_first c bs None h low = tt
cut_first c bs (Some x) h low = record { nowhere = (split_parts c bs (Some x) h low).1 }

pub cut_none : (c : ℕ) (bs : List ℕ) (r : Parts) → IsSplitOnceResult c bs r → c < 128 → IfNone r (Lacks c bs)
cut_none c bs None h low = record { nowhere = split_parts c bs None h low }
cut_none c bs (Some x) h low = tt

abbrev pub IsLastCut : ℕ → List ℕ → Parts → Type 0
IsLastCut c bs r = MatchOption r (RFindsChar c bs None) (λ x. (i : ℕ) × (j : ℕ) × RFindsChar c bs (Some (i, j)) × (x.0.now ≡ take i bs) × (x.1.now ≡ drop j bs) × (i ≤ j) × (length x.0.now ≡ i) × (length x.1.now + j ≡ length bs))

pub last_parts : (c : ℕ) (bs : List ℕ) (r : Parts) → IsLastCut c bs r → c < 128 → IfSome r (λ x. bs ≡ x.0.now ++ c ∷ x.1.now)
last_parts c bs None h low = tt
last_parts c bs (Some x) h low =
    sym (take-append-drop h.0 bs) ∙ (λ k. sym h.3 k ++ (drop_at_char c bs h.0 h.1 h.2.1 low ∙ ap (λ l. c ∷ l) (sym h.4)) k)

pub last_last : (c : ℕ) (bs : List ℕ) (r : Parts) → IsLastCut c bs r → c < 128 → IfSome r (λ x. Lacks c x.1.now)
last_last c bs None h low = tt
last_last c bs (Some x) h low =
    record { nowhere = λ i. NoCharPasses-char c x.1.now i (subst (NoCharPasses (λ d. eqb d c)) (sym h.4) h.2.0) low }

pub last_none : (c : ℕ) (bs : List ℕ) (r : Parts) → IsLastCut c bs r → c < 128 → IfNone r (Lacks c bs)
last_none c bs None h low = record { nowhere = λ i. NoCharPasses-char c bs i h low }
last_none c bs (Some x) h low = tt
