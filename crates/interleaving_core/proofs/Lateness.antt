-- What is below a collector's mark is below some time or mark that was given for it, and the other way round.
use Rattle.std.proofs.Common.{◌≡◌, ℕ, ◌+◌, List, [], ◌∷◌, ◌++◌, ltb, max, refl, sym, ap, ◌∙◌, arith, append-nil, append_assoc}
use Rattle.sequencer.specs.Late.{greatest, is_late, timely, lates}
use Rattle.sequencer.proofs.api.Sieving.{is_late-greatest}

greatest-max : (x mark : ℕ) (ts : List ℕ) → greatest (max x mark) ts ≡ max x (greatest mark ts)
greatest-max x mark [] = refl
greatest-max x mark (t ∷ ts) = omega (arith, greatest-max x mark ts)

pub greatest-append : (mark : ℕ) (xs ys : List ℕ) → greatest mark (xs ++ ys) ≡ greatest (greatest mark xs) ys
greatest-append mark [] ys = refl
greatest-append mark (x ∷ xs) ys = ap (max x) (greatest-append mark xs ys) ∙ sym (greatest-max x (greatest mark xs) ys)

-- late by a mark and these times is late by all that was given
late_is : (reported ts : List ℕ) (t : ℕ) → is_late (greatest 0 reported) ts t ≡ is_late 0 (reported ++ ts) t
late_is reported ts t = is_late-greatest (greatest 0 reported) ts t ∙ (ap (ltb t) (sym (greatest-append 0 reported ts)) ∙ sym (is_late-greatest 0 (reported ++ ts) t))

timely_after : {X : Type 0} (f : X → ℕ) (reported ts : List ℕ) (xs : List X) → timely f (greatest 0 reported) ts xs ≡ timely f 0 (reported ++ ts) xs
timely_after f reported ts [] = refl
timely_after f reported ts (x ∷ xs) =
    let rest : timely f (greatest 0 reported) (ts ++ f x ∷ []) xs ≡ timely f 0 ((reported ++ ts) ++ f x ∷ []) xs =
    timely_after f reported (ts ++ f x ∷ []) xs ∙ ap (λ (l : List ℕ). timely f 0 l xs) (sym (append_assoc reported ts (f x ∷ []))) in
    rw (late_is reported ts (f x), rest) refl

lates_after : {X : Type 0} (f : X → ℕ) (reported ts : List ℕ) (i : ℕ) (xs : List X) → lates f (greatest 0 reported) ts i xs ≡ lates f 0 (reported ++ ts) i xs
lates_after f reported ts i [] = refl
lates_after f reported ts i (x ∷ xs) =
    let rest : lates f (greatest 0 reported) (ts ++ f x ∷ []) (i + 1) xs ≡ lates f 0 ((reported ++ ts) ++ f x ∷ []) (i + 1) xs =
    lates_after f reported (ts ++ f x ∷ []) (i + 1) xs ∙ ap (λ (l : List ℕ). lates f 0 l (i + 1) xs) (sym (append_assoc reported ts (f x ∷ []))) in
    rw (late_is reported ts (f x), rest, greatest-append 0 reported ts) refl

pub timely_reported : {X : Type 0} (f : X → ℕ) (reported : List ℕ) (xs : List X) → timely f (greatest 0 reported) [] xs ≡ timely f 0 reported xs
timely_reported f reported xs = timely_after f reported [] xs ∙ ap (λ (l : List ℕ). timely f 0 l xs) (append-nil reported)

pub lates_reported : {X : Type 0} (f : X → ℕ) (reported : List ℕ) (xs : List X) → lates f (greatest 0 reported) [] 0 xs ≡ lates f 0 reported 0 xs
lates_reported f reported xs = lates_after f reported [] 0 xs ∙ ap (λ (l : List ℕ). lates f 0 l 0 xs) (append-nil reported)
