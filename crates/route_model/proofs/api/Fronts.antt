-- Numbers and octets at the front of octets.
use Rattle.std.proofs.Common.{◌≡◌, ℕ, ◌+◌, ◌<◌, ◌≤◌, List, [], ◌∷◌, ◌++◌, length, take, drop, get_or, refl, sym, ap, ◌∙◌, arith}
use Rattle.std.proofs.lemmas.List.{take-append-drop, drop-append-le, length-drop, length-take}
use Rattle.byteorder.specs.Endian.{big_number}
use Rattle.byteorder.specs.Numbers.{big_from-append}
use Rattle.route_model.specs.Octets.{number_at}

-- what stands whole in the front is the same where more follows
pub number_at-append : (n k : ℕ) (xs ys : List ℕ) → k + n ≤ length xs → number_at n k (xs ++ ys) ≡ number_at n k xs
number_at-append n k xs ys h =
    ap (λ (t : List ℕ). big_number n t) (drop-append-le k xs ys (omega arith))
    ∙ big_from-append n (drop k xs) ys (omega (arith, length-drop k xs))

pub number_at-take : (n k m : ℕ) (xs : List ℕ) → k + n ≤ m → m ≤ length xs → number_at n k (take m xs) ≡ number_at n k xs
number_at-take n k m xs low high =
    sym (number_at-append n k (take m xs) (drop m xs) (omega (arith, length-take m xs)))
    ∙ ap (λ (t : List ℕ). number_at n k t) (take-append-drop m xs)

-- two fronts of one list have the same numbers
pub same_number : (n k : ℕ) (a b x y : List ℕ) → k + n ≤ length a → k + n ≤ length b → a ++ x ≡ b ++ y → number_at n k a ≡ number_at n k b
same_number n k a b x y p q e =
    sym (number_at-append n k a x p) ∙ ap (λ (t : List ℕ). number_at n k t) e ∙ number_at-append n k b y q

-- the first octet of a front is that of the whole
pub first_octet : (a x : List ℕ) → 0 < length a → get_or (a ++ x) 0 0 ≡ get_or a 0 0
first_octet [] x h = absurd (omega (arith, h))
first_octet (b ∷ a) x h = refl

pub same_first : (a b x y : List ℕ) → 0 < length a → 0 < length b → a ++ x ≡ b ++ y → get_or a 0 0 ≡ get_or b 0 0
same_first a b x y p q e = sym (first_octet a x p) ∙ ap (λ (t : List ℕ). get_or t 0 0) e ∙ first_octet b y q
