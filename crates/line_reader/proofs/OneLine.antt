-- Octets begin with at most one line.
use Rattle.std.proofs.Common.{◌≡◌, ◌≢◌, ℕ, ◌+◌, ◌-◌, ◌<◌, suc, List, [], ◌∷◌, ◌++◌, length, get_or, inl, inr, refl, sym, ap, ◌∙◌, subst, arith, append_assoc, length-append}
use Rattle.std.proofs.Math.Seq.{get_or-append_seam}
use Rattle.std.proofs.lemmas.List.{same_from_push}
use Rattle.std.specs.Str.Lines.{StripsCarriageReturn}
use Rattle.line_reader.specs.Lines.{HasNoEnd}
use Rattle.line_reader.specs.LineLaws.{OneLine, StaysTheLine}

no_end_after : (x : ℕ) (xs : List ℕ) → HasNoEnd (x ∷ xs) → HasNoEnd xs
no_end_after x xs none k d h = none (suc k) d (omega arith)

-- the first line feed stands at one place
one_end : (w v rest beyond : List ℕ) → HasNoEnd w → HasNoEnd v → w ++ 10 ∷ rest ≡ v ++ 10 ∷ beyond → (w ≡ v) × (rest ≡ beyond)
one_end [] [] rest beyond none others e = let tails : rest ≡ beyond = cc in (refl, tails)
one_end [] (y ∷ v) rest beyond none others e = let first : y ≡ 10 = cc in absurd (others 0 0 (omega arith) first)
one_end (x ∷ w) [] rest beyond none others e = let first : x ≡ 10 = cc in absurd (none 0 0 (omega arith) first)
one_end (x ∷ w) (y ∷ v) rest beyond none others e =
    let first : x ≡ y = cc in
    let tails : w ++ 10 ∷ rest ≡ v ++ 10 ∷ beyond = cc in
    let same = one_end w v rest beyond (no_end_after x w none) (no_end_after y v others) tails in
    ((λ i. first i ∷ same.0 i), same.1)

-- the last octet is no carriage return, and is one
last_differs : (l x : List ℕ) → (0 < length l → get_or l (length l - 1) 0 ≢ 13) → l ≡ x ++ 13 ∷ [] → ⊥
last_differs l x no_return e =
    let len : length l ≡ length x + 1 = omega (arith, ap length e, length-append x (13 ∷ [])) in
    let place : length l - 1 ≡ length x = omega arith in
    no_return (omega arith) (ap (λ (k : ℕ). get_or l k 0) place ∙ ap (λ (t : List ℕ). get_or t (length x) 0) e ∙ get_or-append_seam x 13 [] 0)

-- what is written has one text
one_text : (l x y : List ℕ) → StripsCarriageReturn l x → StripsCarriageReturn l y → x ≡ y
one_text l x y (inl p) (inl q) = p.0 ∙ sym q.0
one_text l x y (inl p) (inr q) = absurd (last_differs l y p.1 q)
one_text l x y (inr p) (inl q) = absurd (last_differs l x q.1 p)
one_text l x y (inr p) (inr q) = (same_from_push x y 13 13 (sym p ∙ q)).0

pub one_line : OneLine
one_line octets line rest other beyond p q =
    let same = one_end p.written q.written rest beyond p.whole q.whole (sym p.parts ∙ q.parts) in
    (one_text q.written line other (subst (λ (w : List ℕ). StripsCarriageReturn w line) same.0 p.line_is) q.line_is, same.1)

pub stays_the_line : StaysTheLine
stays_the_line octets line rest more p = record {
  written = p.written;
  parts = ap (λ (t : List ℕ). t ++ more) p.parts ∙ append_assoc p.written (10 ∷ rest) more;
  whole = p.whole;
  few = p.few;
  line_is = p.line_is;
}
