-- A window that grows by what a reader gives.
use Rattle.std.proofs.Common.{◌≡◌, ◌≢◌, ◌↔◌, ℕ, ◌<◌, ◌≤◌, Bool, true, false, eqb, IsTrue, List, [], ◌∷◌, ◌++◌, length, Option, Result, sym, ap, ◌∙◌, subst, arith, append-nil, append_assoc, length-append}
use Rattle.std.specs.Io.KnownBytes.{Consumes, Keeps, ReadConsumes, prepend_known}
use Rattle.std.proofs.KnownBytes.{Consumes-nil, Consumes-trans, Consumes-kept, prepend_known-nil}
use Rattle.std.proofs.Math.Seq.{get_or-append_seam}
use Rattle.std.proofs.lemmas.List.{nil_from_length}
use Rattle.std.proofs.lemmas.Bool.Decides.{Decides-eqb}
use Rattle.line_reader.specs.Lines.{HasNoEnd, HasLine}

-- the reader gave these octets, and the window has them after its own
pub record Grown (was now : List ℕ) (left_was left : Option (List ℕ)) : Type 0 where
  pub gave : List ℕ
  pub consumed : Consumes left_was left gave
  pub octets : now ≡ was ++ gave

pub grown_none : (was : List ℕ) (left : Option (List ℕ)) → Grown was was left left
grown_none was left = record { gave = []; consumed = Consumes-nil left; octets = sym (append-nil was) }

pub grown_more : (was mid now more : List ℕ) (a b c : Option (List ℕ)) → now ≡ mid ++ more → Consumes b c more → Grown was mid a b → Grown was now a c
grown_more was mid now more a b c e eaten g = record {
  gave = g.gave ++ more;
  consumed = Consumes-trans a b c g.gave more g.consumed eaten;
  octets = e ∙ ap (λ (t : List ℕ). t ++ more) g.octets ∙ append_assoc was g.gave more;
}

pub grown_kept : (was mid now : List ℕ) (a b c : Option (List ℕ)) → now ≡ mid → Keeps b c → Grown was mid a b → Grown was now a c
grown_kept was mid now a b c e kept g = record { gave = g.gave; consumed = Consumes-kept a b c g.gave g.consumed kept; octets = e ∙ g.octets }

-- where no line feed is among all the octets, no line stands at the front of the first
pub no_line : (was now gave : List ℕ) → now ≡ was ++ gave → HasNoEnd now → HasLine was → ⊥
no_line was now gave e none has =
    let w = has.begins.written in
    let split : now ≡ w ++ 10 ∷ (has.rest ++ gave) = e ∙ ap (λ (t : List ℕ). t ++ gave) has.begins.parts ∙ append_assoc w (10 ∷ has.rest) gave in
    subst HasNoEnd split none (length w) 0 (omega (arith, length-append w (10 ∷ (has.rest ++ gave)))) (get_or-append_seam w 10 (has.rest ++ gave) 0)

-- a list whose length is 0
pub is_nil : (octets : List ℕ) (r : Bool) → r ≡ eqb (length octets) 0 → r ≡ true → octets ≡ []
is_nil octets r e t = nil_from_length octets ((Decides-eqb (length octets) 0).0 (sym e ∙ t))

-- where nothing is read ahead, a read is the reader's
pub read_below : {E : Type 0} (was now : List ℕ) (a b : Option (List ℕ)) (r : Result ℕ E) (piece : List ℕ) → was ≡ [] → now ≡ [] → ReadConsumes a b r piece → ReadConsumes (prepend_known was a) (prepend_known now b) r piece
read_below was now a b r piece e f p =
    let first : prepend_known was a ≡ a = ap (λ (t : List ℕ). prepend_known t a) e ∙ prepend_known-nil a in
    let second : prepend_known now b ≡ b = ap (λ (t : List ℕ). prepend_known t b) f ∙ prepend_known-nil b in
    subst (λ (x : Option (List ℕ)). ReadConsumes x (prepend_known now b) r piece) (sym first) (subst (λ (y : Option (List ℕ)). ReadConsumes a y r piece) (sym second) p)

-- a window that isn't full
pub below_limit : (full : Bool) (n : ℕ) → (IsTrue full ↔ (n ≡ 4096)) → n ≤ 4096 → full ≡ false → n < 4096
below_limit full n reports few isnt =
    let other : n ≢ 4096 = λ e. let is : full ≡ true = reports.1 e in cc in
    omega arith

-- a read that gave nothing leaves the window as it was
pub grown_by_none : (mid now more : List ℕ) (count : ℕ) → count ≡ 0 → length more ≡ count → now ≡ mid ++ more → now ≡ mid
grown_by_none mid now more count none len e = e ∙ ap (λ (t : List ℕ). mid ++ t) (nil_from_length more (len ∙ none)) ∙ append-nil mid

-- a window that was full has not grown to one that isn't
pub not_full : (was now gave : List ℕ) → now ≡ was ++ gave → length was ≡ 4096 → length now < 4096 → ⊥
not_full was now gave e whole below = omega (arith, ap length e, length-append was gave)
