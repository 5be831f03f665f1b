-- Laws of path attributes.
use Rattle.std.proofs.Common.{◌≡◌, ℕ, ◌-◌, ◌≤◌, inl, inr, Bool, true, false, ◌==◌, List, [], ◌∷◌, ◌++◌, length, take, drop, refl, sym, ap, subst, ◌∙◌, arith, append_assoc}
use Rattle.std.specs.Prelude.{◌||◌, if◌then◌else◌, bit_and, ◌⊎◌}
use Rattle.std.specs.List.{list_any}
use Rattle.std.proofs.lemmas.Bool.{eqb-true, eqb-false}
use Rattle.std.proofs.lemmas.Bool.Decides.{eqb_tells}
use Rattle.std.proofs.lemmas.List.Folds.{list_any-append}
use Rattle.route_model.specs.Octets.{number_at}
use Rattle.bgp_update.specs.AttributeFields.{IsAttributeField, NoneTwice, AreListed, header_size}
use Rattle.bgp_update.specs.declared.attribute.PathAttribute.{PathAttribute}
use Rattle.route_model.proofs.api.Sequences.{IsPrefixFree, same_fronts, ReadSoFar, read_on, read_front}
use Rattle.bgp_update.proofs.SegmentFields.{same_octet}
use Rattle.route_model.proofs.api.Fronts.{number_at-append}

abbrev made : ℕ → ℕ → List ℕ → PathAttribute
made f k v = record { flags = f; kind = k; value = v }

sizes : (b : Bool) → (3 ≤ (if b then 3 else 4)) × ((if b then 3 else 4) ≤ 4)
sizes true = (omega arith, omega arith)
sizes false = (omega arith, omega arith)

header_size_is : (flags : ℕ) → (3 ≤ header_size flags) × (header_size flags ≤ 4)
header_size_is flags = sizes (bit_and flags 16 == 0)

pub attributes_free : IsPrefixFree IsAttributeField
attributes_free = record {
  one = λ a b x y v w p q e.
      let ha = header_size_is v.flags in
      let hb = header_size_is w.flags in
      let flags : v.flags ≡ w.flags = p.flags ∙ same_octet a b x y 0 (omega (arith, p.size, ha.0)) (omega (arith, q.size, hb.0)) e ∙ sym q.flags in
      let kind : v.kind ≡ w.kind = p.kind ∙ same_octet a b x y 1 (omega (arith, p.size, ha.0)) (omega (arith, q.size, hb.0)) e ∙ sym q.kind in
      let heads : header_size v.flags ≡ header_size w.flags = ap header_size flags in
      let front : number_at (header_size v.flags - 2) 2 a ≡ number_at (header_size v.flags - 2) 2 b =
      sym (number_at-append (header_size v.flags - 2) 2 a x (omega (arith, p.size, ha.0)))
      ∙ ap (λ (t : List ℕ). number_at (header_size v.flags - 2) 2 t) e
      ∙ number_at-append (header_size v.flags - 2) 2 b y (omega (arith, q.size, heads, hb.0)) in
      let len : length v.value ≡ length w.value = p.len ∙ front ∙ ap (λ (n : ℕ). number_at (n - 2) 2 b) heads ∙ sym q.len in
      let size : length a ≡ length b = omega (arith, p.size, q.size, heads, len) in
      let fronts = same_fronts a b x y size e in
      let value : v.value ≡ w.value = p.value ∙ ap (λ (n : ℕ). drop n a) heads ∙ ap (λ (t : List ℕ). drop (header_size w.flags) t) fronts.0 ∙ sym q.value in
      (fronts.0, ap (λ (f : ℕ). made f v.kind v.value) flags ∙ ap (λ (k : ℕ). made w.flags k v.value) kind ∙ ap (λ (t : List ℕ). made w.flags w.kind t) value);
  some = λ v p. let h = header_size_is v.flags in omega (arith, p.size, h.0);
}

-- ---- no kind twice

abbrev pub Has : ℕ → List PathAttribute → Bool
Has kind list = list_any (λ b. b.kind == kind) list

or_false : (x y : Bool) → (x || y) ≡ false → (x ≡ false) × (y ≡ false)
or_false true y e = absurd cc
or_false false y e = (refl, e)

swapped : (m n : ℕ) → (m == n) ≡ false → (n == m) ≡ false
swapped m n e = elim (eqb_tells n m) [ inl same ↦ absurd (eqb-false m n e (sym same.1)) | inr other ↦ other.0 ]

pub none_twice_push : (list : List PathAttribute) (a : PathAttribute) → NoneTwice list → Has a.kind list ≡ false → NoneTwice (list ++ a ∷ [])
none_twice_push [] a p none = (refl, tt)
none_twice_push (b ∷ list) a p none =
    let parts = or_false (b.kind == a.kind) (Has a.kind list) none in
    let last : Has b.kind (a ∷ []) ≡ false = rw (swapped b.kind a.kind parts.0) refl in
    let others : Has b.kind (list ++ a ∷ []) ≡ false = list_any-append (λ (x : PathAttribute). x.kind == b.kind) list (a ∷ []) ∙ rw (p.0, last) refl in
    (others, none_twice_push list a p.1 parts.1)

or_true : (x y : Bool) → (x || y) ≡ true → (x ≡ true) ⊎ (y ≡ true)
or_true true y e = inl refl
or_true false y e = inr e

pub twice_is_refused : (list more : List PathAttribute) (a : PathAttribute) → NoneTwice (list ++ a ∷ more) → Has a.kind list ≡ true → ⊥
twice_is_refused [] more a p has = absurd cc
twice_is_refused (b ∷ list) more a p has = elim (or_true (b.kind == a.kind) (Has a.kind list) has) [
  | inl same ↦
      let others : (Has b.kind list || Has b.kind (a ∷ more)) ≡ false = sym (list_any-append (λ (x : PathAttribute). x.kind == b.kind) list (a ∷ more)) ∙ p.0 in
      let one = or_false (a.kind == b.kind) (Has b.kind more) (or_false (Has b.kind list) (Has b.kind (a ∷ more)) others).1 in
      eqb-false a.kind b.kind one.0 (sym (eqb-true b.kind a.kind same))
  | inr later ↦ twice_is_refused list more a p.1 later
]

-- an attribute of a kind that was read before
pub read_twice : (bytes rest : List ℕ) (list : List PathAttribute) (a : PathAttribute) (n : ℕ) → ReadSoFar IsAttributeField bytes rest list → IsAttributeField (take n rest) a
    → Has a.kind list ≡ true → (ws : List PathAttribute) → AreListed bytes ws → ⊥
read_twice bytes rest list a n p f has ws q =
    let on = read_on IsAttributeField bytes rest list a n p f in
    let more = read_front IsAttributeField attributes_free on.fields q.fields.0 (list ++ a ∷ []) ws (drop n rest) on.each q.fields.1 (sym on.whole ∙ q.fields.2) in
    twice_is_refused list more.0 a (subst (λ (t : List PathAttribute). NoneTwice t) (more.1 ∙ append_assoc list (a ∷ []) more.0) q.distinct) has
