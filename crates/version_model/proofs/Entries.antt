-- The versions that entries represent.
use Rattle.std.proofs.Common.{◌≡◌, ℕ, ◌+◌, ◌<◌, List, [], ◌∷◌, ◌++◌, length, get_or, Option, Some, None, IsSome, slice_get, refl, sym, ◌∙◌, ap, subst, arith, inl, inr, Bor, Vec, Global, IsTrue, true, false, eqb, eq-eqb}
use Rattle.version_model.specs.Versions.{Version, AsOf, IsRising}
use Rattle.version_model.specs.Entries.{version_of, versions_of}
use Rattle.std.specs.Option.{option_map, is_some}
use Rattle.std.proofs.lemmas.Bool.{cases_order, eqb-true}
use Rattle.std.proofs.lemmas.List.{length-map, map-append}
use Rattle.std.proofs.lemmas.Option.{slice_get-map, slice_get_read, slice_get_within, same_Some}
use Rattle.version_model.specs.declared.entry.Entry.{Entry}
use Rattle.version_model.proofs.api.AsOfs.{AsOf-one}
use Rattle.version_model.proofs.Kept.{Keeps, Keeps-yes}

pub read_at : (es : List Entry) (i : ℕ) (e : Entry) → i < length es → e ≡ get_or es i e → slice_get (versions_of es) i ≡ Some (version_of e)
read_at es i e lt is = slice_get-map version_of es i ∙ ap (option_map version_of) (slice_get_read es (length es) i e refl lt is)

pub length-versions : (es : List Entry) → length (versions_of es) ≡ length es
length-versions es = length-map es version_of

pub keeps_push : (P Q : Version → Type 0) (vs : List Version) (n : ℕ) (kept : List Entry) (new : List Entry) (e : Entry) (v : Version) → new ≡ kept ++ e ∷ [] → version_of e ≡ v → slice_get vs n ≡ Some v → Keeps P Q vs n (versions_of kept) → IsRising vs → P v → Keeps P Q vs (n + 1) (versions_of new)
keeps_push P Q vs n kept new e v items same at keeps rising p =
    let pushed : versions_of new ≡ versions_of kept ++ v ∷ [] = ap versions_of items ∙ map-append version_of kept (e ∷ []) ∙ ap (λ x. versions_of kept ++ x ∷ []) same in
    subst (Keeps P Q vs (n + 1)) (sym pushed) (Keeps-yes P Q vs n (versions_of kept) v at keeps rising p)

pub value_read : (o : Option (Vec ℕ Global)) (r : Option (Bor (Vec ℕ Global))) → option_map (λ x. x.now) r ≡ o → option_map (λ (v : Vec ℕ Global). v.items) o ≡ option_map (λ x. x.now.items) r
value_read o None e = ap (option_map (λ (v : Vec ℕ Global). v.items)) (sym e)
value_read o (Some x) e = ap (option_map (λ (v : Vec ℕ Global). v.items)) (sym e)

-- a version is a value that holds exactly where the version that holds stands at its place
pub spans_iff : (vs : List Version) (v u : Version) (i place s : ℕ) → IsRising vs → slice_get vs i ≡ Some v → slice_get vs place ≡ Some u → AsOf vs v.key s u → IsSome v.value →
    (IsTrue (eqb place i) → AsOf vs v.key s v × IsSome v.value) × (AsOf vs v.key s v × IsSome v.value → IsTrue (eqb place i))
spans_iff vs v u i place s rising at_i at_place holds some = (
  λ same. (subst (AsOf vs v.key s) (same_Some u v (sym at_place ∙ subst (λ k. slice_get vs k ≡ Some v) (sym (eqb-true place i same)) at_i)) holds, some),
  λ h. (let one : u.stamp ≡ v.stamp = ap (λ (x : Version). x.stamp) (AsOf-one vs v.key s u v rising holds h.0) in
      elim (cases_order place i) [
        | inl here ↦ eq-eqb place i here
        | inr other ↦ elim other [
          | inl lt ↦ absurd (omega (arith, rising.rises place i u v lt at_place at_i))
          | inr gt ↦ absurd (omega (arith, rising.rises i place v u gt at_i at_place))
        ]
      ]),
)

-- the version at a place is that of the entry there
pub is_entry : (es : List Entry) (i : ℕ) (e : Entry) (v : Version) → e ≡ get_or es i e → slice_get (versions_of es) i ≡ Some v → v ≡ version_of e
is_entry es i e v is at =
    let lt : i < length es = omega (arith, slice_get_within (versions_of es) i v at, length-versions es) in
    same_Some v (version_of e) (sym at ∙ read_at es i e lt is)

pub some_value : (o : Option (Vec ℕ Global)) → is_some o ≡ true → is_some (option_map (λ (x : Vec ℕ Global). x.items) o) ≡ true
some_value None h = h
some_value (Some x) h = refl

pub versions_push : (kept new : List Entry) (e : Entry) (v : Version) → new ≡ kept ++ e ∷ [] → version_of e ≡ v → versions_of new ≡ versions_of kept ++ v ∷ []
versions_push kept new e v items same = ap versions_of items ∙ map-append version_of kept (e ∷ []) ∙ ap (λ x. versions_of kept ++ x ∷ []) same

pub value_some : (o : Option (Vec ℕ Global)) → is_some o ≡ true → IsSome (option_map (λ (x : Vec ℕ Global). x.items) o)
value_some None h = absurd (let f : true ≡ false = sym h in cc)
value_some (Some x) h = refl

pub value_none : (o : Option (Vec ℕ Global)) → is_some o ≡ false → option_map (λ (x : Vec ℕ Global). x.items) o ≡ None
value_none None h = refl
value_none (Some x) h = absurd (let f : true ≡ false = h in cc)
