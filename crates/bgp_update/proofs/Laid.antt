-- Laws of AS4_PATH laid over AS_PATH, and of the path of a list of attributes.
use Rattle.std.proofs.Common.{◌≡◌, ℕ, ◌+◌, ◌-◌, ◌<◌, ◌≤◌, ◌==◌, inl, inr, Bool, true, false, List, [], ◌∷◌, length, Option, Some, None, refl, sym, ap, subst, ◌∙◌, arith}
use Rattle.std.specs.Prelude.{filter, if◌then◌else◌}
use Rattle.std.proofs.lemmas.Bool.{cases_lt, lt-ltb, le-ltb}
use Rattle.std.proofs.lemmas.List.{length-append}
use Rattle.route_model.specs.Reading.{NoReading}
use Rattle.route_model.specs.declared.octets.ReadFault.{ReadFault}
use Rattle.route_model.specs.declared.octets.ReadFault.TheVariants as faults
use Rattle.route_model.specs.declared.path.Segment.{Segment}
use Rattle.route_model.specs.declared.route.Aggregator.{Aggregator}
use Rattle.route_model.specs.declared.wire.AsWidth.{AsWidth}
use Rattle.route_model.specs.Widths.{width_of}
use Rattle.bgp_update.specs.declared.attribute.PathAttribute.{PathAttribute}
use Rattle.bgp_update.specs.AttributeFields.{value_of}
use Rattle.bgp_update.specs.Values.{Optionally, as4_path}
use Rattle.bgp_update.specs.Paths.{IsPath, has_numbers, numbers}
use Rattle.bgp_update.specs.Joining.{weight, count, Joined, NoneEmpty, first_numbers, leading, joined_path, IsLaid}
use Rattle.bgp_update.specs.Readings.{IsWholePath}
use Rattle.bgp_update.proofs.SegmentFields.{path_one}
use Rattle.bgp_update.proofs.Joins.{joined_is, joined_one, joined_laid, leading_whole}
use Rattle.bgp_update.proofs.Optional.{optional_none}

pub stays_malformed : (value : List ℕ) (own : List Segment) → ((path : List Segment) → IsPath 4 value path → ⊥) → IsLaid (Some value) own own
stays_malformed value own none = inr ((λ longer fits. none longer fits.0), refl)

pub stays_shorter : (value : List ℕ) (own longer : List Segment) → IsPath 4 value longer → count own < count longer → IsLaid (Some value) own own
stays_shorter value own longer is more =
    inr ((λ other fits. let same = ap count (path_one 4 value longer other is fits.0) in omega (arith, same, fits.1, more)), refl)

pub is_laid : (value : List ℕ) (own longer path : List Segment) → NoneEmpty own → IsPath 4 value longer → count longer ≤ count own → path ≡ joined_path own longer
    → IsLaid (Some value) own path
is_laid value own longer path some is le e = inl (longer, (is, le), subst (λ (t : List Segment). Joined own longer t) (sym e) (joined_is own longer some le))

-- ---- a joined path has few segments

if_few : (b : Bool) (x : Segment) → length (if b then [] else x ∷ []) ≤ 1
if_few true x = omega arith
if_few false x = omega arith

leading_few : (path : List Segment) (k : ℕ) → length (leading path k) ≤ length path
leading_few [] k = omega arith
leading_few (s ∷ path) k = elim (cases_lt k (weight s)) [
  | inl cut ↦ rw (lt-ltb k (weight s) cut) (omega (arith, if_few (k == 0) (first_numbers k s)))
  | inr whole ↦ rw (leading_whole s path k whole) (omega (arith, leading_few path (k - weight s)))
]

pub joined_few : (own longer : List Segment) → count longer ≤ count own → length (joined_path own longer) ≤ length own + length longer
joined_few own longer le =
    omega (arith, ap length (joined_laid own longer le), length-append (leading own (count own - count longer)) longer, leading_few own (count own - count longer))

-- ---- no segment of a path is empty

kept_some : (s : Segment) (rest : List Segment) (b : Bool) → has_numbers s ≡ b → NoneEmpty rest → NoneEmpty (if b then s ∷ rest else rest)
kept_some s rest false e all = all
kept_some s rest true e all = elim (cases_lt 0 (length (numbers s))) [
  | inl some ↦ (some, all)
  | inr none ↦ let both : false ≡ true = sym (le-ltb 0 (length (numbers s)) none) ∙ e in absurd cc
]

none_empty : (all : List Segment) → NoneEmpty (filter has_numbers all)
none_empty [] = tt
none_empty (s ∷ all) = kept_some s (filter has_numbers all) (has_numbers s) refl (none_empty all)

pub path_none_empty : (width : ℕ) (bytes : List ℕ) (path : List Segment) → IsPath width bytes path → NoneEmpty path
path_none_empty width bytes path p = subst (λ (t : List Segment). NoneEmpty t) (sym p.2) (none_empty p.0)

-- ---- a value has one path laid over

pub laid_one : (value : Option (List ℕ)) (own one two : List Segment) → NoneEmpty own → IsLaid value own one → IsLaid value own two → one ≡ two
laid_one None own one two some p q = p ∙ sym q
laid_one (Some value) own one two some (inl p) (inl q) =
    let same : p.0 ≡ q.0 = path_one 4 value p.0 q.0 p.1.0 q.1.0 in
    joined_one own p.0 one some p.2 ∙ ap (λ (t : List Segment). joined_path own t) same ∙ sym (joined_one own q.0 two some q.2)
laid_one (Some value) own one two some (inl p) (inr q) = absurd (q.0 p.0 p.1)
laid_one (Some value) own one two some (inr p) (inl q) = absurd (p.0 q.0 q.1)
laid_one (Some value) own one two some (inr p) (inr q) = p.1 ∙ sym q.1

-- ---- the path of a list

pub no_path : (e : ReadFault) (width : AsWidth) (list : List PathAttribute) (aggregator : Option Aggregator) (value : List ℕ) → Some value ≡ value_of 2 list
    → NoReading (IsPath (width_of width) value) e → NoReading (IsWholePath width list aggregator) e
no_path faults.OutOfMemory width list aggregator value e none = tt
no_path faults.Malformed width list aggregator value e none =
    λ w q. optional_none (IsPath (width_of width)) value (value_of 2 list) e none q.own q.is_own

pub whole_path : (width : AsWidth) (list : List PathAttribute) (aggregator : Option Aggregator) (value : List ℕ) (own path : List Segment) → Some value ≡ value_of 2 list
    → IsPath (width_of width) value own → IsLaid (as4_path width list aggregator) own path → IsWholePath width list aggregator (Some path)
whole_path width list aggregator value own path e is laid = record {
  own = Some own;
  is_own = subst (λ (t : Option (List ℕ)). Optionally (IsPath (width_of width)) t (Some own)) e is;
  laid = laid;
}
