-- A list of attributes has one reading.
use Rattle.std.proofs.Common.{◌≡◌, ℕ, inl, inr, Bool, List, [], ◌∷◌, Option, Some, None, refl, sym, ap, subst, ◌∙◌, arith}
use Rattle.route_model.specs.Reading.{Exactly}
use Rattle.std.specs.Prelude.{Result, Ok, Err}
use Rattle.route_model.specs.declared.octets.ReadFault.{ReadFault}
use Rattle.route_model.specs.declared.octets.ReadFault.TheVariants as faults
use Rattle.route_model.specs.declared.route.Origin.{Origin}
use Rattle.route_model.specs.declared.route.Origin.TheVariants.{Igp, Egp, Incomplete}
use Rattle.route_model.specs.declared.route.Aggregator.{Aggregator}
use Rattle.route_model.specs.declared.path.Segment.{Segment}
use Rattle.route_model.specs.declared.wire.AsWidth.{AsWidth}
use Rattle.route_model.specs.Widths.{width_of}
use Rattle.route_model.proofs.api.Sequences.{sequence_one}
use Rattle.bgp_update.specs.declared.attribute.PathAttribute.{PathAttribute}
use Rattle.bgp_update.specs.declared.reading.PathAttributes.{PathAttributes}
use Rattle.bgp_update.specs.AttributeFields.{IsAttributeField, AreListed, value_of}
use Rattle.route_model.specs.Encoding.{origin_octet}
use Rattle.route_model.specs.declared.attribute.Attribute.{Attribute}
use Rattle.bgp_update.specs.Values.{Optionally, IsOrigin, IsNumber, IsFour, IsFlag, IsAggregator, as4_path, as4_aggregator, counted_aggregator}
use Rattle.bgp_update.specs.Paths.{IsPath}
use Rattle.bgp_update.specs.Joining.{IsLaid}
use Rattle.bgp_update.proofs.SegmentFields.{path_one}
use Rattle.bgp_update.proofs.Laid.{laid_one, path_none_empty}
use Rattle.bgp_update.specs.Readings.{IsWholePath, IsReading, AreAttributes}
use Rattle.bgp_update.proofs.AttributeFields.{attributes_free}
use Rattle.bgp_update.proofs.Optional.{optional_one}

-- the octets are one list of attributes
pub listed_one : (bytes : List ℕ) (one two : List PathAttribute) → AreListed bytes one → AreListed bytes two → one ≡ two
listed_one bytes one two p q = sequence_one IsAttributeField attributes_free bytes one two p.fields q.fields

pub aggregator_one : (value : List ℕ) (a b : Aggregator) → IsAggregator value a → IsAggregator value b → a ≡ b
aggregator_one value a b (inl p) (inl q) = p.1 ∙ sym q.1
aggregator_one value a b (inl p) (inr q) = absurd (omega (arith, p.0, q.0))
aggregator_one value a b (inr p) (inl q) = absurd (omega (arith, p.0, q.0))
aggregator_one value a b (inr p) (inr q) = p.1 ∙ sym q.1

-- a reading of the listed attributes is one of the octets
pub of_listed : (width : AsWidth) (bytes : List ℕ) (list : List PathAttribute) (result : Result PathAttributes ReadFault) → AreListed bytes list
    → Exactly (λ r. r) (IsReading width list) result → Exactly (λ r. r) (AreAttributes width bytes) result
of_listed width bytes list (Ok r) listed reads = record { list = list; listed = listed; reads = reads }
of_listed width bytes list (Err faults.OutOfMemory) listed none = tt
of_listed width bytes list (Err faults.Malformed) listed none =
    λ r q. none r (subst (λ (t : List PathAttribute). IsReading width t r) (listed_one bytes q.list list q.listed listed) q.reads)

-- ---- single values

same_origin : (a b : Origin) → origin_octet a ≡ origin_octet b → a ≡ b
same_origin Igp Igp e = refl
same_origin Igp Egp e = absurd (omega (arith, e))
same_origin Igp Incomplete e = absurd (omega (arith, e))
same_origin Egp Igp e = absurd (omega (arith, e))
same_origin Egp Egp e = refl
same_origin Egp Incomplete e = absurd (omega (arith, e))
same_origin Incomplete Igp e = absurd (omega (arith, e))
same_origin Incomplete Egp e = absurd (omega (arith, e))
same_origin Incomplete Incomplete e = refl

same_head : (x y : ℕ) (xs ys : List ℕ) → (x ∷ xs) ≡ y ∷ ys → x ≡ y
same_head x y xs ys e = cc

origin_one : (value : List ℕ) (a b : Origin) → IsOrigin value a → IsOrigin value b → a ≡ b
origin_one value a b p q = same_origin a b (same_head (origin_octet a) (origin_octet b) [] [] (sym p ∙ q))

number_one : (value : List ℕ) (a b : ℕ) → IsNumber value a → IsNumber value b → a ≡ b
number_one value a b p q = p.1 ∙ sym q.1

four_one : (value a b : List ℕ) → IsFour value a → IsFour value b → a ≡ b
four_one value a b p q = p.1 ∙ sym q.1

flag_one : (value : Option (List ℕ)) (a b : Bool) → IsFlag value a → IsFlag value b → a ≡ b
flag_one None a b p q = p ∙ sym q
flag_one (Some value) a b p q = p.1 ∙ sym q.1

-- ---- the path

both_laid : (width : ℕ) (value : Option (List ℕ)) (longer : Option (List ℕ)) (own p q : Option (List Segment)) → Optionally (IsPath width) value own
    → Optionally (IsLaid longer) own p → Optionally (IsLaid longer) own q → p ≡ q
both_laid width value longer None None None is l m = refl
both_laid width value longer None None (Some q) is l m = absurd m
both_laid width value longer None (Some p) q is l m = absurd l
both_laid width value longer (Some own) None q is l m = absurd l
both_laid width value longer (Some own) (Some p) None is l m = absurd m
both_laid width None longer (Some own) (Some p) (Some q) is l m = absurd is
both_laid width (Some value) longer (Some own) (Some p) (Some q) is l m =
    ap (λ (t : List Segment). Some t) (laid_one longer own p q (path_none_empty width value own is) l m)

whole_one : (width : AsWidth) (list : List PathAttribute) (aggregator : Option Aggregator) (p q : Option (List Segment)) → IsWholePath width list aggregator p
    → IsWholePath width list aggregator q → p ≡ q
whole_one width list aggregator p q a b =
    let same : b.own ≡ a.own = optional_one (IsPath (width_of width)) (path_one (width_of width)) (value_of 2 list) b.own a.own b.is_own a.is_own in
    both_laid (width_of width) (value_of 2 list) (as4_path width list aggregator) a.own p q a.is_own a.laid
    (subst (λ (t : Option (List Segment)). Optionally (IsLaid (as4_path width list aggregator)) t q) same b.laid)

-- ---- all of them

abbrev made : Option Origin → Option (List Segment) → Option (List ℕ) → Option ℕ → Option ℕ → Bool → Option Aggregator → Option (List ℕ) → Option (List ℕ) → List Attribute → PathAttributes
made o p h m l a g r u k = record {
  origin = o;
  path = p;
  next_hop = h;
  med = m;
  local_pref = l;
  atomic_aggregate = a;
  aggregator = g;
  reach = r;
  unreach = u;
  others = k;
}

pub reading_one : (width : AsWidth) (list : List PathAttribute) (x y : PathAttributes) → IsReading width list x → IsReading width list y → x ≡ y
reading_one width list x y p q =
    let origin = optional_one IsOrigin origin_one (value_of 1 list) x.origin y.origin p.origin q.origin in
    let own : p.aggregator ≡ q.aggregator = optional_one IsAggregator aggregator_one (value_of 7 list) p.aggregator q.aggregator p.is_aggregator q.is_aggregator in
    let path = whole_one width list q.aggregator x.path y.path (subst (λ (t : Option Aggregator). IsWholePath width list t x.path) own p.path) q.path in
    let hop = optional_one IsFour four_one (value_of 3 list) x.next_hop y.next_hop p.next_hop q.next_hop in
    let med = optional_one IsNumber number_one (value_of 4 list) x.med y.med p.med q.med in
    let pref = optional_one IsNumber number_one (value_of 5 list) x.local_pref y.local_pref p.local_pref q.local_pref in
    let atomic = flag_one (value_of 6 list) x.atomic_aggregate y.atomic_aggregate p.atomic q.atomic in
    let aggregator : x.aggregator ≡ y.aggregator = p.whole_aggregator ∙ ap (λ (t : Option Aggregator). counted_aggregator t (as4_aggregator width list)) own ∙ sym q.whole_aggregator in
    let reach : x.reach ≡ y.reach = p.reach ∙ sym q.reach in
    let unreach : x.unreach ≡ y.unreach = p.unreach ∙ sym q.unreach in
    let others : x.others ≡ y.others = p.others ∙ sym q.others in
    ap (λ (t : Option Origin). made t x.path x.next_hop x.med x.local_pref x.atomic_aggregate x.aggregator x.reach x.unreach x.others) origin
    ∙ ap (λ (t : Option (List Segment)). made y.origin t x.next_hop x.med x.local_pref x.atomic_aggregate x.aggregator x.reach x.unreach x.others) path
    ∙ ap (λ (t : Option (List ℕ)). made y.origin y.path t x.med x.local_pref x.atomic_aggregate x.aggregator x.reach x.unreach x.others) hop
    ∙ ap (λ (t : Option ℕ). made y.origin y.path y.next_hop t x.local_pref x.atomic_aggregate x.aggregator x.reach x.unreach x.others) med
    ∙ ap (λ (t : Option ℕ). made y.origin y.path y.next_hop y.med t x.atomic_aggregate x.aggregator x.reach x.unreach x.others) pref
    ∙ ap (λ (t : Bool). made y.origin y.path y.next_hop y.med y.local_pref t x.aggregator x.reach x.unreach x.others) atomic
    ∙ ap (λ (t : Option Aggregator). made y.origin y.path y.next_hop y.med y.local_pref y.atomic_aggregate t x.reach x.unreach x.others) aggregator
    ∙ ap (λ (t : Option (List ℕ)). made y.origin y.path y.next_hop y.med y.local_pref y.atomic_aggregate y.aggregator t x.unreach x.others) reach
    ∙ ap (λ (t : Option (List ℕ)). made y.origin y.path y.next_hop y.med y.local_pref y.atomic_aggregate y.aggregator y.reach t x.others) unreach
    ∙ ap (λ (t : List Attribute). made y.origin y.path y.next_hop y.med y.local_pref y.atomic_aggregate y.aggregator y.reach y.unreach t) others

-- the octets have one reading
pub attributes_one : (width : AsWidth) (bytes : List ℕ) (x y : PathAttributes) → AreAttributes width bytes x → AreAttributes width bytes y → x ≡ y
attributes_one width bytes x y p q =
    reading_one width q.list x y (subst (λ (t : List PathAttribute). IsReading width t x) (listed_one bytes p.list q.list p.listed q.listed) p.reads) q.reads
