-- Routes: what was written is read again.
use Rattle.std.proofs.Common.{◌≡◌, ℕ, ◌^◌, ◌<◌, ◌+◌, ◌*◌, Bool, true, false, eqb, List, [], ◌∷◌, ◌++◌, length, Option, Some, None, is_some, refl, ap, ◌∙◌, append_assoc, arith, suc, zero}
use Rattle.std.specs.Prelude.{IfSome, IsTrue}
use Rattle.std.specs.List.{flat_map, AllByRecursion}
use Rattle.std.specs.Int.{w16, w32, to_be_bytes}
use Rattle.std.proofs.lemmas.Bool.{ne_eqb}
use Rattle.route_model.specs.declared.address.Address.TheVariants.{V4, V6}
use Rattle.route_model.specs.declared.route.Origin.{Origin}
use Rattle.route_model.specs.declared.route.Origin.TheVariants.{Igp, Egp, Incomplete}
use Rattle.route_model.specs.declared.path.Segment.{Segment}
use Rattle.route_model.specs.declared.path.Segment.TheVariants as segments
use Rattle.route_model.specs.declared.route.NextHop.{NextHop}
use Rattle.route_model.specs.declared.route.NextHop.TheVariants.{One, Pair}
use Rattle.route_model.specs.declared.route.Aggregator.{Aggregator}
use Rattle.route_model.specs.declared.attribute.Attribute.{Attribute}
use Rattle.route_model.specs.declared.route.Route.{Route}
use Rattle.route_model.specs.Encoding.{segment, segments_octets, next_hop, optional, aggregator, attribute, attributes_octets, presence, flag, origin_octet, route_octets, is_ascending, IsSegment, IsNextHop, IsAttribute, IsAggregator, IsRoute}
use Rattle.route_model.specs.inner.Codec.{number_at, repeat, segment_at, path_at, next_hop_at, optional_at, aggregator_at, attribute_at, attributes_at, origin_of, has, route_at}
use Rattle.route_model.proofs.Fields.{wide16, wide32, number_again, octets_again, repeat_again}

numbers_again : (ns rest : List ℕ) → AllByRecursion (λ n. n < 2 ^ 32) ns → repeat (number_at w32) (length ns) (flat_map (to_be_bytes w32) ns ++ rest) ≡ Some (ns, rest)
numbers_again ns rest all = repeat_again (number_at w32) (to_be_bytes w32) (λ n. n < 2 ^ 32) (λ n more lt. number_again w32 (2 ^ 32) wide32 n more lt) ns rest all

not_zero : (n : ℕ) → 0 < n → eqb n 0 ≡ false
not_zero zero h = absurd (omega arith)
not_zero (suc n) h = ne_eqb (suc n) 0 (λ e. omega arith)

segment_again : (s : Segment) (rest : List ℕ) → IsSegment s → segment_at (segment s ++ rest) ≡ Some (s, rest)
unfolding segment_at
segment_again (segments.Set ns) rest is = rw (not_zero (length ns) is.0, numbers_again ns rest is.2) refl
segment_again (segments.Sequence ns) rest is = rw (not_zero (length ns) is.0, numbers_again ns rest is.2) refl

path_again : (path : List Segment) (rest : List ℕ) → length path < 2 ^ 16 → AllByRecursion IsSegment path → path_at (segments_octets path ++ rest) ≡ Some (path, rest)
unfolding path_at
path_again path rest lt all =
    let regrouped : segments_octets path ++ rest ≡ to_be_bytes w16 (length path) ++ (flat_map segment path ++ rest) = append_assoc (to_be_bytes w16 (length path)) (flat_map segment path) rest in
    ap path_at regrouped ∙ rw (number_again w16 (2 ^ 16) wide16 (length path) (flat_map segment path ++ rest) lt) (repeat_again segment_at segment IsSegment segment_again path rest all)

next_hop_again : (hop : NextHop) (rest : List ℕ) → IsNextHop hop → next_hop_at (next_hop hop ++ rest) ≡ Some (hop, rest)
unfolding next_hop_at
next_hop_again (One (V4 o)) rest is = let size = is.0 in rw (octets_again o rest (length o) refl, size) refl
next_hop_again (One (V6 o)) rest is = let size = is.0 in rw (octets_again o rest (length o) refl, size) refl
next_hop_again (Pair o) rest is = let size = is.0 in rw (octets_again o rest 32 size, size) refl

is_present : {A : Type 0} → Option A → Bool
is_present None = false
is_present (Some x) = true

optional_again : (o : Option ℕ) (b : Bool) (rest : List ℕ) → b ≡ is_present o → IfSome o (λ n. n < 2 ^ 32) → optional_at b (optional o ++ rest) ≡ Some (o, rest)
unfolding optional_at is_present
optional_again None b rest e h = rw e refl
optional_again (Some n) b rest e h = rw (e, number_again w32 (2 ^ 32) wide32 n rest h) refl

aggregator_again : (o : Option Aggregator) (b : Bool) (rest : List ℕ) → b ≡ is_present o → IfSome o IsAggregator → aggregator_at b (aggregator o ++ rest) ≡ Some (o, rest)
unfolding aggregator_at is_present
aggregator_again None b rest e h = rw e refl
aggregator_again (Some a) b rest e h =
    let regrouped : aggregator (Some a) ++ rest ≡ to_be_bytes w32 a.as_number ++ (a.address ++ rest) = append_assoc (to_be_bytes w32 a.as_number) a.address rest in
    ap (aggregator_at b) regrouped ∙ rw (e, number_again w32 (2 ^ 32) wide32 a.as_number (a.address ++ rest) h.as_number, octets_again a.address rest 4 h.address) refl

attribute_again : (a : Attribute) (rest : List ℕ) → IsAttribute a → attribute_at (attribute a ++ rest) ≡ Some (a, rest)
unfolding attribute_at
attribute_again a rest is =
    let regrouped : attribute a ++ rest ≡ a.kind ∷ a.flags ∷ (to_be_bytes w16 (length a.value) ++ (a.value ++ rest)) = ap (λ (t : List ℕ). a.kind ∷ a.flags ∷ t) (append_assoc (to_be_bytes w16 (length a.value)) a.value rest) in
    ap attribute_at regrouped ∙ rw (number_again w16 (2 ^ 16) wide16 (length a.value) (a.value ++ rest) is.size, octets_again a.value rest (length a.value) refl) refl

attributes_again : (others : List Attribute) (rest : List ℕ) → length others < 2 ^ 16 → AllByRecursion IsAttribute others → IsTrue (is_ascending others) → attributes_at (attributes_octets others ++ rest) ≡ Some (others, rest)
unfolding attributes_at
attributes_again others rest lt all ascending =
    let regrouped : attributes_octets others ++ rest ≡ to_be_bytes w16 (length others) ++ (flat_map attribute others ++ rest) = append_assoc (to_be_bytes w16 (length others)) (flat_map attribute others) rest in
    ap attributes_at regrouped ∙ rw (number_again w16 (2 ^ 16) wide16 (length others) (flat_map attribute others ++ rest) lt, repeat_again attribute_at attribute IsAttribute attribute_again others rest all, ascending) refl

origin_again : (o : Origin) → origin_of (origin_octet o) ≡ Some o
origin_again Igp = refl
origin_again Egp = refl
origin_again Incomplete = refl

-- the four bits of the presence octet
record Bits (octet : ℕ) (med pref atomic aggregator : Bool) : Type 0 where
  med_is : has octet 1 ≡ med
  pref_is : has octet 2 ≡ pref
  atomic_is : has octet 4 ≡ atomic
  aggregator_is : has octet 8 ≡ aggregator

bits_again : (m : Option ℕ) (p : Option ℕ) (b : Bool) (a : Option Aggregator) → Bits (flag (is_some m) + 2 * flag (is_some p) + 4 * flag b + 8 * flag (is_some a)) (is_present m) (is_present p) b (is_present a)
unfolding is_present
bits_again None None false None = record { med_is = refl; pref_is = refl; atomic_is = refl; aggregator_is = refl }
bits_again None None false (Some a) = record { med_is = refl; pref_is = refl; atomic_is = refl; aggregator_is = refl }
bits_again None None true None = record { med_is = refl; pref_is = refl; atomic_is = refl; aggregator_is = refl }
bits_again None None true (Some a) = record { med_is = refl; pref_is = refl; atomic_is = refl; aggregator_is = refl }
bits_again None (Some p) false None = record { med_is = refl; pref_is = refl; atomic_is = refl; aggregator_is = refl }
bits_again None (Some p) false (Some a) = record { med_is = refl; pref_is = refl; atomic_is = refl; aggregator_is = refl }
bits_again None (Some p) true None = record { med_is = refl; pref_is = refl; atomic_is = refl; aggregator_is = refl }
bits_again None (Some p) true (Some a) = record { med_is = refl; pref_is = refl; atomic_is = refl; aggregator_is = refl }
bits_again (Some m) None false None = record { med_is = refl; pref_is = refl; atomic_is = refl; aggregator_is = refl }
bits_again (Some m) None false (Some a) = record { med_is = refl; pref_is = refl; atomic_is = refl; aggregator_is = refl }
bits_again (Some m) None true None = record { med_is = refl; pref_is = refl; atomic_is = refl; aggregator_is = refl }
bits_again (Some m) None true (Some a) = record { med_is = refl; pref_is = refl; atomic_is = refl; aggregator_is = refl }
bits_again (Some m) (Some p) false None = record { med_is = refl; pref_is = refl; atomic_is = refl; aggregator_is = refl }
bits_again (Some m) (Some p) false (Some a) = record { med_is = refl; pref_is = refl; atomic_is = refl; aggregator_is = refl }
bits_again (Some m) (Some p) true None = record { med_is = refl; pref_is = refl; atomic_is = refl; aggregator_is = refl }
bits_again (Some m) (Some p) true (Some a) = record { med_is = refl; pref_is = refl; atomic_is = refl; aggregator_is = refl }

-- the parts of a route's encoding, each before the next
parts : (first : ℕ) (path hop : List ℕ) (octet : ℕ) (med pref agg others rest : List ℕ) → (first ∷ path ++ hop ++ octet ∷ med ++ pref ++ agg ++ others) ++ rest ≡ first ∷ (path ++ (hop ++ (octet ∷ (med ++ (pref ++ (agg ++ (others ++ rest)))))))
parts first path hop octet med pref agg others rest = simp append_assoc

pub route_again : (r : Route) (rest : List ℕ) → IsRoute r → route_at (route_octets r ++ rest) ≡ Some (r, rest)
unfolding route_at route_octets
route_again r rest is =
    let bits = bits_again r.med r.local_pref r.atomic_aggregate r.aggregator in
    let end_3 : List ℕ = attributes_octets r.others ++ rest in
    let end_2 : List ℕ = aggregator r.aggregator ++ end_3 in
    let end_1 : List ℕ = optional r.local_pref ++ end_2 in
    let end_0 : List ℕ = presence r ∷ (optional r.med ++ end_1) in
    ap route_at (parts (origin_octet r.origin) (segments_octets r.path) (next_hop r.next_hop) (presence r) (optional r.med) (optional r.local_pref) (aggregator r.aggregator) (attributes_octets r.others) rest)
    ∙ rw (
      origin_again r.origin,
      path_again r.path (next_hop r.next_hop ++ end_0) is.path is.segments,
      next_hop_again r.next_hop end_0 is.next_hop,
      optional_again r.med (has (presence r) 1) end_1 bits.med_is is.med,
      optional_again r.local_pref (has (presence r) 2) end_2 bits.pref_is is.local_pref,
      aggregator_again r.aggregator (has (presence r) 8) end_3 bits.aggregator_is is.aggregator,
      attributes_again r.others rest is.others is.attributes is.ascending,
      bits.atomic_is,
    ) refl

pub one_ascends : (xs : List Attribute) → length xs < 2 → true ≡ is_ascending xs
one_ascends [] h = refl
one_ascends (a ∷ []) h = refl
one_ascends (a ∷ b ∷ xs) h = absurd (omega arith)
