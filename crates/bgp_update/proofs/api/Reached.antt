-- Laws of the attributes of RFC 4760.
use Rattle.std.proofs.Common.{◌≡◌, ◌≢◌, ℕ, ◌≤◌, List, [], ◌∷◌, ◌++◌, length, drop, Option, Some, None, refl, sym, ap, subst, ◌∙◌, arith}
use Rattle.std.specs.Prelude.{Result, Ok, Err, slice_get}
use Rattle.std.proofs.Common.{inl, inr}
use Rattle.route_model.specs.Reading.{Exactly}
use Rattle.route_model.specs.Sequence.{Sequence}
use Rattle.route_model.specs.Prefix.{IpPrefix}
use Rattle.route_model.specs.PrefixFields.{IsPrefixField}
use Rattle.route_model.specs.declared.octets.ReadFault.{ReadFault}
use Rattle.route_model.specs.declared.octets.ReadFault.TheVariants as faults
use Rattle.route_model.specs.declared.address.Address.TheVariants.{V4, V6}
use Rattle.route_model.specs.declared.route.NextHop.{NextHop}
use Rattle.route_model.specs.declared.route.NextHop.TheVariants.{One, Pair}
use Rattle.route_model.specs.declared.wire.Family.{Family}
use Rattle.route_model.proofs.api.Sequences.{same_fronts, sequence_one}
use Rattle.route_model.proofs.api.PrefixFields.{prefixes_free}
use Rattle.bgp_update.specs.declared.reach.Reach.{Reach}
use Rattle.bgp_update.specs.NextHops.{IsHop, family_at, IsAfter, IsReachOf, IsReach, IsReached, AreReached, AreOf, AreUnreached, IsShort, IsEntryHop, IsEntryReach, hop_of}

some_one : {A : Type 0} (x y : A) → Some x ≡ Some y → x ≡ y
some_one x y e = cc

-- a value whose octets after AFI and SAFI are no next hop and prefixes
pub no_reach : (value beyond : List ℕ) (family : Family) → Some family ≡ family_at value → beyond ≡ drop 3 value
    → ((hop : NextHop) (nlri : List ℕ) → IsAfter family beyond hop nlri → ⊥) → (r : Option Reach) → IsReach value r → ⊥
no_reach value beyond family e b none None q = let both : Some family ≡ None = e ∙ q.1 in absurd cc
no_reach value beyond family e b none (Some reach) q =
    let same : reach.family ≡ family = some_one reach.family family (sym q.family ∙ sym e) in
    none reach.next_hop reach.nlri
    (subst (λ (t : List ℕ). IsAfter family t reach.next_hop reach.nlri) (sym b)
    (subst (λ (f : Family). IsAfter f (drop 3 value) reach.next_hop reach.nlri) same q.beyond))

-- reading the prefixes after AFI and SAFI is reading MP_UNREACH_NLRI
pub unreached_exactly : {X : Type 0} (view : X → List IpPrefix) (value beyond : List ℕ) (family : Family) (result : Result X ReadFault) → 3 ≤ length value
    → Some family ≡ family_at value → beyond ≡ drop 3 value → Exactly view (Sequence (IsPrefixField family) beyond) result → Exactly view (AreUnreached (Some value)) result
unreached_exactly view value beyond family (Ok x) room e b reads =
    (room, subst (λ (f : Option Family). AreOf f (drop 3 value) (view x)) e (subst (λ (t : List ℕ). Sequence (IsPrefixField family) t (view x)) b reads))
unreached_exactly view value beyond family (Err faults.OutOfMemory) room e b none = tt
unreached_exactly view value beyond family (Err faults.Malformed) room e b none = λ v q.
    none v (subst (λ (t : List ℕ). Sequence (IsPrefixField family) t v) (sym b) (subst (λ (f : Option Family). AreOf f (drop 3 value) v) (sym e) q.1))

-- ---- one reach

hop_one : (octets : List ℕ) (a b : NextHop) → IsHop octets a → IsHop octets b → a ≡ b
hop_one octets (One (V4 o)) (One (V4 u)) p q = ap (λ (t : List ℕ). One (V4 t)) (p.1 ∙ sym q.1)
hop_one octets (One (V4 o)) (One (V6 u)) p q = absurd (omega (arith, p.0, q.0))
hop_one octets (One (V4 o)) (Pair u) p q = absurd (omega (arith, p.0, q.0))
hop_one octets (One (V6 o)) (One (V4 u)) p q = absurd (omega (arith, p.0, q.0))
hop_one octets (One (V6 o)) (One (V6 u)) p q = ap (λ (t : List ℕ). One (V6 t)) (p.1 ∙ sym q.1)
hop_one octets (One (V6 o)) (Pair u) p q = absurd (omega (arith, p.0, q.0))
hop_one octets (Pair o) (One (V4 u)) p q = absurd (omega (arith, p.0, q.0))
hop_one octets (Pair o) (One (V6 u)) p q = absurd (omega (arith, p.0, q.0))
hop_one octets (Pair o) (Pair u) p q = ap (λ (t : List ℕ). Pair t) (p.1 ∙ sym q.1)

heads : (x y : ℕ) (xs ys : List ℕ) → (x ∷ xs) ≡ y ∷ ys → x ≡ y
heads x y xs ys e = cc

tails : (x y : ℕ) (xs ys : List ℕ) → (x ∷ xs) ≡ y ∷ ys → xs ≡ ys
tails x y xs ys e = cc

after_one : (family : Family) (beyond : List ℕ) (a b : NextHop) (x y : List ℕ) → IsAfter family beyond a x → IsAfter family beyond b y → (a ≡ b) × (x ≡ y)
after_one family beyond a b x y p q =
    let whole : (length p.octets ∷ p.octets ++ (p.reserved ∷ x)) ≡ length q.octets ∷ q.octets ++ (q.reserved ∷ y) = sym p.parts ∙ q.parts in
    let size = heads _ _ _ _ whole in
    let fronts = same_fronts p.octets q.octets (p.reserved ∷ x) (q.reserved ∷ y) size (tails _ _ _ _ whole) in
    (hop_one q.octets a b (subst (λ (t : List ℕ). IsHop t a) fronts.0 p.is_hop) q.is_hop, tails _ _ _ _ fronts.1)

abbrev made : Family → NextHop → List ℕ → Reach
made f h n = record { family = f; next_hop = h; nlri = n }

some_reach : (value : List ℕ) (x y : Reach) → IsReachOf value x → IsReachOf value y → x ≡ y
some_reach value x y p q =
    let family : x.family ≡ y.family = some_one x.family y.family (sym p.family ∙ q.family) in
    let both = after_one y.family (drop 3 value) x.next_hop y.next_hop x.nlri y.nlri
    (subst (λ (f : Family). IsAfter f (drop 3 value) x.next_hop x.nlri) family p.beyond) q.beyond in
    ap (λ (f : Family). made f x.next_hop x.nlri) family ∙ ap (λ (h : NextHop). made y.family h x.nlri) both.0 ∙ ap (λ (n : List ℕ). made y.family y.next_hop n) both.1

pub reach_one : (value : List ℕ) (x y : Option Reach) → IsReach value x → IsReach value y → x ≡ y
reach_one value None None p q = refl
reach_one value None (Some y) p q = let both : None ≡ Some y.family = sym p.1 ∙ q.family in absurd cc
reach_one value (Some x) None p q = let both : None ≡ Some x.family = sym q.1 ∙ p.family in absurd cc
reach_one value (Some x) (Some y) p q = ap (λ (t : Reach). Some t) (some_reach value x y p q)

pub reached_one : (value : Option (List ℕ)) (x y : Option Reach) → IsReached value x → IsReached value y → x ≡ y
reached_one None x y p q = p ∙ sym q
reached_one (Some value) x y p q = reach_one value x y p q

-- a reach has one list of prefixes
pub prefixes_one : (reach : Option Reach) (xs ys : List IpPrefix) → AreReached reach xs → AreReached reach ys → xs ≡ ys
prefixes_one None xs ys p q = p ∙ sym q
prefixes_one (Some reach) xs ys p q = sequence_one (IsPrefixField reach.family) (prefixes_free reach.family) reach.nlri xs ys p q

pub ipv4_one : (family : Family) (field : List ℕ) (xs ys : List IpPrefix) → Sequence (IsPrefixField family) field xs → Sequence (IsPrefixField family) field ys → xs ≡ ys
ipv4_one family field xs ys p q = sequence_one (IsPrefixField family) (prefixes_free family) field xs ys p q

-- ---- one next hop of an entry

short_one : (value : List ℕ) (a b : NextHop) → IsShort value a → IsShort value b → a ≡ b
short_one value a b p q =
    let whole : (length p.0 ∷ p.0) ≡ length q.0 ∷ q.0 = sym p.1 ∙ q.1 in
    hop_one q.0 a b (subst (λ (t : List ℕ). IsHop t a) (tails _ _ _ _ whole) p.2) q.2

entry_hop_one : (value : List ℕ) (a b : Option NextHop) → IsEntryHop value a → IsEntryHop value b → a ≡ b
entry_hop_one [] a b p q = absurd p
entry_hop_one (x ∷ rest) a b (inl p) (inl q) = p.3 ∙ ap hop_of (reach_one (x ∷ rest) p.1 q.1 p.2 q.2) ∙ sym q.3
entry_hop_one (x ∷ rest) a b (inl p) (inr q) = absurd (q.0 p.0)
entry_hop_one (x ∷ rest) a b (inr p) (inl q) = absurd (p.0 q.0)
entry_hop_one (x ∷ rest) a b (inr p) (inr q) = p.3 ∙ ap (λ (t : NextHop). Some t) (short_one (x ∷ rest) p.1 q.1 p.2 q.2) ∙ sym q.3

-- an entry has one next hop of MP_REACH_NLRI
pub entry_reach_one : (value : Option (List ℕ)) (a b : Option NextHop) → IsEntryReach value a → IsEntryReach value b → a ≡ b
entry_reach_one None a b p q = p ∙ sym q
entry_reach_one (Some value) a b p q = entry_hop_one value a b p q

-- a value that begins with another octet than zero, and isn't the short form
pub no_entry_hop : (value : List ℕ) (first : ℕ) → Some first ≡ slice_get value 0 → first ≢ 0 → ((hop : NextHop) → IsShort value hop → ⊥) → (h : Option NextHop) → IsEntryHop value h → ⊥
no_entry_hop [] first e other none h q = q
no_entry_hop (x ∷ rest) first e other none h (inl q) = other (some_one first x e ∙ q.0)
no_entry_hop (x ∷ rest) first e other none h (inr q) = none q.1 q.2
