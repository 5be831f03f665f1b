-- The order of spots is total, is the one that is derived, and of values it is the order of their numbers.
use Rattle.std.proofs.Common.{◌≡◌, ℕ, ◌<◌, true, cond, ◌&&◌, eqb, refl, sym, ap, ◌∙◌, subst, arith, inl, inr, Option}
use Rattle.std.specs.Cmp.{IsTotalOrder}
use Rattle.std.specs.Ordering.{nat_cmp, ordering_then, is_eq}
use Rattle.std.specs.BTreeMap.{BTreeMap, get, IsOrdered}
use Rattle.std.specs.declared.cmp.Ordering.{Ordering}
use Rattle.std.specs.declared.cmp.Ordering.TheVariants.{Less, Equal, Greater}
use Rattle.std.proofs.lemmas.Bool.{cases_order, le-ltb, eq-eqb, ne_eqb}
use Rattle.std.proofs.lemmas.Bool.Decides.{nat_tests}
use Rattle.std.proofs.lemmas.Map.Text.{is_eq-slice_cmp}
use Rattle.route_model.specs.declared.address.Address.{Address}
use Rattle.route_model.specs.declared.address.Address.TheVariants.{V4, V6}
use Rattle.route_model.specs.declared.peer.Peer.{Peer}
use Rattle.route_model.specs.declared.route.Route.{Route}
use Rattle.route_model.specs.Prefix.{IpPrefix}
use Rattle.route_model.specs.Keys.{address_order, peer_order, prefix_order}
use Rattle.route_model.proofs.api.Keys.{prefixes_cmp}
use Rattle.route_meaning.specs.declared.question.Spot.{Spot}
use Rattle.route_model.specs.contracts.address.AddressOrd.TheImpl as address_ord
use Rattle.route_meaning.specs.contracts.question.SpotOrd.TheImpl as spot_ord
use Rattle.route_meaning.specs.contracts.question.SpotOrd.TheImpl.Laws as spot_laws
use Rattle.route_meaning.specs.Holds.{same_address, same_peer, same_prefix}
use Rattle.route_meaning.specs.Rows.{spot_number}
use Rattle.route_meaning.specs.inner.Replay.{spot_cmp, IsSpot}
use Rattle.route_meaning.proofs.Holding.{both, all_true, same_peer-true, same_prefix-true, same_peer-itself, same_prefix-itself}

-- ---- the derived order

address-derived : (a b : Address) → (address_ord.cmp-value).it a b ≡ address_order a b
address-derived (V4 a) (V4 b) = refl
address-derived (V4 a) (V6 b) = refl
address-derived (V6 a) (V4 b) = refl
address-derived (V6 a) (V6 b) = refl

spot-derived : (s t : Spot) → (spot_ord.cmp-value).it s t ≡ spot_cmp s t
spot-derived s t = λ i.
    ordering_then
    (ordering_then (nat_cmp s.peer.collector t.peer.collector) (ordering_then (address-derived s.peer.address t.peer.address i) (nat_cmp s.peer.as_number t.peer.as_number)))
    (ordering_then (address-derived s.prefix.address t.prefix.address i) (nat_cmp s.prefix.length t.prefix.length))

pub spots_derived : (spot_ord.cmp-value).it ≡ spot_cmp
spots_derived = λ i s t. spot-derived s t i

pub spot_cmp_total : IsTotalOrder spot_cmp
spot_cmp_total = subst IsTotalOrder spots_derived spot_laws.total-law

-- ---- equal spots

is_eq-then : (o p : Ordering) → is_eq (ordering_then o p) ≡ (is_eq o && is_eq p)
is_eq-then Less p = refl
is_eq-then Equal p = refl
is_eq-then Greater p = refl

is_eq-nat : (m n : ℕ) → is_eq (nat_cmp m n) ≡ eqb m n
is_eq-nat m n = grind (arith, nat_tests)

is_eq-address : (a b : Address) → is_eq (address_order a b) ≡ same_address a b
is_eq-address (V4 a) (V4 b) = is_eq-slice_cmp a b
is_eq-address (V4 a) (V6 b) = refl
is_eq-address (V6 a) (V4 b) = refl
is_eq-address (V6 a) (V6 b) = is_eq-slice_cmp a b

is_eq-peer : (p q : Peer) → is_eq (peer_order p q) ≡ same_peer p q
is_eq-peer p q =
    is_eq-then (nat_cmp p.collector q.collector) (ordering_then (address_order p.address q.address) (nat_cmp p.as_number q.as_number))
    ∙ (ap (λ b. is_eq (nat_cmp p.collector q.collector) && b) (is_eq-then (address_order p.address q.address) (nat_cmp p.as_number q.as_number))
    ∙ rw (is_eq-nat p.collector q.collector, is_eq-address p.address q.address, is_eq-nat p.as_number q.as_number) refl)

is_eq-prefix : (x y : IpPrefix) → is_eq (prefix_order x y) ≡ same_prefix x y
is_eq-prefix x y =
    is_eq-then (address_order x.address y.address) (nat_cmp x.length y.length)
    ∙ rw (is_eq-address x.address y.address, is_eq-nat x.length y.length) refl

pub spot_cmp-eq : (s t : Spot) → is_eq (spot_cmp s t) ≡ (same_peer s.peer t.peer && same_prefix s.prefix t.prefix)
spot_cmp-eq s t = is_eq-then (peer_order s.peer t.peer) (prefix_order s.prefix t.prefix) ∙ rw (is_eq-peer s.peer t.peer, is_eq-prefix s.prefix t.prefix) refl

pub same_spot : (s t : Spot) → is_eq (spot_cmp s t) ≡ true → s ≡ t
same_spot s t e =
    let a = both _ _ (sym (spot_cmp-eq s t) ∙ e) in
    let e1 : s.peer ≡ t.peer = same_peer-true _ _ a.0 in
    let e2 : s.prefix ≡ t.prefix = same_prefix-true _ _ a.1 in
    λ i. record { peer = e1 i; prefix = e2 i }

pub spot_cmp-itself : (s : Spot) → is_eq (spot_cmp s s) ≡ true
spot_cmp-itself s = spot_cmp-eq s s ∙ all_true _ _ (same_peer-itself s.peer) (same_prefix-itself s.prefix)

-- ---- the numbers of spots

pub cmp_equal : (m n : ℕ) → m ≡ n → nat_cmp m n ≡ Equal
cmp_equal m n e = rw (le-ltb m n (omega arith), eq-eqb m n e) refl

cmp_greater : (m n : ℕ) → n < m → nat_cmp m n ≡ Greater
cmp_greater m n gt = rw (le-ltb m n (omega arith), ne_eqb m n (λ e. omega arith)) refl

pub spot_cmp-numbers : (s t : Spot) → IsSpot s → IsSpot t → nat_cmp (spot_number s) (spot_number t) ≡ spot_cmp s t
spot_cmp-numbers s t is it = prefixes_cmp s.peer t.peer s.prefix t.prefix is.0 it.0 is.1 it.1

pub spots_below : (s t : Spot) → IsSpot s → IsSpot t → spot_cmp s t ≡ Less → spot_number s < spot_number t
spots_below s t is it less = less_is (spot_number s) (spot_number t) (spot_cmp-numbers s t is it ∙ less)
  where
    less_is : (m n : ℕ) → nat_cmp m n ≡ Less → m < n
    less_is m n e = elim (cases_order m n) [
      | inl same ↦ absurd (let same' = cmp_equal m n same in let e' : Equal ≡ Less = sym same' ∙ e in cc)
      | inr other ↦ elim other [
        | inl lt ↦ lt
        | inr gt ↦ absurd (let e' : Greater ≡ Less = sym (cmp_greater m n gt) ∙ e in cc)
      ]
    ]

-- ---- a map by the derived order is one by the order of spots

pub updated_as : (m n : BTreeMap Spot Route) (d : Spot) (w : Option Route) → ((s : Spot) → get (spot_ord.cmp-value).it n s ≡ cond (is_eq ((spot_ord.cmp-value).it d s)) w (get (spot_ord.cmp-value).it m s)) → (s : Spot) → get spot_cmp n s ≡ cond (is_eq (spot_cmp d s)) w (get spot_cmp m s)
updated_as m n d w u = subst (λ (cmp : Spot → Spot → Ordering). (s : Spot) → get cmp n s ≡ cond (is_eq (cmp d s)) w (get cmp m s)) spots_derived u

pub ordered_as : (m : BTreeMap Spot Route) → IsOrdered (spot_ord.cmp-value).it m → IsOrdered spot_cmp m
ordered_as m o = subst (λ (cmp : Spot → Spot → Ordering). IsOrdered cmp m) spots_derived o
