-- Next hops, and the attributes of RFC 4760.
use Rattle.std.specs.Prelude.{◌≡◌, ◌≢◌, ℕ, ◌≤◌, ◌⊎◌, ◌==◌, ◌&&◌, if◌then◌else◌, List, [], ◌∷◌, ◌++◌, length, drop, slice_index, Option, Some, None}
use Rattle.route_model.specs.Octets.{number_at}
use Rattle.route_model.specs.Sequence.{Sequence}
use Rattle.route_model.specs.Prefix.{IpPrefix}
use Rattle.route_model.specs.PrefixFields.{IsPrefixField}
use Rattle.route_model.specs.declared.address.Address.TheVariants.{V4, V6}
use Rattle.route_model.specs.declared.route.NextHop.{NextHop}
use Rattle.route_model.specs.declared.route.NextHop.TheVariants.{One, Pair}
use Rattle.route_model.specs.declared.wire.Family.{Family}
use Rattle.route_model.specs.declared.wire.Family.TheVariants as families
use Rattle.bgp_update.specs.declared.reach.Reach.{Reach}

-- a value that has the relation, or none if no value has
abbrev pub OrNone : {V : Type 0} → (V → Type 0) → Option V → Type 0
OrNone {V = V} Reads None = (v : V) → Reads v → ⊥
OrNone Reads (Some v) = Reads v

-- the octets of a next hop: 4, 16, or 32 for an IPv6 address with its link-local one (RFC 2545 section 3)
abbrev pub IsHop : List ℕ → NextHop → Type 0
IsHop octets (One (V4 o)) = (length octets ≡ 4) × (o ≡ octets)
IsHop octets (One (V6 o)) = (length octets ≡ 16) × (o ≡ octets)
IsHop octets (Pair o) = (length octets ≡ 32) × (o ≡ octets)

-- a next hop of IPv6 routes hasn't four octets
abbrev pub MayLead : Family → List ℕ → Type 0
MayLead families.Ipv4 octets = Unit {0}
MayLead families.Ipv6 octets = length octets ≢ 4

-- the family that an AFI and a SAFI name, of the two that are read: unicast of IPv4 and of IPv6
abbrev pub family_of : ℕ → ℕ → Option Family
family_of afi safi = if (afi == 1) && (safi == 1) then Some families.Ipv4 else (if (afi == 2) && (safi == 1) then Some families.Ipv6 else None)

-- the family at the front of MP_REACH_NLRI and MP_UNREACH_NLRI
abbrev pub family_at : List ℕ → Option Family
family_at value = family_of (number_at 2 0 value) (slice_index value 2)

-- the size of the next hop, the next hop, an octet of any value, and the prefixes
pub record IsAfter (family : Family) (beyond : List ℕ) (hop : NextHop) (nlri : List ℕ) : Type 0 where
  pub octets : List ℕ
  pub reserved : ℕ
  pub parts : beyond ≡ length octets ∷ octets ++ (reserved ∷ nlri)
  pub is_hop : IsHop octets hop
  pub may_lead : MayLead family octets

-- AFI 2, SAFI 1, and what follows them (RFC 4760 section 3)
pub record IsReachOf (value : List ℕ) (reach : Reach) : Type 0 where
  pub room : 3 ≤ length value
  pub family : family_at value ≡ Some reach.family
  pub beyond : IsAfter reach.family (drop 3 value) reach.next_hop reach.nlri

-- MP_REACH_NLRI: of another family than the two nothing is read
abbrev pub IsReach : List ℕ → Option Reach → Type 0
IsReach value None = (3 ≤ length value) × (family_at value ≡ None)
IsReach value (Some reach) = IsReachOf value reach

-- MP_REACH_NLRI is such a value if it is present, and else nothing is reached
abbrev pub IsReached : Option (List ℕ) → Option Reach → Type 0
IsReached None reach = reach ≡ None
IsReached (Some value) reach = IsReach value reach

-- the prefixes of a reach, one after another
abbrev pub AreReached : Option Reach → List IpPrefix → Type 0
AreReached None prefixes = prefixes ≡ []
AreReached (Some reach) prefixes = Sequence (IsPrefixField reach.family) reach.nlri prefixes

-- prefixes of a family, if it is read
abbrev pub AreOf : Option Family → List ℕ → List IpPrefix → Type 0
AreOf None octets prefixes = prefixes ≡ []
AreOf (Some family) octets prefixes = Sequence (IsPrefixField family) octets prefixes

-- MP_UNREACH_NLRI (RFC 4760 section 4): AFI, SAFI, and withdrawn prefixes
abbrev pub AreUnreached : Option (List ℕ) → List IpPrefix → Type 0
AreUnreached None prefixes = prefixes ≡ []
AreUnreached (Some value) prefixes = (3 ≤ length value) × AreOf (family_at value) (drop 3 value) prefixes

-- the short form that RIB entries have (RFC 6396 section 4.3.4): the size of the next hop, and the next hop
abbrev pub IsShort : List ℕ → NextHop → Type 0
IsShort value hop = (octets : List ℕ) × (value ≡ length octets ∷ octets) × IsHop octets hop

-- the next hop of a reach
abbrev pub hop_of : Option Reach → Option NextHop
hop_of None = None
hop_of (Some reach) = Some reach.next_hop

-- MP_REACH_NLRI in a RIB entry: the form of messages if the first octet is zero, else the short one
abbrev pub IsEntryHop : List ℕ → Option NextHop → Type 0
IsEntryHop [] hop = ⊥
IsEntryHop (first ∷ rest) hop =
    ((first ≡ 0) × (reach : Option Reach) × IsReach (first ∷ rest) reach × (hop ≡ hop_of reach))
    ⊎ ((first ≢ 0) × (short : NextHop) × IsShort (first ∷ rest) short × (hop ≡ Some short))

-- the next hop that MP_REACH_NLRI gives a RIB entry, none if it gives none
abbrev pub IsEntryReach : Option (List ℕ) → Option NextHop → Type 0
IsEntryReach None hop = hop ≡ None
IsEntryReach (Some value) hop = IsEntryHop value hop
