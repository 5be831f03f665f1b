-- Each value's unique encoding in octets.
use Rattle.std.specs.Prelude.{◌≡◌, ℕ, ◌+◌, ◌*◌, ◌<◌, ◌^◌, Bool, true, ◌&&◌, nat_lt, List, [], ◌∷◌, ◌++◌, length, Option, Some, None, is_some, if◌then◌else◌, IfSome, IsTrue}
use Rattle.std.specs.List.{flat_map, AllByRecursion}
use Rattle.std.specs.Int.{w16, w32, to_be_bytes}
use Rattle.route_model.specs.Octets.{AreOctets, Encodes}
use Rattle.route_model.specs.Address.{octets, family, wide, IsAddress}
use Rattle.route_model.specs.declared.peer.Peer.{Peer}
use Rattle.route_model.specs.declared.route.Origin.{Origin}
use Rattle.route_model.specs.declared.route.Origin.TheVariants.{Igp, Egp, Incomplete}
use Rattle.route_model.specs.declared.path.Segment.{Segment}
use Rattle.route_model.specs.declared.path.Segment.TheVariants as segments
use Rattle.route_model.specs.declared.route.NextHop.{NextHop}
use Rattle.route_model.specs.declared.route.NextHop.TheVariants.{One, Pair}
use Rattle.route_model.specs.declared.route.Aggregator.{Aggregator}
use Rattle.route_model.specs.declared.attribute.Attribute.{Attribute}
use Rattle.route_model.specs.declared.route.Route.{Route}

-- ---- peers

-- each part of a peer is in its range
pub record IsPeer (p : Peer) : Type 0 where
  pub collector : p.collector < 256
  pub address : IsAddress p.address
  pub as_number : p.as_number < 2 ^ 32

-- a peer in octets: collector, family, address, AS number
abbrev pub peer_octets : Peer → List ℕ
peer_octets p = p.collector ∷ family p.address ∷ wide p.address ++ to_be_bytes w32 p.as_number

-- the octets are the unique encoding of the peer
abbrev pub EncodesPeer : Peer → List ℕ → Type 0
EncodesPeer = Encodes IsPeer peer_octets

-- ---- routes

-- ORIGIN in one octet: 0 IGP, 1 EGP, 2 INCOMPLETE
abbrev pub origin_octet : Origin → ℕ
origin_octet Igp = 0
origin_octet Egp = 1
origin_octet Incomplete = 2

-- a count of one octet, and the numbers
abbrev pub numbers_octets : List ℕ → List ℕ
numbers_octets ns = length ns ∷ flat_map (to_be_bytes w32) ns

-- a segment: its type, 1 for AS_SET and 2 for AS_SEQUENCE, and its numbers
abbrev pub segment : Segment → List ℕ
segment (segments.Set ns) = 1 ∷ numbers_octets ns
segment (segments.Sequence ns) = 2 ∷ numbers_octets ns

-- a path: how many segments, and each in turn
abbrev pub segments_octets : List Segment → List ℕ
segments_octets path = to_be_bytes w16 (length path) ++ flat_map segment path

-- how many octets follow, and these octets
abbrev pub next_hop : NextHop → List ℕ
next_hop (One a) = length (octets a) ∷ octets a
next_hop (Pair o) = 32 ∷ o

-- 1 where it is true, else 0
abbrev pub flag : Bool → ℕ
flag b = if b then 1 else 0

-- a number in four octets if there is one, else nothing
abbrev pub optional : Option ℕ → List ℕ
optional None = []
optional (Some n) = to_be_bytes w32 n

-- an AS number and an IPv4 address where there is an AGGREGATOR, else nothing
abbrev pub aggregator : Option Aggregator → List ℕ
aggregator None = []
aggregator (Some a) = to_be_bytes w32 a.as_number ++ a.address

-- one bit for each of MED, LOCAL_PREF, ATOMIC_AGGREGATE and AGGREGATOR, from the lowest
abbrev pub presence : Route → ℕ
presence r = flag (is_some r.med) + 2 * flag (is_some r.local_pref) + 4 * flag r.atomic_aggregate + 8 * flag (is_some r.aggregator)

-- an attribute that is kept unread: type, flags, length, value
abbrev pub attribute : Attribute → List ℕ
attribute a = a.kind ∷ a.flags ∷ to_be_bytes w16 (length a.value) ++ a.value

-- how many attributes, and each in turn
abbrev pub attributes_octets : List Attribute → List ℕ
attributes_octets others = to_be_bytes w16 (length others) ++ flat_map attribute others

-- each attribute's type is below the next one's
abbrev pub is_ascending : List Attribute → Bool
is_ascending [] = true
is_ascending (a ∷ []) = true
is_ascending (a ∷ b ∷ others) = nat_lt a.kind b.kind && is_ascending (b ∷ others)

-- a route in octets: origin, path, next hop, what is present, what is present of it, other attributes
unfoldable pub route_octets : Route → List ℕ
route_octets r = origin_octet r.origin ∷ segments_octets r.path ++ next_hop r.next_hop ++ presence r ∷ optional r.med ++ optional r.local_pref ++ aggregator r.aggregator ++ attributes_octets r.others

-- ---- what a value of the type Route is

-- 1 to 255 AS numbers of four octets
abbrev pub AreNumbers : List ℕ → Type 0
AreNumbers ns = (0 < length ns) × (length ns < 256) × AllByRecursion (λ n. n < 2 ^ 32) ns

-- a set or a sequence of such numbers
abbrev pub IsSegment : Segment → Type 0
IsSegment (segments.Set ns) = AreNumbers ns
IsSegment (segments.Sequence ns) = AreNumbers ns

-- one address, or 32 octets
abbrev pub IsNextHop : NextHop → Type 0
IsNextHop (One a) = IsAddress a
IsNextHop (Pair o) = (length o ≡ 32) × AreOctets o

-- a type and flags of one octet, and at most 65,535 octets of value
pub record IsAttribute (a : Attribute) : Type 0 where
  pub kind : a.kind < 256
  pub flags : a.flags < 256
  pub size : length a.value < 2 ^ 16
  pub octets : AreOctets a.value

-- an AS number of four octets, and the four octets of an address
pub record IsAggregator (a : Aggregator) : Type 0 where
  pub as_number : a.as_number < 2 ^ 32
  pub address : length a.address ≡ 4
  pub octets : AreOctets a.address

-- each part of a route is in its range
pub record IsRoute (r : Route) : Type 0 where
  pub path : length r.path < 2 ^ 16
  pub segments : AllByRecursion IsSegment r.path
  pub next_hop : IsNextHop r.next_hop
  pub med : IfSome r.med (λ n. n < 2 ^ 32)
  pub local_pref : IfSome r.local_pref (λ n. n < 2 ^ 32)
  pub aggregator : IfSome r.aggregator IsAggregator
  pub others : length r.others < 2 ^ 16
  pub attributes : AllByRecursion IsAttribute r.others
  pub ascending : IsTrue (is_ascending r.others)

-- the octets are the unique encoding of the route
abbrev pub EncodesRoute : Route → List ℕ → Type 0
EncodesRoute = Encodes IsRoute route_octets
