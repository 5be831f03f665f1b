-- Reading from left to right: a value and the octets after it, or none. It may accept more than valid encodings.
use Rattle.std.specs.Prelude.{◌≡◌, ℕ, zero, suc, Bool, true, false, ◌&&◌, List, [], ◌∷◌, ◌++◌, length, take, drop, replicate, Option, Some, None, Result, Ok, Err, nat_lt, ◌==◌, if◌then◌else◌, bit_and}
use Rattle.std.specs.Int.{Width, w16, w32, w64, byte_len, from_be_bytes}
use Rattle.std.specs.Str.{bytes_eq}
use Rattle.route_model.specs.declared.address.Address.{Address}
use Rattle.route_model.specs.declared.address.Address.TheVariants.{V4, V6}
use Rattle.route_model.specs.declared.fault.ReadError.{ReadError}
use Rattle.route_model.specs.declared.fault.NoEncoding.{NoEncoding}
use Rattle.route_model.specs.declared.fault.ReadError.TheVariants as errors
use Rattle.route_model.specs.declared.peer.Peer.{Peer}
use Rattle.route_model.specs.declared.route.Origin.{Origin}
use Rattle.route_model.specs.declared.route.Origin.TheVariants.{Igp, Egp, Incomplete}
use Rattle.route_model.specs.declared.path.Segment.{Segment}
use Rattle.route_model.specs.declared.path.Segment.TheVariants as segments
use Rattle.route_model.specs.declared.route.NextHop.{NextHop}
use Rattle.route_model.specs.declared.route.NextHop.TheVariants.{One, Pair}
use Rattle.route_model.specs.declared.route.Aggregator.{Aggregator}
use Rattle.route_model.specs.declared.attribute.Attribute.{Attribute}
use Rattle.route_model.specs.declared.route.Route.{Route}
use Rattle.route_model.specs.Encoding.{is_ascending}
pub mod Admissions

infixl 10 ◌>>=◌
abbrev pub ◌>>=◌ : {A B : Type 0} → Option A → (A → Option B) → Option B
None >>= f = None
(Some x) >>= f = f x

-- What a function returned, seen by view, is what reading gives, unless memory ran out.
abbrev pub Fails : {Y : Type 0} → ReadError → Option Y → Type 0
Fails errors.Memory read = Unit {0}
Fails errors.Unencoded read = read ≡ None

abbrev pub Gives : {X Y : Type 0} → (X → Y) → Result X ReadError → Option Y → Type 0
Gives view (Ok x) read = read ≡ Some (view x)
Gives view (Err e) read = Fails e read

-- The same of a function that takes no memory.
abbrev pub Reads : {X Y : Type 0} → (X → Y) → Result X NoEncoding → Option Y → Type 0
Reads view (Ok x) read = read ≡ Some (view x)
Reads view (Err e) read = read ≡ None

abbrev pub octet_at : List ℕ → Option (ℕ × List ℕ)
octet_at [] = None
octet_at (b ∷ bytes) = Some (b, bytes)

abbrev pub octets_at : ℕ → List ℕ → Option (List ℕ × List ℕ)
octets_at n bytes = if nat_lt (length bytes) n then None else Some (take n bytes, drop n bytes)

abbrev pub number_at : Width → List ℕ → Option (ℕ × List ℕ)
number_at w bytes = if nat_lt (length bytes) (byte_len w) then None else Some (from_be_bytes w (take (byte_len w) bytes), drop (byte_len w) bytes)

-- as many as are counted, one after another
unfoldable pub repeat : {A : Type 0} → (List ℕ → Option (A × List ℕ)) → ℕ → List ℕ → Option (List A × List ℕ)
repeat read zero bytes = Some ([], bytes)
repeat read (suc n) bytes = do
  first ← read bytes
  others ← repeat read n first.1
  Some (first.0 ∷ others.0, others.1)

-- ---- peers

abbrev pub wide_address : ℕ → List ℕ → Option Address
wide_address family o = if family == 4 then (if bytes_eq (drop 4 o) (replicate 12 0) then Some (V4 (take 4 o)) else None) else if family == 6 then Some (V6 o) else None

unfoldable pub peer_at : List ℕ → Option (Peer × List ℕ)
peer_at bytes = do
  collector ← octet_at bytes
  family ← octet_at collector.1
  wide ← octets_at 16 family.1
  address ← wide_address family.0 wide.0
  as_number ← number_at w32 wide.1
  Some (record { collector = collector.0; address = address; as_number = as_number.0 }, as_number.1)

-- ---- routes

abbrev pub origin_of : ℕ → Option Origin
origin_of zero = Some Igp
origin_of (suc zero) = Some Egp
origin_of (suc (suc zero)) = Some Incomplete
origin_of (suc (suc (suc n))) = None

abbrev pub segment_of : ℕ → List ℕ → Option Segment
segment_of kind ns = if kind == 1 then Some (segments.Set ns) else if kind == 2 then Some (segments.Sequence ns) else None

unfoldable pub segment_at : List ℕ → Option (Segment × List ℕ)
segment_at bytes = do
  kind ← octet_at bytes
  count ← octet_at kind.1
  if count.0 == 0 then None else do
    numbers ← repeat (number_at w32) count.0 count.1
    segment ← segment_of kind.0 numbers.0
    Some (segment, numbers.1)

unfoldable pub path_at : List ℕ → Option (List Segment × List ℕ)
path_at bytes = do
  count ← number_at w16 bytes
  repeat segment_at count.0 count.1

abbrev pub next_hop_of : List ℕ → Option NextHop
next_hop_of o = if length o == 4 then Some (One (V4 o)) else if length o == 16 then Some (One (V6 o)) else if length o == 32 then Some (Pair o) else None

unfoldable pub next_hop_at : List ℕ → Option (NextHop × List ℕ)
next_hop_at bytes = do
  len ← octet_at bytes
  octets ← octets_at len.0 len.1
  hop ← next_hop_of octets.0
  Some (hop, octets.1)

unfoldable pub optional_at : Bool → List ℕ → Option (Option ℕ × List ℕ)
optional_at false bytes = Some (None, bytes)
optional_at true bytes = do
  n ← number_at w32 bytes
  Some (Some n.0, n.1)

unfoldable pub aggregator_at : Bool → List ℕ → Option (Option Aggregator × List ℕ)
aggregator_at false bytes = Some (None, bytes)
aggregator_at true bytes = do
  n ← number_at w32 bytes
  address ← octets_at 4 n.1
  Some (Some (record { as_number = n.0; address = address.0 }), address.1)

unfoldable pub attribute_at : List ℕ → Option (Attribute × List ℕ)
attribute_at bytes = do
  kind ← octet_at bytes
  flags ← octet_at kind.1
  len ← number_at w16 flags.1
  value ← octets_at len.0 len.1
  Some (record { kind = kind.0; flags = flags.0; value = value.0 }, value.1)

unfoldable pub attributes_at : List ℕ → Option (List Attribute × List ℕ)
attributes_at bytes = do
  count ← number_at w16 bytes
  others ← repeat attribute_at count.0 count.1
  if is_ascending others.0 then Some others else None

abbrev pub has : ℕ → ℕ → Bool
has octet bit = if bit_and octet bit == 0 then false else true

unfoldable pub route_at : List ℕ → Option (Route × List ℕ)
route_at bytes = do
  first ← octet_at bytes
  origin ← origin_of first.0
  path ← path_at first.1
  hop ← next_hop_at path.1
  present ← octet_at hop.1
  med ← optional_at (has present.0 1) present.1
  pref ← optional_at (has present.0 2) med.1
  aggregator ← aggregator_at (has present.0 8) pref.1
  others ← attributes_at aggregator.1
  Some (record { origin = origin; path = path.0; next_hop = hop.0; med = med.0; local_pref = pref.0; atomic_aggregate = has present.0 4; aggregator = aggregator.0; others = others.0 }, others.1)

-- a reading of all of the octets
abbrev pub whole : {A : Type 0} → Option (A × List ℕ) → Option A
whole None = None
whole (Some x) = if length x.1 == 0 then Some x.0 else None
