-- The text of a route: what a row shows of it.
use Rattle.std.specs.Prelude.{ℕ, ◌/◌, ◌%◌, Bool, Option, Some, None, List, [], ◌∷◌, ◌++◌, map, take, drop, codes, decimal, if◌then◌else◌}
use Rattle.std.specs.List.{flat_map, join_with_byte}
use Rattle.std.specs.Char.{digit_char}
use Rattle.std.specs.Net.Text.{ipv4_text}
use Rattle.route_model.specs.declared.route.Origin.{Origin}
use Rattle.route_model.specs.declared.route.Origin.TheVariants.{Igp, Egp, Incomplete}
use Rattle.route_model.specs.declared.path.Segment.{Segment}
use Rattle.route_model.specs.declared.path.Segment.TheVariants as segments
use Rattle.route_model.specs.declared.route.NextHop.{NextHop}
use Rattle.route_model.specs.declared.route.NextHop.TheVariants.{One, Pair}
use Rattle.route_model.specs.declared.route.Aggregator.{Aggregator}
use Rattle.route_model.specs.declared.attribute.Attribute.{Attribute}
use Rattle.route_model.specs.declared.route.Route.{Route}
use Rattle.route_text.specs.AddressText.{address_text, ipv6_text}

-- numbers with one octet between two of them
abbrev pub numbers_text : ℕ → List ℕ → List ℕ
numbers_text separator numbers = join_with_byte separator (map decimal numbers)

-- the numbers of a sequence with spaces between them, those of a set in braces with commas
abbrev pub segment_text : Segment → List ℕ
segment_text (segments.Set numbers) = codes "{" ++ numbers_text 44 numbers ++ codes "}"
segment_text (segments.Sequence numbers) = numbers_text 32 numbers

-- the segments with spaces between them, or a dash if there is none
abbrev pub path_text : List Segment → List ℕ
path_text [] = codes "-"
path_text (s ∷ path) = join_with_byte 32 (map segment_text (s ∷ path))

-- the origin by its name
abbrev pub origin_text : Origin → List ℕ
origin_text Igp = codes "IGP"
origin_text Egp = codes "EGP"
origin_text Incomplete = codes "INCOMPLETE"

-- an address, or two with a space between them
abbrev pub next_hop_text : NextHop → List ℕ
next_hop_text (One address) = address_text address
next_hop_text (Pair octets) = ipv6_text (take 16 octets) ++ codes " " ++ ipv6_text (drop 16 octets)

-- a number, or nothing
abbrev pub optional_text : Option ℕ → List ℕ
optional_text None = []
optional_text (Some number) = decimal number

-- whether the route is an atomic aggregate
abbrev pub aggregate_text : Bool → List ℕ
aggregate_text is_atomic = if is_atomic then codes "AG" else codes "NAG"

-- the AS number and the address of the aggregating router, or nothing
abbrev pub aggregator_text : Option Aggregator → List ℕ
aggregator_text None = []
aggregator_text (Some a) = decimal a.as_number ++ codes " " ++ ipv4_text a.address

-- an octet as two lower case hexadecimal digits
abbrev pub octet_text : ℕ → List ℕ
octet_text octet = digit_char (octet / 16) ∷ digit_char (octet % 16) ∷ []

-- the type in decimal, the flags and the value in hexadecimal
abbrev pub attribute_text : Attribute → List ℕ
attribute_text a = decimal a.kind ++ codes "/" ++ octet_text a.flags ++ codes "/" ++ flat_map octet_text a.value

-- attributes with spaces between them
abbrev pub attributes_text : List Attribute → List ℕ
attributes_text others = join_with_byte 32 (map attribute_text others)

-- how the route came and where it leads: path, origin and next hop
abbrev pub way_text : Route → List ℕ
way_text r = path_text r.path ++ codes "|" ++ origin_text r.origin ++ codes "|" ++ next_hop_text r.next_hop

-- MED, LOCAL_PREF and ATOMIC_AGGREGATE
abbrev pub preferences_text : Route → List ℕ
preferences_text r =
    optional_text r.med ++ codes "|" ++ optional_text r.local_pref ++ codes "|" ++ aggregate_text r.atomic_aggregate

-- the aggregator and the other attributes
abbrev pub additions_text : Route → List ℕ
additions_text r = aggregator_text r.aggregator ++ codes "|" ++ attributes_text r.others

-- the eight fields of a route, with bars between them
abbrev pub route_text : Route → List ℕ
route_text r = way_text r ++ codes "|" ++ preferences_text r ++ codes "|" ++ additions_text r
