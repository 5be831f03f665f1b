-- The route that attributes announce: a function of their values, and of a next hop.
use Rattle.std.specs.Prelude.{ℕ, List, [], Option, Some, None}
use Rattle.route_model.specs.declared.address.Address.TheVariants.{V4}
use Rattle.route_model.specs.declared.path.Segment.{Segment}
use Rattle.route_model.specs.declared.route.Origin.{Origin}
use Rattle.route_model.specs.declared.route.Origin.TheVariants.{Incomplete}
use Rattle.route_model.specs.declared.route.NextHop.{NextHop}
use Rattle.route_model.specs.declared.route.NextHop.TheVariants.{One}
use Rattle.route_model.specs.declared.route.Route.{Route}
use Rattle.route_model.specs.declared.wire.Family.{Family}
use Rattle.route_model.specs.declared.wire.Family.TheVariants as families
use Rattle.bgp_update.specs.declared.reading.PathAttributes.{PathAttributes}

-- a route with these parts, and the rest of the attributes
abbrev pub made : PathAttributes → Origin → List Segment → NextHop → Route
made a origin path hop = record {
  origin = origin;
  path = path;
  next_hop = hop;
  med = a.med;
  local_pref = a.local_pref;
  atomic_aggregate = a.atomic_aggregate;
  aggregator = a.aggregator;
  others = a.others;
}

-- a route needs ORIGIN, AS_PATH and a next hop
abbrev pub from_parts : PathAttributes → Option Origin → Option (List Segment) → Option NextHop → Option Route
from_parts a None path hop = None
from_parts a (Some origin) None hop = None
from_parts a (Some origin) (Some path) None = None
from_parts a (Some origin) (Some path) (Some hop) = Some (made a origin path hop)

-- the route of these attributes with this next hop: none if ORIGIN, AS_PATH or the next hop is missing
abbrev pub route_of : PathAttributes → Option NextHop → Option Route
route_of a hop = from_parts a a.origin a.path hop

-- the next hop of NEXT_HOP
abbrev pub four_hop : Option (List ℕ) → Option NextHop
four_hop None = None
four_hop (Some octets) = Some (One (V4 octets))

-- the first, or the second if the first isn't there
abbrev pub first_of : {A : Type 0} → Option A → Option A → Option A
first_of None second = second
first_of (Some x) second = Some x

-- in a RIB entry of IPv4 NEXT_HOP goes first, in one of IPv6 the next hop of MP_REACH_NLRI
abbrev pub entry_hop : Family → Option NextHop → Option NextHop → Option NextHop
entry_hop families.Ipv4 next_hop reach = first_of next_hop reach
entry_hop families.Ipv6 next_hop reach = first_of reach next_hop

-- the value, or another if there is none
abbrev pub or_else : {A : Type 0} → Option A → A → A
or_else None other = other
or_else (Some x) other = x

-- in a RIB entry a missing ORIGIN counts as INCOMPLETE, and a missing AS_PATH as the empty path
abbrev pub entry_route_of : PathAttributes → Option NextHop → Option Route
entry_route_of a hop = from_parts a (Some (or_else a.origin Incomplete)) (Some (or_else a.path [])) hop
