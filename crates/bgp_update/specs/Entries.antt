-- The routes of RIB entries (RFC 6396 section 4.3.4).
use Rattle.std.specs.Prelude.{◌≡◌, ◌<◌, ◌≤◌, length, Option, Some, Result, Ok, Err}
use Rattle.route_model.specs.Encoding.{route_octets}
use Rattle.route_model.specs.declared.route.NextHop.{NextHop}
use Rattle.route_model.specs.declared.route.Route.{Route}
use Rattle.route_model.specs.declared.wire.Family.{Family}
use Rattle.bgp_update.specs.declared.reading.PathAttributes.{PathAttributes}
use Rattle.bgp_update.specs.declared.fault.MessageFault.{MessageFault}
use Rattle.bgp_update.specs.declared.fault.MessageFault.TheVariants as faults
use Rattle.bgp_update.specs.NextHops.{IsEntryReach}
use Rattle.bgp_update.specs.Routes.{four_hop, entry_hop, entry_route_of}

-- the route of an entry of the family with these attributes
pub record IsEntryRoute (family : Family) (a : PathAttributes) (route : Route) : Type 0 where
  pub reach : Option NextHop
  pub is_reach : IsEntryReach a.reach reach
  pub is_route : entry_route_of a (entry_hop family (four_hop a.next_hop) reach) ≡ Some route

-- the route if it fits an admission, or why there is none; no memory is needed
abbrev pub GivesRoute : Family → PathAttributes → Result Route MessageFault → Type 0
GivesRoute family a (Ok route) = IsEntryRoute family a route × (length (route_octets route) ≤ 3072)
GivesRoute family a (Err faults.Malformed) = (route : Route) → IsEntryRoute family a route → ⊥
GivesRoute family a (Err faults.RouteTooLarge) = (route : Route) × IsEntryRoute family a route × (3072 < length (route_octets route))
GivesRoute family a (Err faults.OutOfMemory) = ⊥
