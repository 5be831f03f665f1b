-- What the attributes of an entry give, and what that says of the entry.
use Rattle.std.proofs.Common.{◌<◌, ℕ, List, length, Some, Ok, Err, subst}
use Rattle.route_model.specs.Reading.{NoReading}
use Rattle.route_model.specs.Prefix.{IpPrefix}
use Rattle.route_model.specs.declared.octets.ReadFault.{ReadFault}
use Rattle.route_model.specs.declared.octets.ReadFault.TheVariants as reading
use Rattle.route_model.specs.declared.route.Route.{Route}
use Rattle.route_model.specs.declared.wire.Family.{Family}
use Rattle.route_model.specs.declared.wire.AsWidth.TheVariants as widths
use Rattle.mrt_records.specs.Entries.{Entry}
use Rattle.mrt_records.specs.declared.neighbor.Neighbor.{Neighbor}
use Rattle.bgp_update.specs.Readings.{AreAttributes}
use Rattle.bgp_update.specs.Entries.{GivesRoute, IsEntryRoute}
use Rattle.bgp_update.specs.Faults.{message_fault}
use Rattle.bgp_update.specs.declared.fault.MessageFault.{MessageFault}
use Rattle.bgp_update.specs.declared.fault.MessageFault.TheVariants as messages
use Rattle.bgp_update.specs.declared.reading.PathAttributes.{PathAttributes}
use Rattle.bgp_update.proofs.api.OneReading.{attributes_one}
use Rattle.resolve.specs.Entries.{IsWithoutHop, RouteRead, IsFaultOf, family_of}
use Rattle.resolve.specs.Faults.{of_message}
use Rattle.resolve.specs.declared.without_hop.WithoutHop.{WithoutHop}

-- octets that are no attributes give no route
pub unread : (rule : WithoutHop) (family : Family) (octets : List ℕ) (e : ReadFault) → NoReading (AreAttributes widths.Four octets) e → RouteRead rule family octets (Err (message_fault e))
unread rule family octets reading.Malformed none = (λ l. none l.0 l.1, λ a route h r. none a h)
unread rule family octets reading.OutOfMemory none = tt

-- the route of attributes is that of the octets that read so
pub given : (rule : WithoutHop) (family : Family) (octets : List ℕ) (a : PathAttributes) (route : Route) → AreAttributes widths.Four octets a → GivesRoute family a (Ok route) → RouteRead rule family octets (Ok (Some route))
given rule family octets a route h g = (a, h, g.0, g.1)

-- and so is why they give none, where their entry isn't left out
pub not_given : (rule : WithoutHop) (family : Family) (octets : List ℕ) (a : PathAttributes) (e : MessageFault) → AreAttributes widths.Four octets a → (IsWithoutHop rule a → ⊥) → GivesRoute family a (Err e) → RouteRead rule family octets (Err e)
not_given rule family octets a messages.Malformed h stays g = (
  λ l. stays (subst (λ (x : PathAttributes). IsWithoutHop rule x) (attributes_one widths.Four octets l.0 a l.1 h) l.2),
  λ b route k r. g route (subst (λ (x : PathAttributes). IsEntryRoute family x route) (attributes_one widths.Four octets b a k h) r),
)
not_given rule family octets a messages.RouteTooLarge h stays g = (a, g.0, h, g.1, g.2)
not_given rule family octets a messages.OutOfMemory h stays g = absurd g

-- an entry whose attributes give no route has that fault
pub faulty : (rule : WithoutHop) (peers : List Neighbor) (prefix : IpPrefix) (entry : Entry) (e : MessageFault) → entry.peer_index < length peers → RouteRead rule (family_of prefix.address) entry.attributes (Err e) → IsFaultOf rule peers prefix entry (of_message e)
faulty rule peers prefix entry messages.Malformed within none = (within, none.0, λ route g. none.1 g.0 route g.1 g.2)
faulty rule peers prefix entry messages.RouteTooLarge within large = (within, large.1, (large.0, large.2, large.3), large.4)
faulty rule peers prefix entry messages.OutOfMemory within h = tt
