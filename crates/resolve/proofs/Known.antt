-- The route of the entry before, where the next one has the same attributes.
use Rattle.std.proofs.Common.{◌≡◌, ℕ, List, Option, Some, None, Ok, refl, sym, subst}
use Rattle.std.specs.List.{slice_get}
use Rattle.route_model.specs.Prefix.{IpPrefix}
use Rattle.route_model.specs.declared.route.Route.{Route}
use Rattle.route_model.specs.declared.wire.Family.{Family}
use Rattle.route_model.specs.declared.change.Change.TheVariants as changes
use Rattle.mrt_records.specs.Entries.{Entry}
use Rattle.mrt_records.specs.declared.neighbor.Neighbor.{Neighbor}
use Rattle.resolve.specs.Changes.{peer_of_neighbor}
use Rattle.resolve.specs.Entries.{RouteRead, IsChangeOf, IsKnown, Gave, family_of}
use Rattle.resolve.specs.declared.entries.KnownRoute.{KnownRoute}
use Rattle.resolve.specs.declared.without_hop.WithoutHop.{WithoutHop}

-- the known route is that of the attributes that gave it
known_gives : (rule : WithoutHop) (family : Family) (known : Option KnownRoute) (octets : List ℕ) (route : Route) → IsKnown rule family known → Gave known octets route → RouteRead rule family octets (Ok (Some route))
known_gives rule family None octets route is gave = absurd gave
known_gives rule family (Some known) octets route is gave =
    subst (λ (t : List ℕ). RouteRead rule family t (Ok (Some route))) gave.0
    (subst (λ (r : Route). RouteRead rule family known.attributes.now (Ok (Some r))) (sym gave.1) is)

-- an entry that has the known attributes announces the known route
pub known_change : (rule : WithoutHop) (c : ℕ) (peers : List Neighbor) (prefix : IpPrefix) (entry : Entry) (neighbor : Neighbor) (known : Option KnownRoute) (route : Route)
    → slice_get peers entry.peer_index ≡ Some neighbor → IsKnown rule (family_of prefix.address) known → Gave known entry.attributes route
    → IsChangeOf c peers prefix entry (changes.Announce (peer_of_neighbor c neighbor) prefix route)
known_change rule c peers prefix entry neighbor known route named is gave =
    let r = known_gives rule (family_of prefix.address) known entry.attributes route is gave in
    record { neighbor = neighbor; route = route; named = named; gives = (r.0, r.1, r.2); fits = r.3; announces = refl }
