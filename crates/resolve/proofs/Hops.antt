-- An entry without a next hop announces no route.
use Rattle.std.proofs.Common.{◌≡◌, ◌∙◌, ℕ, List, Option, Some, None, refl, sym, ap, subst}
use Rattle.route_model.specs.Prefix.{IpPrefix}
use Rattle.route_model.specs.declared.route.NextHop.{NextHop}
use Rattle.route_model.specs.declared.route.Route.{Route}
use Rattle.route_model.specs.declared.change.Change.{Change}
use Rattle.route_model.specs.declared.wire.AsWidth.TheVariants as widths
use Rattle.route_model.specs.declared.wire.Family.{Family}
use Rattle.route_model.specs.declared.wire.Family.TheVariants as families
use Rattle.mrt_records.specs.Entries.{Entry}
use Rattle.mrt_records.specs.declared.neighbor.Neighbor.{Neighbor}
use Rattle.bgp_update.specs.Entries.{IsEntryRoute}
use Rattle.bgp_update.specs.NextHops.{IsEntryReach}
use Rattle.bgp_update.specs.Routes.{four_hop, entry_hop, entry_route_of}
use Rattle.bgp_update.specs.declared.reading.PathAttributes.{PathAttributes}
use Rattle.bgp_update.proofs.api.OneReading.{attributes_one}
use Rattle.resolve.specs.Entries.{IsWithoutHop, LeavesOut, IsLeftOut, IsRouteOf, IsChangeOf, family_of}
use Rattle.resolve.specs.declared.without_hop.WithoutHop.{WithoutHop}
use Rattle.resolve.specs.declared.without_hop.WithoutHop.TheVariants as rules

none_of_none : (family : Family) (a : PathAttributes) → entry_route_of a (entry_hop family None None) ≡ None
none_of_none families.Ipv4 a = refl
none_of_none families.Ipv6 a = refl

no_route : (rule : WithoutHop) (family : Family) (a : PathAttributes) (route : Route) → IsWithoutHop rule a → IsEntryRoute family a route → ⊥
no_route rules.Refused family a route w r = w
no_route rules.LeftOut family a route w r =
    let reach : r.reach ≡ None = subst (λ (v : Option (List ℕ)). IsEntryReach v r.reach) w.1 r.is_reach in
    let gone : entry_route_of a (entry_hop family (four_hop a.next_hop) r.reach) ≡ None =
    ap (λ (n : Option (List ℕ)). entry_route_of a (entry_hop family (four_hop n) r.reach)) w.0
    ∙ ap (λ (t : Option NextHop). entry_route_of a (entry_hop family None t)) reach
    ∙ none_of_none family a in
    let both : Some route ≡ None = sym r.is_route ∙ gone in
    absurd cc

-- an entry whose attributes give a route isn't left out
pub routed_stays : (rule : WithoutHop) (prefix : IpPrefix) (entry : Entry) (route : Route) → IsRouteOf prefix entry route → LeavesOut rule entry.attributes → ⊥
routed_stays rule prefix entry route r l =
    let same = attributes_one widths.Four entry.attributes l.0 r.0 l.1 r.1 in
    no_route rule (family_of prefix.address) r.0 route (subst (λ (a : PathAttributes). IsWithoutHop rule a) same l.2) r.2

-- nor is one that announces a change
pub announced_stays : (rule : WithoutHop) (c : ℕ) (peers : List Neighbor) (prefix : IpPrefix) (entry : Entry) (change : Change) → IsChangeOf c peers prefix entry change → IsLeftOut rule peers entry → ⊥
announced_stays rule c peers prefix entry change is left = routed_stays rule prefix entry is.route is.gives left.1

-- where entries without a next hop are refused, none is left out
pub none_left_out : (peers : List Neighbor) (entry : Entry) → IsLeftOut rules.Refused peers entry → ⊥
none_left_out peers entry left = left.1.2
