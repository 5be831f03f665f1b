-- The eight texts of a route's fields. No public contract cites these.
use Rattle.std.specs.Prelude.{◌≡◌, ℕ, List}
use Rattle.route_model.specs.declared.route.Route.{Route}
use Rattle.route_text.specs.RouteText.{path_text, origin_text, next_hop_text, optional_text, aggregate_text, aggregator_text, attributes_text}

-- each is the text of its field
pub record AreFieldsOf (r : Route) (path origin next_hop med local_pref aggregate aggregator others : List ℕ) : Type 0 where
  pub path_is : path ≡ path_text r.path
  pub origin_is : origin ≡ origin_text r.origin
  pub next_hop_is : next_hop ≡ next_hop_text r.next_hop
  pub med_is : med ≡ optional_text r.med
  pub local_pref_is : local_pref ≡ optional_text r.local_pref
  pub aggregate_is : aggregate ≡ aggregate_text r.atomic_aggregate
  pub aggregator_is : aggregator ≡ aggregator_text r.aggregator
  pub others_is : others ≡ attributes_text r.others
