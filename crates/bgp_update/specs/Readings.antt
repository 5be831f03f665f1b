-- What a list of attributes represents, at a width of AS numbers.
use Rattle.std.specs.Prelude.{◌≡◌, ℕ, List, Option}
use Rattle.route_model.specs.declared.path.Segment.{Segment}
use Rattle.route_model.specs.declared.route.Aggregator.{Aggregator}
use Rattle.route_model.specs.declared.wire.AsWidth.{AsWidth}
use Rattle.route_model.specs.Widths.{width_of}
use Rattle.bgp_update.specs.declared.attribute.PathAttribute.{PathAttribute}
use Rattle.bgp_update.specs.declared.reading.PathAttributes.{PathAttributes}
use Rattle.bgp_update.specs.AttributeFields.{AreListed, value_of}
use Rattle.bgp_update.specs.Paths.{IsPath}
use Rattle.bgp_update.specs.Joining.{IsLaid}
use Rattle.bgp_update.specs.Values.{Optionally, IsOrigin, IsNumber, IsFour, IsFlag, IsAggregator, as4_aggregator, as4_path, counted_aggregator, others_of}

-- the path of AS_PATH, with AS4_PATH laid over it unless that is ignored
pub record IsWholePath (width : AsWidth) (list : List PathAttribute) (aggregator : Option Aggregator) (path : Option (List Segment)) : Type 0 where
  pub own : Option (List Segment)
  pub is_own : Optionally (IsPath (width_of width)) (value_of 2 list) own
  pub laid : Optionally (IsLaid (as4_path width list aggregator)) own path

-- each attribute that is present has a value of its type, and each that isn't is none
pub record IsReading (width : AsWidth) (list : List PathAttribute) (r : PathAttributes) : Type 0 where
  pub origin : Optionally IsOrigin (value_of 1 list) r.origin
  pub aggregator : Option Aggregator
  pub is_aggregator : Optionally IsAggregator (value_of 7 list) aggregator
  pub path : IsWholePath width list aggregator r.path
  pub next_hop : Optionally IsFour (value_of 3 list) r.next_hop
  pub med : Optionally IsNumber (value_of 4 list) r.med
  pub local_pref : Optionally IsNumber (value_of 5 list) r.local_pref
  pub atomic : IsFlag (value_of 6 list) r.atomic_aggregate
  pub whole_aggregator : r.aggregator ≡ counted_aggregator aggregator (as4_aggregator width list)
  pub reach : r.reach ≡ value_of 14 list
  pub unreach : r.unreach ≡ value_of 15 list
  pub others : r.others ≡ others_of list

-- all of the octets are a list of attributes that represents this
pub record AreAttributes (width : AsWidth) (bytes : List ℕ) (r : PathAttributes) : Type 0 where
  pub list : List PathAttribute
  pub listed : AreListed bytes list
  pub reads : IsReading width list r
