use Rattle.std.proofs.Common.{Option, List, subst}
use Rattle.std.proofs.lemmas.Result.{err_from_is_err_and}
use Rattle.route_model.specs.declared.path.Segment.{Segment}
use Rattle.route_model.specs.declared.route.Aggregator.{Aggregator}
use Rattle.bgp_update.specs.AttributeFields.{value_of}
use Rattle.bgp_update.specs.Values.{IsAggregator}
use Rattle.bgp_update.specs.Readings.{IsWholePath, IsReading}
use Rattle.bgp_update.proofs.Optional.{none_of_part, optional_one}
use Rattle.bgp_update.proofs.api.OneReading.{aggregator_one}
use Rattle.bgp_update.proofs.attributes.reading_of.Goals as goal

pub returns-in_err-path : goal.returns-in_err-path
returns-in_err-path c =
    let p = err_from_is_err_and c.from_residual-in_err-path.result c.from_residual-in_err-path.ensures.1 in
    let list = c.args.list.now in
    rw (p.1, p.2)
    (none_of_part (λ (o : Option (List Segment)). IsWholePath c.args.width list c.in_ok-own.own o) (IsReading c.args.width list)
    (λ r q. (
      r.path,
      subst (λ (a : Option Aggregator). IsWholePath c.args.width list a r.path)
          (optional_one IsAggregator aggregator_one (value_of 7 list) q.aggregator c.in_ok-own.own q.is_aggregator c.in_ok-own.ensures) q.path,
    ))
    c.in_err-path.field-0.0 c.in_err-path.ensures)
