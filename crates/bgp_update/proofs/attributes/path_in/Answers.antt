use Rattle.std.proofs.Common.{ℕ, List, Option, subst}
use Rattle.std.proofs.lemmas.Result.{err_from_is_err_and}
use Rattle.route_model.specs.Widths.{width_of}
use Rattle.route_model.specs.Reading.{NoReading}
use Rattle.bgp_update.specs.Paths.{IsPath}
use Rattle.bgp_update.specs.Joining.{IsLaid}
use Rattle.bgp_update.proofs.Laid.{no_path, whole_path, path_none_empty}
use Rattle.bgp_update.proofs.attributes.path_in.Goals as goal

pub returns-in_err-own : goal.returns-in_err-own
returns-in_err-own c =
    let p = err_from_is_err_and c.from_residual.result c.from_residual.ensures.1 in
    let none = subst (λ (t : List ℕ). NoReading (IsPath (width_of c.args.width) t) c.in_err-own.field-0.0) c.as_slice.ensures.octets c.in_err-own.ensures.path in
    rw (p.1, p.2) (no_path c.in_err-own.field-0.0 c.args.width c.args.list.now c.args.aggregator.now c.in-Some.value c.in-Some.ensures none)

pub lay-requires-clause-none_empty : goal.lay-requires-clause-none_empty
lay-requires-clause-none_empty c = path_none_empty (width_of c.args.width) c.as_slice.result.now c.in_ok-own.own.items c.in_ok-own.ensures.path

pub returns : goal.returns
returns c =
    let own = subst (λ (t : List ℕ). IsPath (width_of c.args.width) t c.in_ok-own.own.items) c.as_slice.ensures.octets c.in_ok-own.ensures.path in
    let laid = subst (λ (t : Option (List ℕ)). IsLaid t c.in_ok-own.own.items c.in_ok-path.path.items) c.as4_path_in-longer.ensures c.in_ok-path.ensures.laid in
    rw c.new.ensures.path
    (whole_path c.args.width c.args.list.now c.args.aggregator.now c.in-Some.value c.in_ok-own.own.items c.in_ok-path.path.items c.in-Some.ensures own laid)
