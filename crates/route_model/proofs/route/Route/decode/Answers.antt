use Rattle.std.proofs.Common.{◌≡◌, sym, ap, ◌∙◌}
use Rattle.std.proofs.lemmas.Slice.Eq.{bytes_eq-Decides}
use Rattle.route_model.specs.Encoding.{route_octets}
use Rattle.route_model.specs.inner.Codec.{whole, route_at}
use Rattle.route_model.proofs.Fields.{some_is}
use Rattle.route_model.proofs.Decoding.{route_encoded}
use Rattle.route_model.proofs.Whole.{none_some}
use Rattle.route_model.proofs.route.Route.decode.Goals as goal

pub returns-in-Err-Unencoded-clause-only : goal.returns-in-Err-Unencoded-clause-only
returns-in-Err-Unencoded-clause-only c = λ r is.
    absurd (none_some (whole (route_at c.args.octets.now)) r (rw c.in-Err-Unencoded.field-0-is at c.in-Err-Unencoded.ensures) (route_encoded r c.args.octets.now is))

pub returns-then-eq-clause-only : goal.returns-then-eq-clause-only
returns-then-eq-clause-only c = λ r is. sym c.in-Ok.ensures ∙ route_encoded r c.args.octets.now is

pub returns-else-eq-clause-only : goal.returns-else-eq-clause-only
returns-else-eq-clause-only c = λ r is.
    let one : c.in-Ok.route ≡ r = some_is c.in-Ok.route r (sym c.in-Ok.ensures ∙ route_encoded r c.args.octets.now is) in
    let same : c.as_slice.result.now ≡ c.args.octets.now = c.as_slice.ensures.value ∙ c.in_ok-encoding.ensures.encoding.encoded ∙ ap route_octets one ∙ sym is.encoded in
    let yes = (bytes_eq-Decides c.as_slice.result.now c.args.octets.now).1 same in
    absurd (cc (yes, c.eq.ensures, c.if-eq.false))
