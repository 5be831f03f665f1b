use Rattle.std.proofs.Common.{◌∙◌, ap, subst, Err}
use Rattle.std.proofs.lemmas.Result.{err_from_is_err_and}
use Rattle.route_model.specs.declared.wire.Family.{Family}
use Rattle.bgp_update.specs.Entries.{GivesRoute}
use Rattle.resolve.specs.Entries.{family_of}
use Rattle.resolve.proofs.Reading.{unread, not_given}
use Rattle.resolve.proofs.entries.route_of.Goals as goal

pub returns-in_err-attributes : goal.returns-in_err-attributes
returns-in_err-attributes c =
    let p = err_from_is_err_and c.from_residual.result c.from_residual.ensures.1 in
    rw (p.1, p.2) (unread c.args.rule (family_of c.args.prefix.now.address) c.args.attributes.now c.in_err-attributes.field-0.0 c.in_err-attributes.ensures.attributes)

pub returns-in_err-route : goal.returns-in_err-route
returns-in_err-route c =
    let p = err_from_is_err_and c.from_residual-in_err-route.result c.from_residual-in_err-route.ensures.1 in
    let family = c.family_of.ensures ∙ ap family_of c.address.ensures.address in
    let gives = subst (λ (f : Family). GivesRoute f c.in_ok-attributes.attributes (Err c.in_err-route.field-0.0)) family c.in_err-route.ensures.route in
    rw (p.1, p.2)
    (not_given c.args.rule (family_of c.args.prefix.now.address) c.args.attributes.now c.in_ok-attributes.attributes c.in_err-route.field-0.0 c.in_ok-attributes.ensures.attributes
    (λ left. let yes = c.is_left_out.ensures.1 left in let no = c.if-is_left_out.false in absurd cc) gives)
