use Rattle.std.proofs.Common.{◌++◌, not, sym, ap, ◌∙◌}
use Rattle.std.proofs.lemmas.Bool.{false≢true}
use Rattle.std.proofs.lemmas.Slice.Eq.{bytes_eq-Decides}
use Rattle.route_text.specs.RouteText.{route_text}
use Rattle.route_text.proofs.NormalForms.{normal_route}
use Rattle.route_text.proofs.Outcomes.{reads_ok, reads_err, passed_memory}
use Rattle.route_text.proofs.route_reading.read_route.Goals as goal

pub returns-in_err-route-clause-none : goal.returns-in_err-route-clause-none
returns-in_err-route-clause-none c bad r valid e =
    let n = normal_route r valid in
    let memory = reads_err (λ x. x) c.read_fields.result n.route _ c.in_err-route.was (c.read_fields.ensures.only n.route n.valid n.normal (e ∙ n.text)) in
    passed_memory c.from_residual.result _ c.from_residual.ensures.1 memory bad

pub returns-then-ne-clause-none : goal.returns-then-ne-clause-none
returns-then-ne-clause-none c bad r valid e =
    let n = normal_route r valid in
    let same = reads_ok (λ x. x) c.read_fields.result n.route c.in_ok-route.route c.in_ok-route.was (c.read_fields.ensures.only n.route n.valid n.normal (e ∙ n.text)) in
    let written = c.as_str.ensures.value ∙ c.in_ok-write_route.ensures.text ∙ ap (λ t. t ++ route_text c.in_ok-route.route) c.in_ok-written.ensures.bytes ∙ ap route_text same ∙ sym (e ∙ n.text) in
    false≢true (sym (c.ne.ensures ∙ ap not ((bytes_eq-Decides c.as_str.result.now c.args.text.now).1 written)) ∙ c.if-ne.true)
