use Rattle.std.proofs.Common.{◌≡◌, sym, ap, ◌∙◌, eq-eqb}
use Rattle.route_model.specs.Keys.{key_of}
use Rattle.route_model.specs.inner.Codec.Admissions.{parts_at}
use Rattle.route_model.proofs.Fields.{some_is}
use Rattle.route_model.proofs.api.Keys.{key_octets_are, parts_again}
use Rattle.route_model.proofs.Whole.{none_some}
use Rattle.route_model.proofs.key.Key.parts.Goals as goal

pub returns-in_default-clause-only : goal.returns-in_default-clause-only
returns-in_default-clause-only c = λ parts is e.
    let octets = key_octets_are c.to_octets-octets.result parts c.to_octets-octets.ensures.size c.to_octets-octets.ensures.each is (c.to_octets-octets.ensures.number ∙ e) in
    absurd (none_some (parts_at c.to_octets-octets.result) parts c.in_default.ensures (ap parts_at octets ∙ parts_again parts is))

pub returns-then-eq-clause-only : goal.returns-then-eq-clause-only
returns-then-eq-clause-only c = λ parts is e.
    let octets = key_octets_are c.to_octets-octets.result parts c.to_octets-octets.ensures.size c.to_octets-octets.ensures.each is (c.to_octets-octets.ensures.number ∙ e) in
    sym c.in-Ok.ensures ∙ (ap parts_at octets ∙ parts_again parts is)

pub returns-else-eq-clause-only : goal.returns-else-eq-clause-only
returns-else-eq-clause-only c = λ parts is e.
    let octets = key_octets_are c.to_octets-octets.result parts c.to_octets-octets.ensures.size c.to_octets-octets.ensures.each is (c.to_octets-octets.ensures.number ∙ e) in
    let one : c.in-Ok.parts ≡ parts = some_is c.in-Ok.parts parts (sym c.in-Ok.ensures ∙ (ap parts_at octets ∙ parts_again parts is)) in
    let same : c.key.result ≡ c.args.self = c.key.ensures.key ∙ ap key_of one ∙ sym e in
    let yes = eq-eqb c.key.result c.args.self same in
    absurd (cc (yes, c.eq.ensures, c.if-eq.false))
