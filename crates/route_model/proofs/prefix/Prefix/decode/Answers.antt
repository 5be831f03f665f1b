use Rattle.std.proofs.Common.{◌≡◌, Some, sym, ap, ◌∙◌}
use Rattle.std.proofs.lemmas.Slice.Eq.{bytes_eq-Decides}
use Rattle.route_model.specs.Prefix.{IpPrefix, prefix_octets}
use Rattle.route_model.specs.inner.Codec.Admissions.{prefix_at}
use Rattle.route_model.proofs.Peers.{read_one, read_some}
use Rattle.route_model.proofs.Prefixes.{prefix_encoded}
use Rattle.route_model.proofs.prefix.Prefix.decode.Goals as goal

pub returns-in_default-clause-only : goal.returns-in_default-clause-only
returns-in_default-clause-only c = λ p is. absurd (read_some (prefix_at c.args.octets.now) p c.in_default.ensures.read (prefix_encoded p c.args.octets.now is))

pub returns-then-is_encoded-clause-only : goal.returns-then-is_encoded-clause-only
returns-then-is_encoded-clause-only c = λ p is.
    ap (λ (x : IpPrefix). Some x) (c.containing-prefix.ensures.prefix ∙ read_one (prefix_at c.args.octets.now) _ p _ c.in-Ok.ensures.read (prefix_encoded p c.args.octets.now is))

pub returns-else-is_encoded-clause-only : goal.returns-else-is_encoded-clause-only
returns-else-is_encoded-clause-only c = λ p is.
    let one : c.containing-prefix.result ≡ p = c.containing-prefix.ensures.prefix ∙ read_one (prefix_at c.args.octets.now) _ p _ c.in-Ok.ensures.read (prefix_encoded p c.args.octets.now is) in
    let same : c.args.octets.now ≡ prefix_octets c.containing-prefix.result = is.encoded ∙ ap prefix_octets (sym one) in
    let yes = (bytes_eq-Decides c.args.octets.now (prefix_octets c.containing-prefix.result)).1 same in
    absurd (cc (yes, c.is_encoded.ensures.same, c.if-is_encoded.false))
