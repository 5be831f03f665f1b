use Rattle.std.proofs.Common.{◌≡◌, Some, sym, ap, ◌∙◌}
use Rattle.std.proofs.lemmas.Slice.Eq.{bytes_eq-Decides}
use Rattle.route_model.specs.declared.peer.Peer.{Peer}
use Rattle.route_model.specs.Encoding.{peer_octets}
use Rattle.route_model.specs.inner.Codec.{peer_at}
use Rattle.route_model.proofs.Peers.{read_one, read_some, peer_encoded}
use Rattle.route_model.proofs.peer.Peer.decode.Goals as goal

pub returns-in_default-clause-only : goal.returns-in_default-clause-only
returns-in_default-clause-only c = λ p is. absurd (read_some (peer_at c.args.octets.now) p c.in_default.ensures (peer_encoded p c.args.octets.now is))

pub returns-then-eq-clause-only : goal.returns-then-eq-clause-only
returns-then-eq-clause-only c = λ p is.
    ap (λ (x : Peer). Some x) (read_one (peer_at c.args.octets.now) c.in-Ok.peer p _ c.in-Ok.ensures (peer_encoded p c.args.octets.now is))

pub returns-else-eq-clause-only : goal.returns-else-eq-clause-only
returns-else-eq-clause-only c = λ p is.
    let one : c.in-Ok.peer ≡ p = read_one (peer_at c.args.octets.now) c.in-Ok.peer p _ c.in-Ok.ensures (peer_encoded p c.args.octets.now is) in
    let same : c.as_slice.result.now ≡ c.args.octets.now = c.as_slice.ensures ∙ c.encode.ensures.encoding.encoded ∙ ap peer_octets one ∙ sym is.encoded in
    let yes = (bytes_eq-Decides c.as_slice.result.now c.args.octets.now).1 same in
    absurd (cc (yes, c.eq.ensures, c.if-eq.false))
