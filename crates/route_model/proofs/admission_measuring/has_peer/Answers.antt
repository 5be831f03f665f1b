use Rattle.std.proofs.Common.{◌∙◌, arith, sym, ap}
use Rattle.std.specs.Str.{bytes_eq}
use Rattle.route_model.specs.Encoding.{peer_octets}
use Rattle.route_model.specs.declared.peer.Peer.{Peer}
use Rattle.route_model.proofs.Sizes.{peer_not_there, peer_there}
use Rattle.route_model.proofs.admission_measuring.has_peer.Goals as goal

pub loop-left-preserved : goal.loop-left-preserved
loop-left-preserved c =
    let no = sym (ap (λ (p : Peer). bytes_eq (peer_octets p) (peer_octets c.args.peer.now)) c.peer.ensures.peer) ∙ sym c.are_same.ensures ∙ c.if-are_same.false in
    (omega (arith, c.loop-left.invariant.0), peer_not_there c.args.before.now c.loop-left.left c.index-before-left.result (peer_octets c.args.peer.now) c.loop-left-test.true c.loop-left.invariant.0 c.index-before-left.is no c.loop-left.invariant.1)

pub returns-then-are_same : goal.returns-then-are_same
returns-then-are_same c =
    let yes = sym (ap (λ (p : Peer). bytes_eq (peer_octets p) (peer_octets c.args.peer.now)) c.peer.ensures.peer) ∙ sym c.are_same.ensures ∙ c.if-are_same.true in
    sym (peer_there c.args.before.now c.loop-left.left c.index-before-left.result (peer_octets c.args.peer.now) c.loop-left-test.true c.loop-left.invariant.0 c.index-before-left.is yes)
