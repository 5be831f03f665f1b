use Rattle.std.proofs.Common.{◌∙◌, sym}
use Rattle.route_model.proofs.api.Admissions.{peers_push, peers_done}
use Rattle.route_model.proofs.tables.peer_table.Goals as goal

pub loop-c-init : goal.loop-c-init
loop-c-init c = c.new-rows.ensures.empty

pub loop-c-preserved : goal.loop-c-preserved
loop-c-preserved c =
    let more = peers_push c.args.changes.now c.loop-c.c-index c.c-item.result c.loop-c-test.true c.c-item.is in
    rw (c.in_ok-enter_peer.ensures.entered, c.encode.ensures.encoding.encoded, c.peer.ensures.peer, c.loop-c.invariant) (sym more)

pub returns : goal.returns
returns c = c.loop-c.invariant ∙ peers_done c.args.changes.now c.loop-c.c-index c.loop-c-test.false
