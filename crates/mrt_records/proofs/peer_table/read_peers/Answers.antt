use Rattle.std.proofs.Common.{rules}
use Rattle.route_model.proofs.api.Sequences.{read_on, read_none}
use Rattle.mrt_records.specs.PeerTables.{IsPeerField}
use Rattle.mrt_records.proofs.Peers.{peers_free}
use Rattle.mrt_records.proofs.peer_table.read_peers.Goals as goal

pub returns-in_default : goal.returns-in_default
returns-in_default c = read_none IsPeerField peers_free _ c.loop-rest.rest.now c.loop-rest.peers.items c.loop-rest.invariant c.in_default.ensures (search rules)

pub loop-rest-preserved : goal.loop-rest-preserved
loop-rest-preserved c =
    rw (c.split_at.ensures.back, c.in_ok-push.ensures.items)
    (read_on IsPeerField c.args.bytes.now c.loop-rest.rest.now c.loop-rest.peers.items c.in-Some.peer c.in-Some.size c.loop-rest.invariant c.in-Some.ensures.2)
