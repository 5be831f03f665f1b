use Rattle.std.proofs.Common.{length}
use Rattle.route_model.proofs.api.Sequences.{ReadSoFar}
use Rattle.mrt_records.specs.PeerTables.{IsPeerField}
use Rattle.mrt_records.proofs.peer_table.read_peers.Given as goal

abbrev pub invariant-loop-rest : goal.invariant-loop-rest
invariant-loop-rest l = ReadSoFar IsPeerField l.fn.bytes l.rest l.peers.items

abbrev pub decreases-loop-rest : goal.decreases-loop-rest
decreases-loop-rest l = length l.rest
