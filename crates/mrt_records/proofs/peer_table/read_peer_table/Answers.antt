use Rattle.std.proofs.Common.{◌≡◌, ◌+◌, List, arith}
use Rattle.std.proofs.lemmas.Result.{err_from_is_err_and}
use Rattle.route_model.specs.Octets.{number_at}
use Rattle.route_model.specs.Sequence.{Sequence}
use Rattle.route_model.proofs.api.Readings.{no_reading_of_part}
use Rattle.mrt_records.specs.declared.neighbor.Neighbor.{Neighbor}
use Rattle.mrt_records.specs.PeerTables.{IsPeerField, IsPeerTable}
use Rattle.mrt_records.proofs.Bodies.{table_peers, table_none}
use Rattle.mrt_records.proofs.peer_table.read_peer_table.Goals as goal

pub returns-in_err-peers : goal.returns-in_err-peers
returns-in_err-peers c =
    let p = err_from_is_err_and c.from_residual.result c.from_residual.ensures.1 in
    let at : 6 + c.u16_at.result ≡ 6 + number_at 2 4 c.args.bytes.now = omega (arith, c.u16_at.ensures.number) in
    rw (p.1, p.2) (no_reading_of_part (Sequence IsPeerField c.split_at.result.1.now) (IsPeerTable c.args.bytes.now) (λ (ws : List Neighbor). ws)
    (λ ws q. table_peers c.args.bytes.now c.split_at.result.1.now (6 + c.u16_at.result) ws at c.split_at.ensures.back q) c.in_err-peers.field-0.0 c.in_err-peers.ensures)

pub returns-then-len-count : goal.returns-then-len-count
returns-then-len-count c = λ ws q.
    let at : 6 + c.u16_at.result ≡ 6 + number_at 2 4 c.args.bytes.now = omega (arith, c.u16_at.ensures.number) in
    table_none c.args.bytes.now c.split_at.result.1.now (6 + c.u16_at.result) c.u16_at-count.result c.in_ok-peers.peers.items ws at c.split_at.ensures.back
    c.u16_at-count.ensures.number c.in_ok-peers.ensures (λ e. omega (arith, e)) q
