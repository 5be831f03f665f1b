use Rattle.std.proofs.Common.{length, refl}
use Rattle.std.proofs.lemmas.Option.{slice_get_read}
use Rattle.std.proofs.lemmas.Result.{err_from_is_err_and}
use Rattle.resolve.specs.Entries.{entry_shown}
use Rattle.resolve.proofs.Known.{known_change}
use Rattle.resolve.proofs.Reading.{faulty}
use Rattle.resolve.proofs.entries.change_of.Goals as goal

pub returns-in-Some-2-clause-gives : goal.returns-in-Some-2-clause-gives
returns-in-Some-2-clause-gives c =
    let gave = rw c.in-Some-2.is at c.in_ok-shared.ensures in
    let named = slice_get_read c.args.peers.now (length c.args.peers.now) _ c.in-Some.neighbor.now refl c.in-Some.ensures.lookup.3.0 c.in-Some.ensures.lookup.1 in
    rw c.peer_of_neighbor-peer.ensures
    (known_change c.args.rule c.args.collector c.args.peers.now c.args.prefix.now (entry_shown c.args.entry.now) c.in-Some.neighbor.now c.args.known.now c.in-Some-2.shared named c.requires gave)

pub returns-in_err-route-clause-gives : goal.returns-in_err-route-clause-gives
returns-in_err-route-clause-gives c =
    let p = err_from_is_err_and c.from_residual-in_err-route.result c.from_residual-in_err-route.ensures.1 in
    rw (p.1, p.2) (faulty c.args.rule c.args.peers.now c.args.prefix.now (entry_shown c.args.entry.now) c.in_err-route.field-0.0 c.in-Some.ensures.lookup.3.0 c.in_err-route.ensures)
