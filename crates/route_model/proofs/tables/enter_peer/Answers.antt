use Rattle.std.proofs.Common.{not, refl, ap, ◌∙◌, arith}
use Rattle.route_model.proofs.Indexed.{octets_entered, octets_there}
use Rattle.route_model.proofs.TableRows.{place_some}
use Rattle.route_model.proofs.tables.enter_peer.Goals as goal

pub returns-then-peer_place-len-clause-entered : goal.returns-then-peer_place-len-clause-entered
returns-then-peer_place-len-clause-entered c =
    let here = place_some c.args.rows.now.keys c.args.row (omega (arith, c.if-peer_place-len.true, c.peer_place.ensures, c.len.ensures.len)) in
    rw here refl

pub returns-then-peer_place-len-clause-new : goal.returns-then-peer_place-len-clause-new
returns-then-peer_place-len-clause-new c =
    let here = place_some c.args.rows.now.keys c.args.row (omega (arith, c.if-peer_place-len.true, c.peer_place.ensures, c.len.ensures.len)) in
    rw here refl

pub returns-clause-entered : goal.returns-clause-entered
returns-clause-entered c = c.in_ok-insert.ensures.keys ∙ octets_entered c.args.row c.args.rows.now.keys

pub returns-clause-new : goal.returns-clause-new
returns-clause-new c = c.in_ok-insert.ensures.added ∙ ap not (octets_there c.args.row c.args.rows.now.keys)
