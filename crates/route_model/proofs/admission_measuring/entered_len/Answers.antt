use Rattle.std.proofs.Common.{[], sym, ap, ◌∙◌, arith}
use Rattle.route_model.specs.Admission.{announced}
use Rattle.route_model.proofs.Sizes.{size-push, routes-size, routes-same, peer_entered, peer_new, route_entered, route_new, route_rows-same}
use Rattle.route_model.proofs.admission_measuring.entered_len.Goals as goal

pub returns-in_ok-entered_route_len-in-Announce-clause-peers : goal.returns-in_ok-entered_route_len-in-Announce-clause-peers
returns-in_ok-entered_route_len-in-Announce-clause-peers c = peer_entered c.args.before.now c.args.c.now _ _ c.peer.result c.peer.ensures.peer c.requires.peers c.in_ok-rest.ensures.rows

pub returns-in-Withdraw-clause-peers : goal.returns-in-Withdraw-clause-peers
returns-in-Withdraw-clause-peers c = peer_entered c.args.before.now c.args.c.now _ _ c.peer.result c.peer.ensures.peer c.requires.peers c.in_ok-rest.ensures.rows

pub returns-in-Down-clause-peers : goal.returns-in-Down-clause-peers
returns-in-Down-clause-peers c = peer_entered c.args.before.now c.args.c.now _ _ c.peer.result c.peer.ensures.peer c.requires.peers c.in_ok-rest.ensures.rows

pub returns-in_ok-entered_route_len-in-Announce-clause-routes : goal.returns-in_ok-entered_route_len-in-Announce-clause-routes
returns-in_ok-entered_route_len-in-Announce-clause-routes c = route_entered c.args.before.now c.args.c.now c.in-Announce.route _ _ (ap announced c.in-Announce.is) c.requires.routes c.in_ok-entered_route_len-in-Announce.ensures.rows

pub returns-in-Withdraw-clause-routes : goal.returns-in-Withdraw-clause-routes
returns-in-Withdraw-clause-routes c = c.requires.routes ∙ sym (route_rows-same c.args.before.now c.args.c.now (ap announced c.in-Withdraw.is))

pub returns-in-Down-clause-routes : goal.returns-in-Down-clause-routes
returns-in-Down-clause-routes c = c.requires.routes ∙ sym (route_rows-same c.args.before.now c.args.c.now (ap announced c.in-Down.is))

pub returns-in_ok-entered_route_len-in-Announce-clause-len : goal.returns-in_ok-entered_route_len-in-Announce-clause-len
returns-in_ok-entered_route_len-in-Announce-clause-len c = λ time.
    let peers = peer_new c.args.before.now c.args.c.now _ c.in_ok-rest.field-0 c.peer.result c.peer.ensures.peer c.requires.peers c.in_ok-rest.ensures.len in
    let routes = routes-size c.args.before.now c.args.c.now _ _ (ap announced c.in-Announce.is) (route_new c.args.before.now c.in-Announce.route _ _ c.requires.routes c.in_ok-entered_route_len-in-Announce.ensures.len) in
    let more = size-push time c.args.before.now c.args.c.now _ _ peers routes in
    omega (arith, more, c.change_len.ensures.len [] [])

pub returns-in-Withdraw-clause-len : goal.returns-in-Withdraw-clause-len
returns-in-Withdraw-clause-len c = λ time.
    let peers = peer_new c.args.before.now c.args.c.now _ c.in_ok-rest.field-0 c.peer.result c.peer.ensures.peer c.requires.peers c.in_ok-rest.ensures.len in
    let routes = routes-same c.args.before.now c.args.c.now (ap announced c.in-Withdraw.is) in
    let more = size-push time c.args.before.now c.args.c.now _ 0 peers (omega (arith, routes)) in
    omega (arith, more, c.change_len.ensures.len [] [])

pub returns-in-Down-clause-len : goal.returns-in-Down-clause-len
returns-in-Down-clause-len c = λ time.
    let peers = peer_new c.args.before.now c.args.c.now _ c.in_ok-rest.field-0 c.peer.result c.peer.ensures.peer c.requires.peers c.in_ok-rest.ensures.len in
    let routes = routes-same c.args.before.now c.args.c.now (ap announced c.in-Down.is) in
    let more = size-push time c.args.before.now c.args.c.now _ 0 peers (omega (arith, routes)) in
    omega (arith, more, c.change_len.ensures.len [] [])
