use Rattle.std.proofs.Common.{arith, [], ap}
use Rattle.route_model.specs.Admission.{announced}
use Rattle.route_model.proofs.Sizes.{size-push, routes-size, routes-same}
use Rattle.route_model.proofs.admission_measuring.added_len.Goals as goal

pub returns-in-Announce-clause-len : goal.returns-in-Announce-clause-len
returns-in-Announce-clause-len c = λ time.
    let routes = routes-size c.args.before.now c.args.c.now _ c.route_row_len.result (ap announced c.in-Announce.is) c.route_row_len.ensures in
    let more = size-push time c.args.before.now c.args.c.now c.peer_row_len.result c.route_row_len.result c.peer_row_len.ensures.len routes in
    omega (arith, more, c.change_len.ensures.len [] [])

pub returns-in-Withdraw-clause-len : goal.returns-in-Withdraw-clause-len
returns-in-Withdraw-clause-len c = λ time.
    let routes = routes-same c.args.before.now c.args.c.now (ap announced c.in-Withdraw.is) in
    let more = size-push time c.args.before.now c.args.c.now c.peer_row_len.result 0 c.peer_row_len.ensures.len (omega (arith, routes)) in
    omega (arith, more, c.change_len.ensures.len [] [])

pub returns-in-Down-clause-len : goal.returns-in-Down-clause-len
returns-in-Down-clause-len c = λ time.
    let routes = routes-same c.args.before.now c.args.c.now (ap announced c.in-Down.is) in
    let more = size-push time c.args.before.now c.args.c.now c.peer_row_len.result 0 c.peer_row_len.ensures.len (omega (arith, routes)) in
    omega (arith, more, c.change_len.ensures.len [] [])
