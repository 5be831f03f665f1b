use Rattle.std.proofs.lemmas.Result.{err_from_is_err_and}
use Rattle.route_model.specs.inner.Codec.{repeat}
use Rattle.route_model.specs.inner.Codec.{peer_at}
use Rattle.route_model.specs.declared.fault.ReadError.TheVariants as errors
use Rattle.route_model.proofs.Loop.{goes_on, ends, is_done}
use Rattle.route_model.proofs.admission_reading.read_peers.Goals as goal

pub returns-in_err-item : goal.returns-in_err-item
returns-in_err-item c =
    let p = err_from_is_err_and c.from_residual-in_err-item.result c.from_residual-in_err-item.ensures.1 in
    rw (p.1, p.2) (ends peer_at errors.Unencoded c.loop.items.items c.args.count c.loop.counter c.loop.rest.now (repeat peer_at c.args.count c.args.bytes.now) c.loop-test.true c.in_err-item.ensures c.loop.invariant)

pub loop-preserved : goal.loop-preserved
loop-preserved c =
    rw c.in_ok-push.ensures.items (goes_on peer_at c.loop.items.items c.args.count c.loop.counter c.loop.rest.now c.in_ok-item.item c.in_ok-item.after.now (repeat peer_at c.args.count c.args.bytes.now) c.loop-test.true c.in_ok-item.ensures c.loop.invariant)

pub returns : goal.returns
returns c = is_done peer_at c.loop.items.items c.args.count c.loop.counter c.loop.rest.now (repeat peer_at c.args.count c.args.bytes.now) c.loop-test.false c.loop.invariant
