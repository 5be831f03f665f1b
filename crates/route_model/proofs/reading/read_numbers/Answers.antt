use Rattle.std.proofs.Common.{◌∷◌, [], arith, length-append}
use Rattle.std.specs.Int.{w32}
use Rattle.std.proofs.lemmas.Result.{err_from_is_err_and}
use Rattle.route_model.specs.inner.Codec.{number_at, repeat}
use Rattle.route_model.proofs.Loop.{goes_on, ends, is_done}
use Rattle.route_model.specs.declared.fault.ReadError.TheVariants as errors
use Rattle.route_model.proofs.reading.read_numbers.Goals as goal

pub returns-in_err-item-clause-read : goal.returns-in_err-item-clause-read
returns-in_err-item-clause-read c =
    let p = err_from_is_err_and c.from_residual-in_err-item.result c.from_residual-in_err-item.ensures.1 in
    rw (p.1, p.2) (ends (number_at w32) errors.Unencoded c.loop.items.items c.args.count c.loop.counter c.loop.rest.now (repeat (number_at w32) c.args.count c.args.bytes.now) c.loop-test.true c.in_err-item.ensures c.loop.invariant.0)

pub loop-preserved : goal.loop-preserved
loop-preserved c = (
  rw c.in_ok-push.ensures.items (goes_on (number_at w32) c.loop.items.items c.args.count c.loop.counter c.loop.rest.now c.in_ok-item.item c.in_ok-item.after.now (repeat (number_at w32) c.args.count c.args.bytes.now) c.loop-test.true c.in_ok-item.ensures c.loop.invariant.0),
  rw c.in_ok-push.ensures.items (omega (arith, length-append c.loop.items.items (c.in_ok-item.item ∷ []))),
)

pub returns-clause-read : goal.returns-clause-read
returns-clause-read c = is_done (number_at w32) c.loop.items.items c.args.count c.loop.counter c.loop.rest.now (repeat (number_at w32) c.args.count c.args.bytes.now) c.loop-test.false c.loop.invariant.0
