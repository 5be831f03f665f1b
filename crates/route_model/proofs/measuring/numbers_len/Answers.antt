use Rattle.std.proofs.Common.{◌≡◌, arith}
use Rattle.route_model.proofs.Measures.{length-numbers}
use Rattle.route_model.proofs.measuring.numbers_len.Goals as goal

pub returns-clause-len : goal.returns-clause-len
returns-clause-len c =
    let items : c.as_slice.result.now ≡ c.args.numbers.now = c.as_slice.ensures.items in
    rw (c.each_number.ensures.count, items) (omega (arith, length-numbers c.args.numbers.now))
