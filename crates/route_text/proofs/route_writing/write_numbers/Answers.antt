use Rattle.std.proofs.Common.{◌∙◌, ◌++◌, ap, decimal, arith, string_bytes}
use Rattle.route_text.proofs.Joins.{join_all}
use Rattle.route_text.proofs.route_writing.write_numbers.Goals as goal

pub returns : goal.returns
returns c =
    let h = c.in-Some.ensures.cases in
    record {
      text = join_all c.args.separator decimal (string_bytes c.args.out.now) (string_bytes c.write_number.new.out) (string_bytes c.loop-number.out) c.args.numbers.now c.in-Some.others.now c.in-Some.first.now c.loop-number.number-index (cc) (c.in_ok-write_number.ensures.digits ∙ ap (λ n. string_bytes c.args.out.now ++ decimal n) c.from.ensures) (omega arith) c.loop-number.invariant;
    }
