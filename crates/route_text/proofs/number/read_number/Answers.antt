use Rattle.std.proofs.Common.{sym, ◌∙◌, arith}
use Rattle.std.proofs.lemmas.Fmt.{decimal_injective}
use Rattle.route_text.proofs.number.read_number.Goals as goal

pub returns-then-last-number-clause-none : goal.returns-then-last-number-clause-none
returns-then-last-number-clause-none c n small e =
    let same = decimal_injective n c.in-Some.number (omega arith) (omega arith) (sym e ∙ c.in-Some.ensures.found) in
    omega arith
