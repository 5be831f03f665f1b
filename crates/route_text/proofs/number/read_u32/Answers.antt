use Rattle.std.proofs.Common.{ap, sym, ◌∙◌, arith, Ok}
use Rattle.std.proofs.lemmas.Fmt.{decimal_injective}
use Rattle.route_text.proofs.number.read_u32.Goals as goal

pub returns-clause-only : goal.returns-clause-only
returns-clause-only c n fits e = ap Ok (decimal_injective c.in_ok-number.number n (let most = c.in_ok-number.ensures.in_range in omega (arith, c.from.ensures)) (omega arith) (sym c.in_ok-number.ensures.found ∙ e))
