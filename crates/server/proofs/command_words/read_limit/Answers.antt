use Rattle.std.proofs.Common.{◌≡◌, ◌∙◌, sym, arith}
use Rattle.std.proofs.lemmas.Fmt.{decimal_injective}
use Rattle.server.proofs.command_words.read_limit.Goals as goal

pub returns-then-number-eq0-clause-none : goal.returns-then-number-eq0-clause-none
returns-then-number-eq0-clause-none c = λ limit h.
    let same : c.in_ok-number.number ≡ limit = decimal_injective c.in_ok-number.number limit (omega (arith, c.in_ok-number.ensures.in_range)) (omega (arith, h.few)) (sym c.in_ok-number.ensures.found ∙ h.number) in
    omega (arith, h.some, c.if-number-eq0.true)
