use Rattle.std.proofs.Common.{◌≡◌, ◌/◌, ◌%◌, ℕ, arith, decimal, sym, subst}
use Rattle.std.proofs.lemmas.Bool.{ne_eqb}
use Rattle.service.specs.Outputs.{Reports}
use Rattle.service.proofs.Outputs.{Reports-nil, Reports-trans}
use Rattle.service.proofs.output.Output.fraction.Goals as goal

pub returns : goal.returns
returns g c =
    let one : c.args.micros / 1 ≡ c.args.micros = omega arith in
    let ones = subst (λ (n : ℕ). Reports c.number-5.new.self c.number-6.new.self (decimal (n % 10))) (sym one) c.number-6.ensures.reports in
    record {
      reports = rw (ne_eqb c.args.micros 0 c.if-micros-eq0.false)
          (Reports-trans _ _ _ _ _ c.text.ensures.reports
          (Reports-trans _ _ _ _ _ c.number.ensures.reports
          (Reports-trans _ _ _ _ _ c.number-2.ensures.reports
          (Reports-trans _ _ _ _ _ c.number-3.ensures.reports
          (Reports-trans _ _ _ _ _ c.number-4.ensures.reports
          (Reports-trans _ _ _ _ _ c.number-5.ensures.reports
          (Reports-trans _ _ _ _ _ ones (Reports-nil c.number-6.new.self))))))));
    }
