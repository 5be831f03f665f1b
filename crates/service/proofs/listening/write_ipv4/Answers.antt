use Rattle.std.proofs.Common.{ℕ, decimal, subst}
use Rattle.service.specs.Outputs.{Reports}
use Rattle.service.proofs.Outputs.{Reports-trans}
use Rattle.service.proofs.listening.write_ipv4.Goals as goal

pub returns : goal.returns
returns g c =
    let first = subst (λ (n : ℕ). Reports c.args.out.now c.number.new.self (decimal n)) c.from.ensures c.number.ensures.reports in
    let second = subst (λ (n : ℕ). Reports c.text.new.self c.number-2.new.self (decimal n)) c.from-2.ensures c.number-2.ensures.reports in
    let third = subst (λ (n : ℕ). Reports c.text-2.new.self c.number-3.new.self (decimal n)) c.from-3.ensures c.number-3.ensures.reports in
    let last = subst (λ (n : ℕ). Reports c.text-3.new.self c.number-4.new.self (decimal n)) c.from-4.ensures c.number-4.ensures.reports in
    let two = Reports-trans _ _ _ _ _ (Reports-trans _ _ _ _ _ first c.text.ensures.reports) second in
    let three = Reports-trans _ _ _ _ _ (Reports-trans _ _ _ _ _ two c.text-2.ensures.reports) third in
    record { text = Reports-trans _ _ _ _ _ (Reports-trans _ _ _ _ _ three c.text-3.ensures.reports) last }
