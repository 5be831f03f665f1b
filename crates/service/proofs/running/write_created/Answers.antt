use Rattle.std.proofs.Common.{ℕ, decimal, subst}
use Rattle.service.specs.Outputs.{Reports}
use Rattle.service.proofs.Outputs.{Reports-trans}
use Rattle.service.proofs.running.write_created.Goals as goal

pub returns : goal.returns
returns g c =
    let collectors = Reports-trans _ _ _ _ _ c.text.ensures.reports (subst (λ (n : ℕ). Reports c.text.new.self c.number.new.self (decimal n)) c.from.ensures c.number.ensures.reports) in
    let ring = Reports-trans _ _ _ _ _ (Reports-trans _ _ _ _ _ collectors c.text-2.ensures.reports) (subst (λ (n : ℕ). Reports c.text-2.new.self c.number-2.new.self (decimal n)) c.from-2.ensures c.number-2.ensures.reports) in
    let pages = Reports-trans _ _ _ _ _ (Reports-trans _ _ _ _ _ ring c.text-3.ensures.reports) c.number-3.ensures.reports in
    record { line = Reports-trans _ _ _ _ _ (Reports-trans _ _ _ _ _ (Reports-trans _ _ _ _ _ pages c.text-4.ensures.reports) c.number-4.ensures.reports) c.text-5.ensures.reports }
