use Rattle.std.proofs.Common.{◌≡◌, ◌∙◌, ℕ, List, decimal, subst}
use Rattle.service.specs.Outputs.{Reports}
use Rattle.service.specs.Refusals.{number_of}
use Rattle.service.proofs.Outputs.{Reports-trans}
use Rattle.service.proofs.refusal.write_head.Goals as goal

pub returns : goal.returns
returns g c =
    let number : c.from.result ≡ number_of c.args.refusal.now = c.from.ensures ∙ c.number.ensures.number in
    record {
      head = Reports-trans _ _ _ _ _
          (Reports-trans _ _ _ _ _ (Reports-trans _ _ _ _ _ c.text.ensures.reports (subst (λ (n : ℕ). Reports c.text.new.self c.number-2.new.self (decimal n)) number c.number-2.ensures.reports)) c.text-2.ensures.reports)
          (subst (λ (t : List ℕ). Reports c.text-2.new.self c.text-3.new.self t) c.name.ensures.name c.text-3.ensures.reports);
    }
