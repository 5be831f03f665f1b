use Rattle.std.proofs.Common.{◌≡◌, ◌++◌, ℕ, List, codes, decimal, sym, subst, ⊎_elim}
use Rattle.route_text.specs.MomentText.{moment_text}
use Rattle.service.specs.Outputs.{Reports}
use Rattle.service.specs.Refusals.{reported_of}
use Rattle.service.specs.declared.refusal.Refusal.{Refusal}
use Rattle.service.proofs.Outputs.{Reports-trans}
use Rattle.service.proofs.refusal.write_reported.Goals as goal

pub returns-in-AboveWatermark : goal.returns-in-AboveWatermark
returns-in-AboveWatermark g c =
    let settled = subst (λ (n : ℕ). Reports c.text.new.self c.moment.new.self (moment_text n)) c.number.ensures.number c.moment.ensures.reports in
    record { reported = subst (λ (r : Refusal). Reports c.args.out.now c.moment.new.self (reported_of r)) (sym c.in-AboveWatermark.is) (Reports-trans _ _ _ _ _ c.text.ensures.reports settled) }

pub returns-in-Damaged : goal.returns-in-Damaged
returns-in-Damaged g c =
    let wrote : Reports c.args.out.now c.number-in-Damaged.new.self (codes "|" ++ decimal c.in-Damaged.number) = Reports-trans _ _ _ _ _ c.text-in-Damaged.ensures.reports c.number-in-Damaged.ensures.reports in
    record {
      reported = ⊎_elim (λ damaged. subst (λ (r : Refusal). Reports c.args.out.now c.number-in-Damaged.new.self (reported_of r)) (sym damaged) wrote)
          (λ node. subst (λ (r : Refusal). Reports c.args.out.now c.number-in-Damaged.new.self (reported_of r)) (sym node) wrote) c.in-Damaged.is;
    }
