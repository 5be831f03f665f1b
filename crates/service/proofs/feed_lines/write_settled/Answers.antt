use Rattle.std.proofs.Common.{ℕ, subst}
use Rattle.route_text.specs.MomentText.{moment_text}
use Rattle.service.specs.Outputs.{Reports}
use Rattle.service.proofs.Outputs.{Reports-trans}
use Rattle.service.proofs.feed_lines.write_settled.Goals as goal

pub returns : goal.returns
returns g c =
    let settled = subst (λ (n : ℕ). Reports c.text.new.self c.moment.new.self (moment_text n)) c.number.ensures.number c.moment.ensures.reports in
    record { line = Reports-trans _ _ _ _ _ c.text.ensures.reports (Reports-trans _ _ _ _ _ settled c.text-2.ensures.reports) }
