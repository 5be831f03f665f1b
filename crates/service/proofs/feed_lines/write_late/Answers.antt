use Rattle.std.proofs.Common.{ℕ, subst}
use Rattle.route_text.specs.MomentText.{moment_text}
use Rattle.service.specs.Outputs.{Reports}
use Rattle.service.proofs.Outputs.{Reports-trans}
use Rattle.service.proofs.feed_lines.write_late.Goals as goal

pub returns : goal.returns
returns g c =
    let time = subst (λ (n : ℕ). Reports c.text-2.new.self c.moment.new.self (moment_text n)) c.number-2.ensures.number c.moment.ensures.reports in
    let mark = subst (λ (n : ℕ). Reports c.text-3.new.self c.moment-2.new.self (moment_text n)) c.number-3.ensures.number c.moment-2.ensures.reports in
    record {
      line = Reports-trans _ _ _ _ _
          (Reports-trans _ _ _ _ _
          (Reports-trans _ _ _ _ _
          (Reports-trans _ _ _ _ _
          (Reports-trans _ _ _ _ _ (Reports-trans _ _ _ _ _ c.text.ensures.reports c.number.ensures.reports) c.text-2.ensures.reports)
          time)
          c.text-3.ensures.reports)
          mark)
          c.text-4.ensures.reports;
    }
