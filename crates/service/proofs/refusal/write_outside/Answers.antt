use Rattle.service.proofs.Outputs.{Reports-trans}
use Rattle.service.proofs.refusal.write_outside.Goals as goal

pub returns : goal.returns
returns g c =
    let why = Reports-trans _ _ _ _ _ c.text-2.ensures.reports c.text-3.ensures.reports in
    record { line = Reports-trans _ _ _ _ _ (Reports-trans _ _ _ _ _ (Reports-trans _ _ _ _ _ c.write_error_head.ensures.head c.text.ensures.reports) why) c.text-4.ensures.reports }
