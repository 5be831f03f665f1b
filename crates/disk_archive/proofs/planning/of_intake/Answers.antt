use Rattle.std.proofs.Common.{◌∙◌, ap}
use Rattle.intake.specs.declared.error.IntakeError.TheVariants as intakes
use Rattle.disk_archive.proofs.planning.of_intake.Goals as goal

pub returns-clause-refused : goal.returns-clause-refused
returns-clause-refused c down f g = c.of_page.ensures.refused down (λ e. f (c.in-Pages.is ∙ ap (λ x. intakes.Pages x) e)) (λ e. g (c.in-Pages.is ∙ ap (λ x. intakes.Pages x) e))
