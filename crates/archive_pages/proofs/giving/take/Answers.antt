use Rattle.std.proofs.Common.{◌≡◌, subst, ap, ◌∙◌}
use Rattle.intake.specs.declared.ring.Ring.{Ring}
use Rattle.intake.specs.Ring.{octets_for, ListsAfter}
use Rattle.route_model.specs.Admission.{Admitted}
use Rattle.std.specs.Prelude.{List}
use Rattle.archive_pages.specs.Batches.{Kept}
use Rattle.archive_pages.proofs.giving.take.Goals as goal

pub returns-clause-set : goal.returns-clause-set
returns-clause-set g c =
    let timely : c.deref.result.now ≡ c.args.batch.now.timely = c.deref.ensures.value ∙ ap (λ (k : Kept). k.timely) c.batch.view_is in
    subst (λ (r : Ring). ListsAfter r (octets_for c.args.batch.now.timely) (g.P.Pages.named c.args.pages.now) (g.P.Pages.named c.append.new.pages)) c.ring-ring.ensures
    (subst (λ (l : List Admitted). ListsAfter c.ring-ring.result (octets_for l) (g.P.Pages.named c.args.pages.now) (g.P.Pages.named c.append.new.pages)) timely c.in_ok-append.ensures.set)
