use Rattle.std.proofs.Common.{refl, [], ◌∷◌}
use Rattle.disk_archive.specs.Archives.{is_down}
use Rattle.archive_uses.specs.Use.Call.{apply as a_step}
use Rattle.archive_uses.specs.Use.Use.{called}
use Rattle.archive_uses.specs.Verdicts.{of_apply}
use Rattle.uses_tests.specs.inner.Taking.{alone}
use Rattle.uses_tests.proofs.calls.apply.Goals as goal

pub returns : goal.returns
returns c =
    let down = is_down c.apply_step.new.archive in
    record {
      takes = record {
        uses = called a_step (of_apply c.apply_step.result down) ∷ [];
        are = (down, refl);
        valid = (tt, tt);
        leads = (alone c.apply_step.new.archive, (c.apply_step.ensures.leads, refl), refl);
      };
    }
