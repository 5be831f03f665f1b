use Rattle.std.proofs.Common.{refl, [], ◌∷◌}
use Rattle.disk_archive.specs.Archives.{is_down}
use Rattle.archive_uses.specs.Use.Call.{flush as a_step}
use Rattle.archive_uses.specs.Use.Use.{called}
use Rattle.archive_uses.specs.Verdicts.{of_flush}
use Rattle.uses_tests.specs.inner.Taking.{alone}
use Rattle.uses_tests.proofs.calls.flush.Goals as goal

pub returns : goal.returns
returns c =
    let down = is_down c.flush_step.new.archive in
    record {
      takes = record {
        uses = called a_step (of_flush c.flush_step.result down) ∷ [];
        are = (down, refl);
        valid = (tt, tt);
        leads = (alone c.flush_step.new.archive, (c.flush_step.ensures.leads, refl), refl);
      };
    }
