use Rattle.std.proofs.Common.{refl, sym, [], ◌∷◌}
use Rattle.disk_archive.specs.Archives.{is_down}
use Rattle.archive_uses.specs.Use.Call.{admit as a_batch}
use Rattle.archive_uses.specs.Use.Use.{called}
use Rattle.archive_uses.specs.Verdicts.{of_admit}
use Rattle.uses_tests.specs.inner.Taking.{alone}
use Rattle.uses_tests.proofs.calls.give.Goals as goal

pub returns : goal.returns
returns c =
    let down = is_down c.admit.new.archive in
    let given = c.in-Some.admissions in
    record {
      takes = record {
        uses = called (a_batch c.args.collector given) (of_admit c.admit.result down) ∷ [];
        are = (given, down, refl);
        valid = (c.in-Some.ensures.valid, tt);
        leads = (alone c.admit.new.archive, (c.admit.ensures.leads given (sym c.as_slice.ensures.value), refl), refl);
      };
    }
