use Rattle.std.proofs.Common.{ℕ, ◌*◌, [], ◌∷◌, arith, refl, subst}
use Rattle.route_model.specs.Moments.{micros_a_second}
use Rattle.disk_archive.specs.Archives.{is_down}
use Rattle.archive_uses.specs.Use.Call.{mark as a_mark}
use Rattle.archive_uses.specs.Use.Use.{called}
use Rattle.archive_uses.specs.Uses.{Leads}
use Rattle.archive_uses.specs.Uses.Stage.{on}
use Rattle.archive_uses.specs.Verdicts.{of_mark}
use Rattle.uses_tests.specs.inner.Taking.{alone}
use Rattle.uses_tests.proofs.calls.raise.Goals as goal

pub returns : goal.returns
returns c =
    let a = c.args.archive.now in
    let z = c.mark.new.archive in
    let down = is_down z in
    record {
      takes = record {
        uses = called (a_mark c.args.collector (c.args.second * micros_a_second)) (of_mark c.mark.result down) ∷ [];
        are = (down, refl);
        valid = (omega arith, tt);
        leads = (alone z, (subst (λ (m : ℕ). Leads (called (a_mark c.args.collector m) (of_mark c.mark.result down)) (on a) (on z)) c.mark_at-at.ensures.mark c.mark.ensures.leads, refl), refl);
      };
    }
