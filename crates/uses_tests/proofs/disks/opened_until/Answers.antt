use Rattle.std.proofs.Common.{[], ◌∷◌, refl}
use Rattle.archive_uses.specs.Use.Use.{found, lost, opened, shut}
use Rattle.uses_tests.specs.inner.Taking.{alone, apart, fallen}
use Rattle.uses_tests.proofs.Crashing.{loses_found}
use Rattle.uses_tests.proofs.Going.{uses_on}
use Rattle.uses_tests.proofs.disks.opened_until.Goals as goal

pub returns-in-Ok : goal.returns-in-Ok
returns-in-Ok c =
    let both = c.args.both.now in
    let after = c.in-Some.after in
    let l = c.in-Some.ensures.loses in
    record {
      opens = record {
        left = l.left;
        now = l.now;
        rest = found ∷ opened ∷ [];
        are = refl;
        valid = (tt, (tt, tt));
        leads = uses_on (found ∷ []) (opened ∷ []) (fallen _ _ both.once.value l.left) (apart _ _ after.erase after.once.value after.pen) (alone c.in-Ok.archive)
            (loses_found _ _ both.erase both.once.value both.pen after.erase after.once.value after.pen l) c.in-Ok.ensures.opens;
      };
    }

pub returns-in-Some-opened_after : goal.returns-in-Some-opened_after
returns-in-Some-opened_after c =
    let both = c.args.both.now in
    let after = c.in-Some.after in
    let again = c.in-Err.refused in
    let last = alone c.in-Some-opened_after.archive in
    let l = c.in-Some.ensures.loses in
    record {
      opens = record {
        left = l.left;
        now = l.now;
        rest = found ∷ shut ∷ lost ∷ found ∷ opened ∷ [];
        are = refl;
        valid = (tt, (tt, (tt, (tt, (tt, tt)))));
        leads = uses_on (found ∷ []) (shut ∷ lost ∷ found ∷ opened ∷ []) (fallen _ _ both.once.value l.left) (apart _ _ after.erase after.once.value after.pen) last
            (loses_found _ _ both.erase both.once.value both.pen after.erase after.once.value after.pen l)
            (uses_on (shut ∷ []) (lost ∷ found ∷ opened ∷ []) (apart _ _ after.erase after.once.value after.pen) (apart _ _ again.erase again.once.value again.pen) last c.in-Err.ensures.shuts c.in-Some-opened_after.ensures.opens);
      };
    }
