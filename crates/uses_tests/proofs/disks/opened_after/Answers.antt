use Rattle.std.proofs.Common.{[], ◌∷◌}
use Rattle.archive_uses.specs.Use.Use.{found, lost, opened}
use Rattle.uses_tests.specs.inner.Taking.{alone, apart}
use Rattle.uses_tests.proofs.Crashing.{loses_uses}
use Rattle.uses_tests.proofs.Going.{uses_on}
use Rattle.uses_tests.proofs.disks.opened_after.Goals as goal

pub returns-in-Ok : goal.returns-in-Ok
returns-in-Ok c =
    let both = c.args.both.now in
    let after = c.in-Some.after in
    record {
      opens = uses_on (lost ∷ found ∷ []) (opened ∷ []) (apart _ _ both.erase both.once.value both.pen) (apart _ _ after.erase after.once.value after.pen) (alone c.in-Ok.archive)
          (loses_uses _ _ both.erase both.once.value both.pen after.erase after.once.value after.pen c.in-Some.ensures.loses) c.in-Ok.ensures.opens;
    }
