use Rattle.std.proofs.Common.{refl, [], ◌∷◌}
use Rattle.archive_uses.specs.Use.Use.{looked}
use Rattle.uses_tests.specs.inner.Taking.{alone}
use Rattle.uses_tests.proofs.calls.check_all.Goals as goal

pub returns : goal.returns
returns c = record {
  takes = record {
    uses = looked ∷ [];
    are = refl;
    valid = (tt, tt);
    leads = (alone c.check.new.archive, (c.check.ensures.leads, refl), refl);
  };
}
