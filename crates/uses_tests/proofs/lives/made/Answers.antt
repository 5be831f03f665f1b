use Rattle.uses_tests.proofs.Crashing.{lives_first}
use Rattle.uses_tests.proofs.lives.made.Goals as goal

pub returns-in-Ok-create : goal.returns-in-Ok-create
returns-in-Ok-create c = record { lives = lives_first c.args.settings c.in-Ok-create.archive (c.in-Ok-create.ensures.starts tt tt) }
