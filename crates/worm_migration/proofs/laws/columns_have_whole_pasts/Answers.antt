use Rattle.worm_migration.proofs.Pasts.{whole_past}
use Rattle.worm_migration.proofs.laws.columns_have_whole_pasts.Goals as goal

pub returns : goal.returns
returns c = record { whole = whole_past }
