-- Why an old node doesn't become a block.
use Rattle.once_store.specs.declared.error.AppendError.{AppendError}
use Rattle.once_store.specs.declared.error.AppendError.TheVariants as append
use Rattle.worm_migration.specs.declared.error.MigrationError.{MigrationError}
use Rattle.worm_migration.specs.declared.error.MigrationError.TheVariants.{Fault, OnceFull}

-- a shelf's refusal to append a block
abbrev pub of_append : AppendError → MigrationError
of_append append.Fault = Fault
of_append append.OnceFull = OnceFull
