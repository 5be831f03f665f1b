use Rattle.once_store.specs.Readers.{kept_blocks}
use Rattle.shared_archive.proofs.Blocks.{none_there}
use Rattle.shared_archive.proofs.turns.reader.Goals as goal

pub returns-in-Ok-clause-empty : goal.returns-in-Ok-clause-empty
returns-in-Ok-clause-empty g c = none_there (kept_blocks c.in-Ok.reader) c.in-Ok.ensures.none
