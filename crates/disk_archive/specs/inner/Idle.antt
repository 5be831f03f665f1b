-- A call that only checked whether it may go on.
use Rattle.std.specs.Prelude.{◌≡◌}
use Rattle.disk_models.specs.declared.erase.EraseDisk.{Ghosts as EraseGhosts}
use Rattle.disk_models.specs.declared.once.OnceDisk.{Ghosts as OnceGhosts}
use Rattle.buffer_pool.specs.Pool.{journal_of}
use Rattle.page_tx.specs.Tx.{pool_of}
use Rattle.disk_archive.specs.declared.archive.Archive.{Archive}
use Rattle.disk_archive.specs.Archives.{once_of, once_state}

-- both disks are as they were, and so is all that is kept in memory but for images and pages that were read
pub record IsAsBefore {E O Pen Seen : Type 0} {erase : EraseGhosts E} {once : OnceGhosts O Pen Seen} (old new : Archive E O Pen Seen erase once) : Type 0 where
  pub journal : journal_of (pool_of new.tx) ≡ journal_of (pool_of old.tx)
  pub disk : once_of new ≡ once_of old
  pub state : once_state new ≡ once_state old
  pub settings : new.settings ≡ old.settings
  pub head : new.head ≡ old.head
  pub lanes : new.sequencer ≡ old.sequencer
