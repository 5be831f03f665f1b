-- The head of an archive, as it is on its first page.
use Rattle.std.specs.Prelude.{◌≡◌, ℕ, List}
use Rattle.disk_models.specs.declared.erase.EraseDisk.{Ghosts as EraseGhosts}
use Rattle.disk_models.specs.declared.once.OnceDisk.{Ghosts as OnceGhosts}
use Rattle.buffer_pool.specs.Pool.{Maps}
use Rattle.page_tx.specs.Tx.{pool_of}
use Rattle.archive_head.specs.Head.{head_octets}
use Rattle.intake.specs.Ring.{page_at}
use Rattle.disk_archive.specs.declared.archive.Archive.{Archive}

-- The first page is the head in memory, in the unit in which all is written.
pub record IsRestated {E O Pen Seen : Type 0} {erase : EraseGhosts E} {once : OnceGhosts O Pen Seen} (a : Archive E O Pen Seen erase once) : Type 0 where
  pub first : (pages : List (List ℕ)) → Maps erase (pool_of a.tx) pages → page_at pages 0 ≡ head_octets a.head
