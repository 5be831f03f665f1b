-- Whether blocks are left, and pages.
use Rattle.std.specs.Prelude.{ℕ, ◌-◌}
use Rattle.disk_models.specs.declared.erase.EraseDisk.{Ghosts as EraseGhosts}
use Rattle.disk_models.specs.declared.once.OnceDisk.{Ghosts as OnceGhosts}
use Rattle.once_store.specs.Shelves.{next_of}
use Rattle.page_journal.specs.Journal.{home_pages}
use Rattle.buffer_pool.specs.Pool.{journal_of}
use Rattle.page_tx.specs.Tx.{pool_of}
use Rattle.tsb_tree.specs.Shelves.{HasNoneBlank}
use Rattle.disk_archive.specs.declared.archive.Archive.{Archive}

-- the block that would be tried next
abbrev pub next_block : {E O Pen Seen : Type 0} {erase : EraseGhosts E} {once : OnceGhosts O Pen Seen} → Archive E O Pen Seen erase once → ℕ
next_block a = next_of a.shelf

-- no block is blank from the one on that would be tried next
abbrev pub NoneBlank : {E O Pen Seen : Type 0} {erase : EraseGhosts E} {once : OnceGhosts O Pen Seen} → Archive E O Pen Seen erase once → Type 0
NoneBlank {once = once} a = HasNoneBlank once a.shelf

-- how many home pages were never used, according to its head
abbrev pub unused_pages : {E O Pen Seen : Type 0} {erase : EraseGhosts E} {once : OnceGhosts O Pen Seen} → Archive E O Pen Seen erase once → ℕ
unused_pages a = home_pages (journal_of (pool_of a.tx)) - a.head.fresh
