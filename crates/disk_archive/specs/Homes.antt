-- Which pages of an archive aren't written home.
use Rattle.std.specs.Prelude.{◌≡◌, ◌==◌, ℕ, List, ◌∷◌, filter, not}
use Rattle.disk_models.specs.declared.erase.EraseDisk.{Ghosts as EraseGhosts}
use Rattle.disk_models.specs.declared.once.OnceDisk.{Ghosts as OnceGhosts}
use Rattle.page_journal.specs.Journal.{closed_slots, unhomed_pages}
use Rattle.buffer_pool.specs.Pool.{journal_of}
use Rattle.page_tx.specs.Tx.{pool_of}
use Rattle.disk_archive.specs.declared.archive.Archive.{Archive}

-- the numbers of its pages that were committed and aren't home, the one that has waited longest first
abbrev pub dirty_pages : {E O Pen Seen : Type 0} {erase : EraseGhosts E} {once : OnceGhosts O Pen Seen} → Archive E O Pen Seen erase once → List ℕ
dirty_pages a = unhomed_pages (journal_of (pool_of a.tx))

-- how many of its journal's eight slots are closed
abbrev pub closed_in : {E O Pen Seen : Type 0} {erase : EraseGhosts E} {once : OnceGhosts O Pen Seen} → Archive E O Pen Seen erase once → ℕ
closed_in a = closed_slots (journal_of (pool_of a.tx))

-- Of the pages that weren't home, the one that had waited longest is, and the others wait as before.
pub record IsHomed (old new : List ℕ) : Type 0 where
  pub first : ℕ
  pub others : List ℕ
  pub was : old ≡ first ∷ others
  pub left : new ≡ filter (λ n. not (n == first)) old
