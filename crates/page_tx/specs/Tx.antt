-- The terms of contracts on a transaction.
use Rattle.std.specs.Prelude.{◌≡◌, ◌⊎◌, ℕ, List}
use Rattle.disk_models.specs.declared.erase.EraseDisk.{Ghosts}
use Rattle.page_journal.specs.Journal.{disk_of, note_of}
use Rattle.page_journal.specs.Layout.{pages_of}
use Rattle.page_journal.specs.Recovers.{laid, IsListed}
use Rattle.buffer_pool.specs.declared.pool.Pool.{Pool}
use Rattle.buffer_pool.specs.Pool.{IsResident, Maps, journal_of}
use Rattle.page_tx.specs.Start.{Start}
use Rattle.page_tx.specs.declared.tx.Tx.{Tx}

-- its pool
abbrev pub pool_of : {D : Type 0} {device : Ghosts D} → Tx D device → Pool D device
pool_of tx = tx.pool

-- the numbers of the pages of which it has images
abbrev pub named_pages : {D : Type 0} {device : Ghosts D} → Tx D device → List ℕ
named_pages tx = pages_of tx.images.items

-- the first page that was never used, as it was given to the transaction
abbrev pub next_page : {D : Type 0} {device : Ghosts D} → Tx D device → ℕ
next_page tx = tx.next

-- an image of the page is held, or the page is in the pool's memory
abbrev pub IsThere : {D : Type 0} {device : Ghosts D} → Tx D device → ℕ → Type 0
IsThere tx n = IsListed n (named_pages tx) ⊎ IsResident tx.pool n

-- The pool represents the pages of the start, and with all images laid over them they are the pages that are shown. Since
-- the start nothing was written.
pub record Shows {D : Type 0} (device : Ghosts D) (tx : Tx D device) (start : Start) (shown : List (List ℕ)) : Type 0 where
  pub honest : device.honest (disk_of (journal_of tx.pool))
  pub maps : Maps device tx.pool start.pages
  pub noted : note_of (journal_of tx.pool) ≡ start.note
  pub clocked : (device.model (disk_of (journal_of tx.pool))).clock ≡ start.clock
  pub over : shown ≡ laid tx.images.items start.pages
