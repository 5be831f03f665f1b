-- What is true of pages that are only looked at.
use Rattle.std.proofs.Common.{◌≡◌, ◌≤◌, ℕ, List, length, ◌∙◌, ap, arith}
use Rattle.disk_models.specs.declared.erase.EraseDisk.{Ghosts}
use Rattle.page_journal.specs.Journal.{home_pages}
use Rattle.page_journal.proofs.api.Kept.{kept_length}
use Rattle.buffer_pool.specs.Pool.{journal_of}
use Rattle.page_tx.specs.Start.{Start}
use Rattle.disk_archive.specs.declared.looks.Looks.{Looks}
use Rattle.disk_archive.specs.inner.Looking.{LooksAt}

-- as many pages are shown as the journal has home pages
pub looks_count : {E : Type 0} {device : Ghosts E} (looks : Looks E device) (start : Start) (shown : List (List ℕ)) → LooksAt device looks start shown → length shown ≡ home_pages (journal_of looks.pool)
looks_count {device = device} looks start shown s = ap length s.same ∙ kept_length device (journal_of looks.pool) start.pages s.maps.keeps

-- no number is above itself
pub none_above : (n : ℕ) → n ≤ n
none_above n = omega arith

pub few_none : 0 ≤ 31
few_none = omega arith
