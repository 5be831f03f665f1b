-- As many pages are shown as there are.
use Rattle.std.proofs.Common.{◌≡◌, ℕ, List, [], ◌∷◌, length, set, ◌∙◌, ap, refl, length-set}
use Rattle.disk_models.specs.declared.erase.EraseDisk.{Ghosts}
use Rattle.page_journal.specs.Journal.{home_pages}
use Rattle.page_journal.specs.Layout.{Image}
use Rattle.page_journal.specs.Recovers.{laid}
use Rattle.page_journal.proofs.api.Kept.{kept_length}
use Rattle.buffer_pool.specs.Pool.{journal_of}
use Rattle.page_tx.specs.Start.{Start}
use Rattle.page_tx.specs.Tx.{Shows, pool_of}
use Rattle.page_tx.specs.declared.tx.Tx.{Tx}

-- images change no page's number
pub length_laid : (images : List Image) (pages : List (List ℕ)) → length (laid images pages) ≡ length pages
length_laid [] pages = refl
length_laid (image ∷ rest) pages = length_laid rest (set pages image.0 image.1) ∙ length-set pages image.0 image.1

-- as many pages are shown as the journal has home pages
pub shows_count : {D : Type 0} {device : Ghosts D} (tx : Tx D device) (start : Start) (shown : List (List ℕ)) → Shows device tx start shown → length shown ≡ home_pages (journal_of (pool_of tx))
shows_count {device = device} tx start shown s = ap length s.over ∙ length_laid tx.images.items start.pages ∙ kept_length device (journal_of tx.pool) start.pages s.maps.keeps
