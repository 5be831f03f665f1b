-- Pages that are looked at stay so.
use Rattle.std.proofs.Common.{◌≡◌, ℕ, suc, List, [], ◌∷◌, length, ◌∙◌, ap, refl}
use Rattle.disk_models.specs.declared.erase.EraseDisk.{Ghosts}
use Rattle.page_journal.specs.Bookkeeping.{without}
use Rattle.page_journal.specs.Layout.{Image, pages_of}
use Rattle.page_journal.specs.Journal.{disk_of, note_of}
use Rattle.buffer_pool.specs.Pool.{Maps, journal_of}
use Rattle.page_tx.specs.Start.{Start}
use Rattle.disk_archive.specs.declared.looks.Looks.{Looks}
use Rattle.disk_archive.specs.inner.Looking.{LooksAt}

-- where no image is held, each is one more
pub all_new : (images : List Image) → length (without [] (pages_of images)) ≡ length images
all_new [] = refl
all_new (image ∷ rest) = ap suc (all_new rest)

-- after a read
pub looks_still : {E : Type 0} (device : Ghosts E) (old new : Looks E device) (start : Start) (shown : List (List ℕ)) → LooksAt device old start shown → device.honest (disk_of (journal_of new.pool)) → Maps device new.pool start.pages
    → note_of (journal_of new.pool) ≡ note_of (journal_of old.pool) → LooksAt device new start shown
looks_still device old new start shown s honest maps note = record { honest = honest; maps = maps; noted = note ∙ s.noted; same = s.same }
