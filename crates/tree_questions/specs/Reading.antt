-- A tree that is there to be read.
use Rattle.std.specs.Prelude.{ℕ, ◌≤◌, List}
use Rattle.disk_models.specs.declared.once.OnceDisk.{Ghosts as OnceGhosts}
use Rattle.once_store.specs.declared.reader.ShelfReader.{ShelfReader}
use Rattle.once_store.specs.Readers.{reader_disk}
use Rattle.page_tx.specs.declared.pages.Pages.{Ghosts}
use Rattle.page_tx.specs.Start.{Start}
use Rattle.tsb_walk.specs.declared.page_place.PagePlace.{PagePlace}
use Rattle.tsb_walk.specs.Knowing.{ReadsWell, AreKnown}
use Rattle.tsb_walk.specs.Shown.{RepresentsShown}
use Rattle.version_model.specs.Pages.{Store}
use Rattle.version_model.specs.Versions.{Version, IsRising}

-- The pages of a transaction show a tree whose root is at this place. It represents these versions, whose stamps rise, by those pages and
-- by blocks that are known to a reader, which reads well. It names no block from the first on that was never burnt.
pub record ReadsTree {P : Type 0} (pages : Ghosts P) (held : P) {O Pen Seen : Type 0} (device : OnceGhosts O Pen Seen) (reader : ShelfReader O Pen Seen device) (seen : Seen) (root : PagePlace) (burnt : ℕ) (all : List Version) : Type 0 where
  pub start : Start
  pub shown : List (List ℕ)
  pub shows : pages.shows held start shown
  pub store : Store
  pub represents_all : RepresentsShown shown store all root
  pub named : store.next ≤ burnt
  pub rising : IsRising all
  pub well : ReadsWell device reader seen
  pub known : AreKnown (device.known seen) (device.block_count (reader_disk reader)) store.blocks
