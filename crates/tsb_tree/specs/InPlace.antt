-- Versions that a leaf takes in place.
use Rattle.std.specs.Prelude.{◌≡◌, ℕ, ◌≤◌, List, None, length}
use Rattle.once_store.specs.declared.shelf.Shelf.{Shelf}
use Rattle.page_tx.specs.declared.pages.Pages.{Ghosts}
use Rattle.page_tx.specs.Images.{joined}
use Rattle.tsb_tree.specs.declared.change.Change.{Change}
use Rattle.tsb_tree.specs.declared.tree.TreePlace.{TreePlace}

-- one image at most is laid, no page is used that never was before, and nothing became two
pub record IsInPlace (next : ℕ) (change : Change) : Type 0 where
  pub few : length change.images.items ≤ 1
  pub unused : change.unused ≡ next
  pub new : change.new ≡ None

-- The image of one page at most is held besides, no page is used that never was before, the shelf is as it was, and the tree lies where it
-- lay.
pub record TakesInPlace {P : Type 0} (pages : Ghosts P) (old new : P) {O Pen Seen : Type 0} (before after : Shelf O Pen Seen) (place now : TreePlace) : Type 0 where
  pub named : (ns : List ℕ) × (length ns ≤ 1) × (pages.named new ≡ joined (pages.named old) ns)
  pub next : pages.next new ≡ pages.next old
  pub shelf : after ≡ before
  pub root : now.root ≡ place.root
  pub level : now.level ≡ place.level
