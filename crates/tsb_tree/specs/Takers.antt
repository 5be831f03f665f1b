-- Nodes that can take a version.
use Rattle.std.specs.Prelude.{ℕ, ◌+◌, ◌<◌, List}
use Rattle.disk_models.specs.declared.once.OnceDisk.{Ghosts as OnceGhosts}
use Rattle.once_store.specs.declared.shelf.Shelf.{Shelf}
use Rattle.page_tx.specs.declared.pages.Pages.{Ghosts}
use Rattle.page_tx.specs.Start.{Start}
use Rattle.tsb_walk.specs.declared.page_place.PagePlace.{PagePlace}
use Rattle.tsb_walk.specs.Shown.{keys_at}
use Rattle.version_model.specs.Versions.{Version, Has, IsAbove}
use Rattle.version_model.specs.Ranges.{key_end}
use Rattle.version_model.specs.Pages.{Store, NodeRepresentsIn}
use Rattle.tsb_tree.specs.Stores.{IsStore}

-- The node at a place represents these versions in the store that the shown pages and the settled blocks represent. The version is later than all
-- of them; and the highest key of all is none of theirs, nor of the version.
pub record CanTake {P : Type 0} (pages : Ghosts P) (held : P) {O Pen Seen : Type 0} (device : OnceGhosts O Pen Seen) (shelf : Shelf O Pen Seen) (s : Store) (all : List Version) (place : PagePlace) (v : Version) : Type 0 where
  pub start : Start
  pub shown : List (List ℕ)
  pub is : IsStore pages held device shelf start shown s
  pub represents_all : NodeRepresentsIn s all place.level (keys_at place) place.page
  pub above : IsAbove all v.stamp
  pub bounded : (w : Version) → Has all w → w.key + 1 < key_end
  pub inside : v.key + 1 < key_end
