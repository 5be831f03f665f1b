-- What a question is answered from, and why it isn't.
use Rattle.std.specs.Prelude.{◌≡◌, ⊤, ℕ, List, Bool, true, Option, Some}
use Rattle.disk_models.specs.declared.once.OnceDisk.{Ghosts as OnceGhosts}
use Rattle.once_store.specs.declared.reader.ShelfReader.{ShelfReader}
use Rattle.once_store.specs.Readers.{reader_disk}
use Rattle.page_tx.specs.declared.pages.Pages.{Ghosts}
use Rattle.page_tx.specs.Start.{Start}
use Rattle.route_model.specs.Admission.{Admitted}
use Rattle.route_meaning.specs.Holds.{time_of}
use Rattle.route_meaning.specs.Merged.{Placed, IsRising}
use Rattle.route_history.specs.Kept.{HaveVersions}
use Rattle.tsb_walk.specs.declared.error.NodeError.{NodeError}
use Rattle.tsb_walk.specs.declared.error.NodeError.TheVariants as nodes
use Rattle.tsb_walk.specs.Knowing.{ReadsWell}
use Rattle.version_model.specs.Versions.{Version}
use Rattle.disk_archive.specs.declared.ask_error.AskError.{AskError}
use Rattle.disk_archive.specs.declared.ask_error.AskError.TheVariants as asks
use Rattle.disk_archive.specs.Trees.{TreeLocated}

-- a refusal of a look, as it is reported for a question
abbrev pub ask_of_node : NodeError → AskError
ask_of_node (nodes.BadNode page) = asks.BadNode page
ask_of_node (nodes.Damaged block) = asks.Damaged block
ask_of_node nodes.Fault = asks.Fault
ask_of_node nodes.OnceFault = asks.Fault
ask_of_node nodes.NeedsRecovery = asks.NeedsRecovery
ask_of_node nodes.OutOfMemory = asks.OutOfMemory

-- that the archive must be opened again is reported only if it must; no look reports the watermark
abbrev pub LookRefusal : Bool → AskError → Type 0
LookRefusal down asks.NeedsRecovery = down ≡ true
LookRefusal down (asks.AboveWatermark mark) = ⊥
LookRefusal down (asks.BadNode page) = ⊤
LookRefusal down (asks.Damaged block) = ⊤
LookRefusal down asks.Fault = ⊤
LookRefusal down asks.OutOfMemory = ⊤

-- no page and no block is reported as damaged
abbrev pub BlamesNone : AskError → Type 0
BlamesNone asks.NeedsRecovery = ⊤
BlamesNone (asks.AboveWatermark mark) = ⊤
BlamesNone (asks.BadNode page) = ⊥
BlamesNone (asks.Damaged block) = ⊥
BlamesNone asks.Fault = ⊤
BlamesNone asks.OutOfMemory = ⊤

-- what is known of blocks, as what is settled
abbrev pub known_in : (ℕ → Option (List ℕ)) → ℕ → List ℕ → Type 0
known_in known n octets = known n ≡ Some octets

-- On the pages of a transaction, and in the blocks that a reader knows, a tree lies with this root, which uses no page and no block from
-- these on. It represents the versions of these admissions' changes, whose times never fall.
pub record HasTree {P : Type 0} (pages : Ghosts P) (held : P) {O Pen Seen : Type 0} (device : OnceGhosts O Pen Seen) (reader : ShelfReader O Pen Seen device) (seen : Seen) (root fresh block : ℕ) (ps : List (Placed Admitted)) : Type 0 where
  pub start : Start
  pub shown : List (List ℕ)
  pub shows : pages.shows held start shown
  pub well : ReadsWell device reader seen
  pub low : ℕ
  pub stamp : ℕ
  pub versions : List Version
  pub located : TreeLocated (device.block_count (reader_disk reader)) shown (known_in (device.known seen)) low root fresh block stamp versions
  pub timely : IsRising time_of ps
  pub kept : HaveVersions ps versions
