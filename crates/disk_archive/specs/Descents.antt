-- What a turn of a question gives over an archive, and what an errand needs.
use Rattle.std.specs.Prelude.{◌≡◌, ◌<◌, ⊤, ℕ, List, Option, Some}
use Rattle.disk_models.specs.declared.once.OnceDisk.{Ghosts}
use Rattle.once_store.specs.declared.reader.ShelfReader.{ShelfReader}
use Rattle.once_store.specs.Readers.{reader_disk}
use Rattle.route_meaning.specs.History.{History, IsHistory, applied, settled}
use Rattle.interleaving_core.specs.Does.{last_moment}
use Rattle.interleaving_core.specs.Headline.{IsAnswered}
use Rattle.route_history.specs.EventTurns.{IsEventsErrandOf, BothRepresent}
use Rattle.route_history.specs.Kept.{HaveVersions}
use Rattle.route_history.specs.RowTurns.{IsErrandOf}
use Rattle.route_history.specs.Walks.{Rose, NotBack}
use Rattle.tsb_walk.specs.Looked.{PartsBelow}
use Rattle.tsb_walk.specs.Knowing.{ReadsWell}
use Rattle.version_model.specs.Blocks.{BlockNode, PlaceRepresents}
use Rattle.version_model.specs.Versions.{Version}
use Rattle.disk_archive.specs.Trees.{IsBlock}
use Rattle.disk_archive.specs.Cursors.{asks, walked_to, IsGathered}
use Rattle.disk_archive.specs.declared.cursor.Cursor.{Cursor}
use Rattle.disk_archive.specs.declared.cursor.Cursor.TheVariants.{Rows, Events}
use Rattle.disk_archive.specs.declared.errand.Errand.{Errand}
use Rattle.disk_archive.specs.declared.errand.Errand.TheVariants as errands
use Rattle.disk_archive.specs.declared.descending.Descent.{Descent}
use Rattle.disk_archive.specs.declared.descending.Descent.TheVariants.{Done, Again, Historical}

-- the cursor is as the turn left it that gave the errand
abbrev pub IsErrandFor : Cursor → Errand → Type 0
IsErrandFor (Rows c) (errands.Rows errand) = IsErrandOf c errand
IsErrandFor (Rows c) (errands.Events errand) = ⊥
IsErrandFor (Events c) (errands.Rows errand) = ⊥
IsErrandFor (Events c) (errands.Events errand) = IsEventsErrandOf c errand

-- the places of the errand represent these versions by these blocks
abbrev pub PlacesRepresent : (ℕ → Option BlockNode) → List Version → Cursor → Errand → Type 0
PlacesRepresent blocks all (Rows c) (errands.Rows errand) = PlaceRepresents blocks all errand.place
PlacesRepresent blocks all (Rows c) (errands.Events errand) = ⊥
PlacesRepresent blocks all (Events c) (errands.Rows errand) = ⊥
PlacesRepresent blocks all (Events c) (errands.Events errand) = BothRepresent blocks all c errand

-- the block is settled with these octets, by what is known of blocks
abbrev pub is_known : (ℕ → Option (List ℕ)) → ℕ → List ℕ → Type 0
is_known known n octets = known n ≡ Some octets

-- On a disk of `count` blocks, of which these are known to be settled, the errand of the cursor lies: it is the cursor of a question of a
-- moment that is settled in this history, over which it has gathered so far; and its places represent, by those blocks, versions of what
-- is applied.
pub record Located (count : ℕ) (known : ℕ → Option (List ℕ)) (errand : Errand) (c : Cursor) (h : History) : Type 0 where
  pub right : IsHistory h
  pub below : last_moment (asks c) < settled h
  pub gathered : IsGathered c h
  pub versions : List Version
  pub kept : HaveVersions (applied h) versions
  pub represents_node : ℕ → Option BlockNode
  pub are : (n : ℕ) (node : BlockNode) → represents_node n ≡ Some node → IsBlock count (is_known known) n node
  pub represents_all : PlacesRepresent represents_node versions c errand

-- a reader reads well, and the errand lies in the blocks that it knows
pub record LocatedKnown {O Pen Seen : Type 0} (device : Ghosts O Pen Seen) (reader : ShelfReader O Pen Seen device) (seen : Seen) (errand : Errand) (c : Cursor) (h : History) : Type 0 where
  pub well : ReadsWell device reader seen
  pub located : Located (device.block_count (reader_disk reader)) (device.known seen) errand c h

-- What a turn over a history returns, from one cursor to the next: the whole answer; or that the walk goes on; or an errand of the next
-- cursor, which lies in these settled blocks of a disk of `count` blocks.
abbrev pub Descends : ℕ → (ℕ → Option (List ℕ)) → History → Cursor → Cursor → Descent → Type 0
Descends count known h c d (Done answer) = IsAnswered (applied h) (asks c) answer
Descends count known h c d Again = ⊤
Descends count known h c d (Historical errand) = Located count known errand d h

-- Whatever the archive represents: if the walk goes on it has come further, and an errand is of the next cursor, whose walk hasn't gone back.
abbrev pub GoesFurther : Cursor → Cursor → Descent → Type 0
GoesFurther c d (Done answer) = ⊤
GoesFurther c d Again = Rose (walked_to c) (walked_to d)
GoesFurther c d (Historical errand) = NotBack (walked_to c) (walked_to d) × IsErrandFor d errand

-- the blocks at which an errand begins are below this number
abbrev pub ReadsBelow : ℕ → Descent → Type 0
ReadsBelow burnt (Done answer) = ⊤
ReadsBelow burnt Again = ⊤
ReadsBelow burnt (Historical (errands.Rows errand)) = errand.place.part.block < burnt
ReadsBelow burnt (Historical (errands.Events errand)) = PartsBelow burnt errand.route × PartsBelow burnt errand.session
