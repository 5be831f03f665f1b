-- What an archive on disks represents, and what its errands rely on, as threads use it.
use Rattle.std.specs.Prelude.{ℕ, List, Option}
use Rattle.std.proofs.Common.{inl, inr}
use Rattle.disk_models.specs.declared.erase.EraseDisk.{Ghosts as EraseGhosts}
use Rattle.disk_models.specs.declared.once.OnceDisk.{Ghosts as OnceGhosts}
use Rattle.route_meaning.specs.History.{History, IsHistory, Begins}
use Rattle.route_meaning.proofs.api.Beginning.{Begins-trans}
use Rattle.board.specs.Past.{Past}
use Rattle.query_threads.specs.Looks.{AreTheSettled}
use Rattle.disk_archive.specs.declared.archive.Archive.{Archive}
use Rattle.disk_archive.specs.declared.cursor.Cursor.{Cursor}
use Rattle.disk_archive.specs.declared.errand.Errand.{Errand}
use Rattle.disk_archive.specs.Archives.{GoesOn, once_of, once_state, settings_of}
use Rattle.route_history.specs.declared.changed.ChangedCursor.{ChangedCursor}
use Rattle.disk_archive.specs.Cursors.{IsGathered, IsWalked}
use Rattle.disk_archive.specs.Descents.{Located}

-- The archive goes on with the past's history, or waits to be opened again with it; and exactly the past's blocks are settled on its
-- disk.
pub record RepresentsPast {E O Pen Seen : Type 0} {erase : EraseGhosts E} {once : OnceGhosts O Pen Seen} (a : Archive E O Pen Seen erase once) (p : Past) : Type 0 where
  pub goes_on : GoesOn a p.history
  pub blocks : AreTheSettled (once.block_count (once_of a)) (once_state a).settled p.blocks

-- how many pages each ring has
abbrev pub ring_pages : {E O Pen Seen : Type 0} {erase : EraseGhosts E} {once : OnceGhosts O Pen Seen} → Archive E O Pen Seen erase once → ℕ
ring_pages a = (settings_of a).ring

-- the errand lies in the past's blocks, on a disk of `count` blocks, for the past's history
abbrev pub LocatedInPast : (count : ℕ) (errand : Errand) (c : Cursor) (p : Past) → Type 0
LocatedInPast count errand c p = (known : ℕ → Option (List ℕ)) → AreTheSettled count known p.blocks → Located count known errand c p.history

-- a history with which an archive goes on is right
abbrev pub right_going : {E O Pen Seen : Type 0} {erase : EraseGhosts E} {once : OnceGhosts O Pen Seen} (a : Archive E O Pen Seen erase once) (h : History) → GoesOn a h → IsHistory h
right_going a h (inl represents) = represents.head_represents.right
right_going a h (inr waits) = waits.reported.right

-- what a question has gathered over a history holds over each later one
abbrev pub gathered_on : (c : Cursor) (h g : History) → Begins h g → IsGathered c h → IsGathered c g
gathered_on c h g begins gathered = λ k right on. gathered k right (Begins-trans h g k begins on)

-- and so it is for a walk over what changed
abbrev pub walked_on : (c : ChangedCursor) (h g : History) → Begins h g → IsWalked c h → IsWalked c g
walked_on c h g begins walked = λ k right on. walked k right (Begins-trans h g k begins on)
