-- What is to be committed when a change is applied, and why it isn't.
use Rattle.std.specs.Prelude.{◌≡◌, ◌↔◌, ◌⊎◌, ◌<◌, ◌≤◌, ◌+◌, ◌++◌, ◌∷◌, ⊤, ℕ, suc, List, length, min, Bool, true, false}
use Rattle.disk_models.specs.declared.once.OnceDisk.{Ghosts as OnceGhosts}
use Rattle.disk_models.specs.Once.{Grows}
use Rattle.once_store.specs.declared.shelf.Shelf.{Shelf}
use Rattle.once_store.specs.Shelves.{AllTried, disk_of, pen_of, next_of}
use Rattle.route_model.specs.Admission.{Admitted}
use Rattle.route_meaning.specs.Merged.{Placed, placed}
use Rattle.route_meaning.specs.History.{History, IsBelowMarks, waiting}
use Rattle.sequencer.specs.Lanes.{Waiting}
use Rattle.sequencer.specs.First.{IsNext}
use Rattle.sequencer.specs.Ahead.{beyond}
use Rattle.interleaving_core.specs.Steps.{moved}
use Rattle.version_model.specs.Versions.{Version}
use Rattle.route_history.specs.Kept.{AreVersions}
use Rattle.route_history.specs.Stamps.{stamp_of}
use Rattle.tsb_tree.specs.Shelves.{SpendsAtMost}
use Rattle.archive_head.specs.Head.{Contents}
use Rattle.archive_head.specs.declared.lane.Lane.{Lane}
use Rattle.archive_pages.specs.declared.settings.Settings.{Settings}
use Rattle.archive_pages.specs.Places.{ChangesFrom, tree_low}
use Rattle.archive_pages.specs.Represented.{HeadRepresents, last_time}
use Rattle.archive_pages.specs.Changes.{next_change}
use Rattle.archive_pages.specs.Batches.{CanPop, HasLane}
use Rattle.disk_archive.specs.declared.apply_error.ApplyError.{ApplyError}
use Rattle.disk_archive.specs.declared.apply_error.ApplyError.TheVariants as applies
use Rattle.disk_archive.specs.declared.change_error.ChangeError.{ChangeError}
use Rattle.disk_archive.specs.declared.change_error.ChangeError.TheVariants as changes
use Rattle.page_journal.specs.declared.error.UseError.{UseError}
use Rattle.page_journal.specs.declared.error.UseError.TheVariants as uses
use Rattle.disk_archive.specs.declared.stop.Stop.{Stop}
use Rattle.disk_archive.specs.declared.stop.Stop.TheVariants as stops
use Rattle.disk_archive.specs.declared.planning_changes.Front.{Front}
use Rattle.disk_archive.specs.declared.planning_changes.Plan.{Plan}
use Rattle.disk_archive.specs.declared.planning_changes.Application.{Application}
use Rattle.disk_archive.specs.Lacks.{NeedsBlock, LacksLevel, LacksPages}
use Rattle.disk_archive.specs.Mirrors.{Mirrors}
use Rattle.disk_archive.specs.Trees.{TreeLocated}
use Rattle.disk_archive.specs.Moves.{Moves}
use Rattle.disk_archive.specs.inner.Planning.{Planned}

-- a refusal of the commit, as it is reported for a change
abbrev pub apply_of_use : UseError → ApplyError
apply_of_use uses.Fault = applies.Fault
apply_of_use uses.NeedsRecovery = applies.NeedsRecovery

-- why no further change is planned after a refusal
abbrev pub stop_of : ApplyError → Stop
stop_of applies.Fault = stops.Failed
stop_of applies.NeedsRecovery = stops.Enough
stop_of applies.CounterFull = stops.Enough
stop_of applies.TooHigh = stops.Enough
stop_of applies.PagesFull = stops.Enough
stop_of applies.OnceFull = stops.Enough
stop_of (applies.BadNode page) = stops.Enough
stop_of applies.OutOfMemory = stops.Enough

-- the same after a change wasn't planned
abbrev pub stop_of_change : ChangeError → Stop
stop_of_change changes.NoRoom = stops.Enough
stop_of_change (changes.Apply refusal) = stop_of refusal

-- this holds of why the change isn't applied, if images for it have room
abbrev pub OfApply : (ApplyError → Type 0) → ChangeError → Type 0
OfApply fact changes.NoRoom = ⊤
OfApply fact (changes.Apply refusal) = fact refusal

-- that the archive must be opened again is reported only if it must
abbrev pub ApplyRefusal : Bool → ApplyError → Type 0
ApplyRefusal down applies.NeedsRecovery = down ≡ true
ApplyRefusal down applies.CounterFull = ⊤
ApplyRefusal down applies.TooHigh = ⊤
ApplyRefusal down applies.PagesFull = ⊤
ApplyRefusal down applies.OnceFull = ⊤
ApplyRefusal down (applies.BadNode page) = ⊤
ApplyRefusal down applies.Fault = ⊤
ApplyRefusal down applies.OutOfMemory = ⊤

-- A count is reported as full only if `count` changes are the most that can be counted, and the pages only if fewer were never used
-- than a tree of the highest level may need for a version; `next` is the first of those among `homes` home pages.
abbrev pub LimitRefusal : ℕ → ℕ → ℕ → ApplyError → Type 0
LimitRefusal homes next count applies.NeedsRecovery = ⊤
LimitRefusal homes next count applies.CounterFull = count ≡ 18446744073709551615
LimitRefusal homes next count applies.TooHigh = ⊤
LimitRefusal homes next count applies.PagesFull = homes < next + 9
LimitRefusal homes next count applies.OnceFull = ⊤
LimitRefusal homes next count (applies.BadNode page) = ⊤
LimitRefusal homes next count applies.Fault = ⊤
LimitRefusal homes next count applies.OutOfMemory = ⊤

-- the reasons for which the first admission that waits isn't read
abbrev pub FrontRefusal : Bool → ApplyError → Type 0
FrontRefusal down applies.NeedsRecovery = down ≡ true
FrontRefusal down applies.CounterFull = ⊥
FrontRefusal down applies.TooHigh = ⊥
FrontRefusal down applies.PagesFull = ⊥
FrontRefusal down applies.OnceFull = ⊥
FrontRefusal down (applies.BadNode page) = ⊤
FrontRefusal down applies.Fault = ⊤
FrontRefusal down applies.OutOfMemory = ⊤

-- Pages, a level or a block are refused only if the version of which this holds needs more than there are.
abbrev pub LackRefusal : (Version → Type 0) → List (List ℕ) → ℕ → ℕ → ApplyError → Type 0
LackRefusal is shown left root applies.NeedsRecovery = ⊤
LackRefusal is shown left root applies.CounterFull = ⊤
LackRefusal is shown left root applies.TooHigh = LacksLevel is shown root
LackRefusal is shown left root applies.PagesFull = LacksPages is shown left root
LackRefusal is shown left root applies.OnceFull = NeedsBlock is shown root
LackRefusal is shown left root (applies.BadNode page) = ⊤
LackRefusal is shown left root applies.Fault = ⊤
LackRefusal is shown left root applies.OutOfMemory = ⊤

-- The shelf still has its disk, which follows its model as before; what is tried or settled stays so, at most `most` blocks are spent, and
-- the next number doesn't fall. If the disk is reported to be full, no blank block is left.
pub record KeepsBlocks {O Pen Seen : Type 0} (device : OnceGhosts O Pen Seen) (most : ℕ) (old new : Shelf O Pen Seen) (full : Type 0) : Type 0 where
  pub disk : disk_of new ≡ disk_of old
  pub honest : device.honest (disk_of old) (pen_of old) ↔ device.honest (disk_of new) (pen_of new)
  pub forward : next_of old ≤ next_of new
  pub grows : device.honest (disk_of old) (pen_of old) → Grows (device.model (pen_of old)) (device.model (pen_of new))
  pub spends : device.honest (disk_of old) (pen_of old) → SpendsAtMost most (device.model (pen_of old)) (device.model (pen_of new))
  pub none_left : device.honest (disk_of old) (pen_of old) → full → AllTried (device.model (pen_of new)) (next_of new) (device.block_count (disk_of old))

-- Pages are shown on which the tree lies there and represents these versions, and no page before its own is changed.
pub record TreeTakes (count : ℕ) (settled : ℕ → List ℕ → Type 0) (shows : List (List ℕ) → Type 0) (low root fresh block next_stamp : ℕ) (versions : List Version) (old : List (List ℕ)) : Type 0 where
  pub pages : List (List ℕ)
  pub shown : shows pages
  pub changes : ChangesFrom low old pages
  pub tree : TreeLocated count pages settled low root fresh block next_stamp versions

-- Pages are shown on which the tree lies there and took the version of the next change, if the admission has one.
pub record TakesNext (count : ℕ) (s : Settings) (settled : ℕ → List ℕ → Type 0) (shows : List (List ℕ) → Type 0) (head : Contents) (next : Placed Admitted) (root fresh block : ℕ) (before : List Version) (old : List (List ℕ)) : Type 0 where
  pub more : List Version
  pub versions : AreVersions head.applied (next_change head.begun next) more
  pub takes : TreeTakes count settled shows (tree_low s) root fresh block (stamp_of (last_time head.last (next_change head.begun next)) (head.applied + length (next_change head.begun next))) (before ++ more) old

-- The history moves on: pages are shown that represent it then, and `whole` is true if the first pending admission is wholly applied.
-- Until then no other one is begun.
pub record MovesOn (count : ℕ) (s : Settings) (settled : ℕ → List ℕ → Type 0) (shows : List (List ℕ) → Type 0) (head : Contents) (whole : Bool) (h : History) : Type 0 where
  pub after : History
  pub moves : Moves h after
  pub stays : whole ≡ false → (some : ℕ) × (after ≡ moved h h.whole some)
  pub leaves : whole ≡ true → after ≡ moved h (suc h.whole) 0
  pub pages : List (List ℕ)
  pub shown : shows pages
  pub head_represents : HeadRepresents (TreeLocated count) s settled head pages after

-- ---- several changes

-- In memory an admission is at hand: its collector is the next one of these lanes, and its ring can lose it.
pub record IsAtHand (s : Settings) (head : Contents) (lanes : List Waiting) (front : Front) : Type 0 where
  pub next : IsNext lanes front.collector
  pub inside : front.collector < length head.lanes
  pub fits : (lane : Lane) → HasLane head front.collector lane → CanPop s front.collector lane front.admission

-- the history's first admission that waits is this one, and it is below every mark
pub record IsFirst (h : History) (front : Front) : Type 0 where
  pub later : List (Placed Admitted)
  pub here : waiting h ≡ placed front.collector front.admission ∷ later
  pub below : IsBelowMarks h front.admission.time

-- What is planned goes with `homes` home pages, of which `unused` was the first that was never used, with the next block, and with these
-- lanes: its admission is at hand, if that isn't wholly applied.
pub record IsPlan (s : Settings) (homes unused block : ℕ) (waits : List Waiting) (plan : Plan) : Type 0 where
  pub pages : unused ≡ min plan.head.fresh homes
  pub blocks : plan.head.block ≤ block
  pub lanes : length plan.head.lanes ≡ length waits
  pub count : length plan.ahead ≡ length waits
  pub hand : plan.whole ≡ false → IsAtHand s plan.head (beyond plan.ahead waits) plan.front

-- Pages are shown that represent the history with the head of what is planned. The lanes, after what it passes over, are those of the history,
-- and the admission at hand is the first that waits, if it isn't wholly applied.
pub record Reached (count : ℕ) (s : Settings) (settled : ℕ → List ℕ → Type 0) (shows : List (List ℕ) → Type 0) (lanes : List Waiting) (plan : Plan) (h : History) : Type 0 where
  pub pages : List (List ℕ)
  pub shown : shows pages
  pub head_represents : HeadRepresents (TreeLocated count) s settled plan.head pages h
  pub mirrors : Mirrors (beyond plan.ahead lanes) h
  pub first : plan.whole ≡ false → IsFirst h plan.front

-- the same of a history to which this one moves
pub record Advances (count : ℕ) (s : Settings) (settled : ℕ → List ℕ → Type 0) (shows : List (List ℕ) → Type 0) (lanes : List Waiting) (plan : Plan) (h : History) : Type 0 where
  pub after : History
  pub moves : Moves h after
  pub reached : Reached count s settled shows lanes plan after

-- the same of this history, or of one to which it moves
pub record Reaches (count : ℕ) (s : Settings) (settled : ℕ → List ℕ → Type 0) (shows : List (List ℕ) → Type 0) (lanes : List Waiting) (plan : Plan) (h : History) : Type 0 where
  pub after : History
  pub is : (after ≡ h) ⊎ Moves h after
  pub reached : Reached count s settled shows lanes plan after

-- The history moves on: pages are shown that represent it then, with the head on its page, and the lanes after what is passed over are its own.
pub record PlansMove (count : ℕ) (s : Settings) (settled : ℕ → List ℕ → Type 0) (shows : List (List ℕ) → Type 0) (lanes : List Waiting) (plan : Application) (h : History) : Type 0 where
  pub after : History
  pub moves : Moves h after
  pub planned : Planned count s settled shows plan.head after
  pub mirrors : Mirrors (beyond plan.ahead lanes) after
