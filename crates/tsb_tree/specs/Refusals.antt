-- Why a tree refuses.
use Rattle.std.specs.Prelude.{◌≡◌, ℕ, suc, ◌+◌, ◌*◌, ◌≤◌, ◌<◌, Bool, true, false, Result, Ok, Err}
use Rattle.once_store.specs.declared.error.AppendError.TheVariants as appends
use Rattle.page_tx.specs.declared.error.PageError.{PageError}
use Rattle.page_tx.specs.declared.error.PageError.TheVariants as pages
use Rattle.tsb_node.specs.declared.leaf_part.ReadFault.{ReadFault}
use Rattle.tsb_node.specs.declared.leaf_part.ReadFault.TheVariants as faults
use Rattle.tsb_walk.specs.declared.error.NodeError.{NodeError}
use Rattle.tsb_walk.specs.declared.error.NodeError.TheVariants as walks
use Rattle.worm_migration.specs.declared.error.MigrationError.{MigrationError}
use Rattle.worm_migration.specs.declared.error.MigrationError.TheVariants as migrations
use Rattle.tsb_tree.specs.declared.error.TreeError.{TreeError}
use Rattle.tsb_tree.specs.declared.error.TreeError.TheVariants as errors

-- an error of the pages, as the tree reports it
abbrev pub of_page : PageError → TreeError
of_page pages.OutOfMemory = errors.OutOfMemory
of_page pages.Fault = errors.Pages pages.Fault
of_page pages.NeedsRecovery = errors.Pages pages.NeedsRecovery
of_page pages.TooManyImages = errors.Pages pages.TooManyImages
of_page pages.PagesFull = errors.Pages pages.PagesFull

-- an error of a walk, as the tree reports it
abbrev pub of_node : NodeError → TreeError
of_node (walks.BadNode page) = errors.BadNode page
of_node (walks.Damaged block) = errors.Damaged block
of_node walks.Fault = errors.Pages pages.Fault
of_node walks.OnceFault = errors.Once appends.Fault
of_node walks.NeedsRecovery = errors.Pages pages.NeedsRecovery
of_node walks.OutOfMemory = errors.OutOfMemory

-- an error of moving a node into a block, as the tree reports it
abbrev pub of_migration : MigrationError → TreeError
of_migration migrations.Fault = errors.Once appends.Fault
of_migration migrations.OnceFull = errors.Once appends.OnceFull
of_migration migrations.OutOfMemory = errors.OutOfMemory

-- an error of reading the node in a page, as the tree reports it
abbrev pub of_fault : ReadFault → ℕ → TreeError
of_fault faults.NotANode page = errors.BadNode page
of_fault faults.Memory page = errors.OutOfMemory

-- no page and no block is blamed
abbrev pub BlamesNone : TreeError → Type 0
BlamesNone (errors.BadNode page) = ⊥
BlamesNone (errors.Damaged block) = ⊥
BlamesNone errors.StampBack = Unit {0}
BlamesNone errors.TooHigh = Unit {0}
BlamesNone (errors.Pages refusal) = Unit {0}
BlamesNone (errors.Once refusal) = Unit {0}
BlamesNone errors.OutOfMemory = Unit {0}

-- no page and no block is blamed
abbrev pub IsHonest : {T : Type 0} → Result T TreeError → Type 0
IsHonest (Ok x) = Unit {0}
IsHonest (Err error) = BlamesNone error

-- the reasons for which no tree is made in `homes` pages, of which `next` was the first that was never used, with images of `named` pages held
abbrev pub CreateRefusal : ℕ → ℕ → ℕ → TreeError → Type 0
CreateRefusal homes next named errors.StampBack = ⊥
CreateRefusal homes next named errors.TooHigh = ⊥
CreateRefusal homes next named (errors.BadNode page) = ⊥
CreateRefusal homes next named (errors.Damaged block) = ⊥
CreateRefusal homes next named (errors.Pages pages.PagesFull) = homes < next + 2
CreateRefusal homes next named (errors.Pages pages.TooManyImages) = (next + 2 ≤ homes) × (31 < named + 2)
CreateRefusal homes next named (errors.Pages pages.OutOfMemory) = ⊥
CreateRefusal homes next named (errors.Pages pages.Fault) = ⊥
CreateRefusal homes next named (errors.Pages pages.NeedsRecovery) = ⊥
CreateRefusal homes next named (errors.Once refusal) = ⊥
CreateRefusal homes next named errors.OutOfMemory = next + 2 ≤ homes

-- the reasons for which a page of a tree isn't read, over a journal that must be opened again or needn't
abbrev pub ReadRefusal : Bool → TreeError → Type 0
ReadRefusal down errors.StampBack = ⊥
ReadRefusal down errors.TooHigh = ⊥
ReadRefusal down (errors.BadNode page) = Unit {0}
ReadRefusal down (errors.Damaged block) = ⊥
ReadRefusal down (errors.Pages pages.PagesFull) = ⊥
ReadRefusal down (errors.Pages pages.TooManyImages) = ⊥
ReadRefusal down (errors.Pages pages.OutOfMemory) = ⊥
ReadRefusal down (errors.Pages pages.Fault) = down ≡ false
ReadRefusal down (errors.Pages pages.NeedsRecovery) = down ≡ true
ReadRefusal down (errors.Once refusal) = ⊥
ReadRefusal down errors.OutOfMemory = Unit {0}

-- the reasons for which a column in memory doesn't grow: the shelf refuses, memory does, or its pages aren't those of a column that can take
-- the version
abbrev pub GrowRefusal : TreeError → Type 0
GrowRefusal errors.StampBack = ⊥
GrowRefusal errors.TooHigh = ⊥
GrowRefusal (errors.BadNode page) = Unit {0}
GrowRefusal (errors.Damaged block) = ⊥
GrowRefusal (errors.Pages refusal) = ⊥
GrowRefusal (errors.Once refusal) = Unit {0}
GrowRefusal errors.OutOfMemory = Unit {0}

-- the reasons for which a column isn't laid out in this many pages, of which `unused` is the next that was never used
abbrev pub LayoutRefusal : ℕ → ℕ → TreeError → Type 0
LayoutRefusal homes unused errors.StampBack = ⊥
LayoutRefusal homes unused errors.TooHigh = ⊥
LayoutRefusal homes unused (errors.BadNode page) = Unit {0}
LayoutRefusal homes unused (errors.Damaged block) = ⊥
LayoutRefusal homes unused (errors.Pages pages.PagesFull) = homes < unused + 2
LayoutRefusal homes unused (errors.Pages pages.TooManyImages) = ⊥
LayoutRefusal homes unused (errors.Pages pages.OutOfMemory) = ⊥
LayoutRefusal homes unused (errors.Pages pages.Fault) = ⊥
LayoutRefusal homes unused (errors.Pages pages.NeedsRecovery) = ⊥
LayoutRefusal homes unused (errors.Once refusal) = ⊥
LayoutRefusal homes unused errors.OutOfMemory = Unit {0}

-- the reasons for which nothing of a column becomes a block: the shelf refuses, or memory does
abbrev pub BurnRefusal : TreeError → Type 0
BurnRefusal errors.StampBack = ⊥
BurnRefusal errors.TooHigh = ⊥
BurnRefusal (errors.BadNode page) = ⊥
BurnRefusal (errors.Damaged block) = ⊥
BurnRefusal (errors.Pages refusal) = ⊥
BurnRefusal (errors.Once refusal) = Unit {0}
BurnRefusal errors.OutOfMemory = Unit {0}

-- The reasons for which a node of this level doesn't take a version, in `homes` pages, of which `next` was the first that was never used. A
-- level needs one page more at most, and the lowest two; what the shelf refuses is stated of the shelf. Images are too many only where no node
-- may be split.
abbrev pub PlanRefusal : ℕ → ℕ → ℕ → Bool → Bool → TreeError → Type 0
PlanRefusal homes next level down may_split errors.StampBack = ⊥
PlanRefusal homes next level down may_split errors.TooHigh = ⊥
PlanRefusal homes next level down may_split (errors.BadNode page) = Unit {0}
PlanRefusal homes next level down may_split (errors.Damaged block) = ⊥
PlanRefusal homes next level down may_split (errors.Pages pages.PagesFull) = homes < next + suc level
PlanRefusal homes next level down may_split (errors.Pages pages.TooManyImages) = may_split ≡ false
PlanRefusal homes next level down may_split (errors.Pages pages.OutOfMemory) = ⊥
PlanRefusal homes next level down may_split (errors.Pages pages.Fault) = down ≡ false
PlanRefusal homes next level down may_split (errors.Pages pages.NeedsRecovery) = down ≡ true
PlanRefusal homes next level down may_split (errors.Once refusal) = Unit {0}
PlanRefusal homes next level down may_split errors.OutOfMemory = Unit {0}

-- The reasons for which a tree of this level doesn't take a version of a stamp, where `least` is the least one that may come, with images
-- of `named` pages held. A new root needs one page more, and one image more; of the 31 images one is left to the caller where a node is split.
abbrev pub InsertRefusal : ℕ → ℕ → ℕ → ℕ → Bool → ℕ → ℕ → TreeError → Type 0
InsertRefusal homes next named level down least stamp errors.StampBack = stamp < least
InsertRefusal homes next named level down least stamp errors.TooHigh = level ≡ 7
InsertRefusal homes next named level down least stamp (errors.BadNode page) = Unit {0}
InsertRefusal homes next named level down least stamp (errors.Damaged block) = ⊥
InsertRefusal homes next named level down least stamp (errors.Pages pages.PagesFull) = homes < next + level + 2
InsertRefusal homes next named level down least stamp (errors.Pages pages.TooManyImages) = 30 < named + (2 * level + 3)
InsertRefusal homes next named level down least stamp (errors.Pages pages.OutOfMemory) = ⊥
InsertRefusal homes next named level down least stamp (errors.Pages pages.Fault) = down ≡ false
InsertRefusal homes next named level down least stamp (errors.Pages pages.NeedsRecovery) = down ≡ true
InsertRefusal homes next named level down least stamp (errors.Once refusal) = Unit {0}
InsertRefusal homes next named level down least stamp errors.OutOfMemory = Unit {0}
