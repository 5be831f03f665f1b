-- What lookups leave of the pages that they read, and why they are refused.
use Rattle.std.specs.Prelude.{◌≡◌, ⊤, ℕ, Bool, true, false, List}
use Rattle.once_store.specs.declared.error.BlockError.{BlockError}
use Rattle.once_store.specs.declared.error.BlockError.TheVariants as blocks
use Rattle.page_tx.specs.declared.pages.Pages.{Ghosts}
use Rattle.page_tx.specs.Device.{KeepsDevice}
use Rattle.page_tx.specs.Start.{Start}
use Rattle.tsb_walk.specs.declared.error.NodeError.{NodeError}
use Rattle.tsb_walk.specs.declared.error.NodeError.TheVariants.{BadNode, Damaged, Fault, OnceFault, NeedsRecovery, OutOfMemory}

-- The call set no page, and shows the same ones. Pages are read through a cache, so a device may have been asked; the clock of its writes is where it was, since the start that is shown is the same.
pub record OnlyReads {P : Type 0} (pages : Ghosts P) (old new : P) (failed : Type 0) : Type 0 where
  pub shown : (start : Start) (shown : List (List ℕ)) → pages.shows old start shown → pages.shows new start shown
  pub homes : pages.homes new ≡ pages.homes old
  pub next : pages.next new ≡ pages.next old
  pub named : pages.named new ≡ pages.named old
  pub down : pages.down new ≡ pages.down old
  pub device : KeepsDevice (pages.honest old) (pages.honest new) (pages.faults old) (pages.faults new) failed

-- a refusal of blocks, as a lookup reports it
abbrev pub of_block : BlockError → NodeError
of_block (blocks.Damaged block) = Damaged block
of_block blocks.Fault = OnceFault
of_block blocks.OutOfMemory = OutOfMemory

-- the reasons for which a walk through pages doesn't come to its end, over a journal that must be opened again or needn't
abbrev pub WalkRefusal : Bool → NodeError → Type 0
WalkRefusal down (BadNode page) = ⊤
WalkRefusal down (Damaged block) = ⊥
WalkRefusal down Fault = down ≡ false
WalkRefusal down OnceFault = ⊥
WalkRefusal down NeedsRecovery = down ≡ true
WalkRefusal down OutOfMemory = down ≡ false

-- the reasons for which a lookup through pages fails: the same, and out of memory for its result
abbrev pub LookRefusal : Bool → NodeError → Type 0
LookRefusal down (BadNode page) = ⊤
LookRefusal down (Damaged block) = ⊥
LookRefusal down Fault = down ≡ false
LookRefusal down OnceFault = ⊥
LookRefusal down NeedsRecovery = down ≡ true
LookRefusal down OutOfMemory = ⊤

-- a page is at fault or memory has run out: no device failed, and the journal needn't be opened again
abbrev pub NeedsNoDevice : NodeError → Type 0
NeedsNoDevice (BadNode page) = ⊤
NeedsNoDevice (Damaged block) = ⊥
NeedsNoDevice Fault = ⊥
NeedsNoDevice OnceFault = ⊥
NeedsNoDevice NeedsRecovery = ⊥
NeedsNoDevice OutOfMemory = ⊤

-- the page alone is at fault
abbrev pub IsDamage : NodeError → Type 0
IsDamage (BadNode page) = ⊤
IsDamage (Damaged block) = ⊥
IsDamage Fault = ⊥
IsDamage OnceFault = ⊥
IsDamage NeedsRecovery = ⊥
IsDamage OutOfMemory = ⊥
