-- What the calls of a ring leave of the pages, and why they refuse.
use Rattle.std.specs.Prelude.{◌≡◌, ◌+◌, ◌/◌, ◌<◌, ⊤, ℕ, Bool, true, false, List}
use Rattle.page_tx.specs.declared.error.PageError.{PageError}
use Rattle.page_tx.specs.declared.error.PageError.TheVariants.{Fault, NeedsRecovery, TooManyImages, PagesFull, OutOfMemory}
use Rattle.page_tx.specs.declared.pages.Pages.{Ghosts}
use Rattle.page_tx.specs.Device.{KeepsDevice}
use Rattle.page_tx.specs.Start.{Start}
use Rattle.intake.specs.declared.error.IntakeError.{IntakeError}
use Rattle.intake.specs.declared.error.IntakeError.TheVariants as intakes
use Rattle.intake.specs.declared.error.ReadError.{ReadError}
use Rattle.intake.specs.declared.error.ReadError.TheVariants as reads

-- The call set no page, and shows the same ones.
pub record OnlyReads {P : Type 0} (pages : Ghosts P) (old new : P) (failed : Type 0) : Type 0 where
  pub shown : (start : Start) (shown : List (List ℕ)) → pages.shows old start shown → pages.shows new start shown
  pub homes : pages.homes new ≡ pages.homes old
  pub next : pages.next new ≡ pages.next old
  pub named : pages.named new ≡ pages.named old
  pub down : pages.down new ≡ pages.down old
  pub device : KeepsDevice (pages.honest old) (pages.honest new) (pages.faults old) (pages.faults new) failed

-- the maximum number of pages that this many octets lie on, wherever they begin
abbrev pub most_pages : ℕ → ℕ
most_pages octets = (octets + 32766) / 16384

-- the reasons for which pages aren't read, over a journal that must be opened again or needn't
abbrev pub PageRefusal : Bool → PageError → Type 0
PageRefusal down Fault = down ≡ false
PageRefusal down NeedsRecovery = down ≡ true
PageRefusal down OutOfMemory = ⊤
PageRefusal down TooManyImages = ⊥
PageRefusal down PagesFull = ⊥

-- the reasons for which what waits isn't read, besides the damage that the clauses state
abbrev pub ReadRefusal : Bool → ReadError → Type 0
ReadRefusal down (reads.BadNode page) = ⊤
ReadRefusal down (reads.Pages refusal) = PageRefusal down refusal

-- The reasons for which a batch isn't put into a ring, besides too little room in it: there are `homes` home pages,
-- `unused` is the first that was never used, and images of at most `count` pages would be held.
abbrev pub AppendRefusal : Bool → ℕ → ℕ → ℕ → IntakeError → Type 0
AppendRefusal down homes unused count intakes.IntakeFull = ⊤
AppendRefusal down homes unused count (intakes.Pages Fault) = down ≡ false
AppendRefusal down homes unused count (intakes.Pages NeedsRecovery) = down ≡ true
AppendRefusal down homes unused count (intakes.Pages TooManyImages) = 31 < count
AppendRefusal down homes unused count (intakes.Pages PagesFull) = homes < unused
AppendRefusal down homes unused count (intakes.Pages OutOfMemory) = ⊤
