-- The numbers of the journal's slots.
use Rattle.std.specs.Prelude.{◌≡◌, ⊤, ◌<◌, ◌+◌, ◌*◌, ◌%◌, ℕ, zero, suc, ◌==◌, if◌then◌else◌}
use Rattle.page_journal.specs.Layout.{IsOpen, gate_place, transaction}
use Rattle.disk_archive.specs.declared.open_error.OpenError.{OpenError}
use Rattle.disk_archive.specs.declared.open_error.OpenError.TheVariants as openings

-- how many of the first n slots are open
unfoldable pub open_count : (ℕ → ℕ) → ℕ → ℕ
open_count f zero = 0
open_count f (suc n) = if f (gate_place n) == 165 then open_count f n + 1 else open_count f n

-- The slot has a number of its place, counted round after round from 1, and no open slot is ahead of it by as many as are open.
pub record IsInPlace (f : ℕ → ℕ) (slot : ℕ) : Type 0 where
  pub some : 0 < transaction f slot
  pub round : transaction f slot % 8 ≡ (slot + 1) % 8
  pub near : (other : ℕ) → other < 8 → IsOpen f other → transaction f other < transaction f slot + open_count f 8

-- the numbers of the open slots are in the order of their places, and follow one another
abbrev pub AreInOrder : (ℕ → ℕ) → Type 0
AreInOrder f = (slot : ℕ) → slot < 8 → IsOpen f slot → IsInPlace f slot

-- the page is that of an open slot's header, which has another number
pub record IsOutOfOrder (f : ℕ → ℕ) (page : ℕ) : Type 0 where
  pub slot : ℕ
  pub few : slot < 8
  pub is_open : IsOpen f slot
  pub other : ¬ IsInPlace f slot
  pub place : page ≡ 2 + 33 * slot

-- why slots aren't found to be in order: one isn't, there is no room for them, or the device failed
abbrev pub IsSlotRefusal : OpenError → Type 0
IsSlotRefusal openings.Fault = ⊤
IsSlotRefusal openings.NotAJournal = ⊤
IsSlotRefusal (openings.BadSlot page) = ⊤
IsSlotRefusal (openings.BadNode page) = ⊥
IsSlotRefusal openings.OutOfMemory = ⊥
