-- The terms of contracts on a shelf, and what its calls do to the write-once disk.
use Rattle.std.specs.Prelude.{ℕ, List, Some, suc, ◌≡◌, ◌≢◌, ◌<◌, ◌≤◌, ◌⊎◌, true, false, Result, Ok, Err}
use Rattle.disk_models.specs.Once.{OnceState}
use Rattle.once_store.specs.declared.refused.Refused.{Refused}
use Rattle.once_store.specs.declared.shelf.Shelf.{Shelf}

-- its disk
abbrev pub disk_of : {O Pen Seen : Type 0} → Shelf O Pen Seen → O
disk_of shelf = shelf.disk.value

-- the disk's pen
abbrev pub pen_of : {O Pen Seen : Type 0} → Shelf O Pen Seen → Pen
pen_of shelf = shelf.pen

-- the number that it tries next
abbrev pub next_of : {O Pen Seen : Type 0} → Shelf O Pen Seen → ℕ
next_of shelf = shelf.next

-- the disk of an opening, done or refused
abbrev pub disk_after : {O Pen Seen : Type 0} → Result (Shelf O Pen Seen) (Refused O Pen Seen) → O
disk_after (Ok shelf) = shelf.disk.value
disk_after (Err refused) = refused.disk.value

-- and its pen
abbrev pub pen_after : {O Pen Seen : Type 0} → Result (Shelf O Pen Seen) (Refused O Pen Seen) → Pen
pen_after (Ok shelf) = shelf.pen
pen_after (Err refused) = refused.pen

-- each block from one number on and below another was tried
abbrev pub AllTried : OnceState → ℕ → ℕ → Type 0
AllTried o from to = (i : ℕ) → from ≤ i → i < to → o.tried i ≡ true

-- each tried block of a disk of `count` blocks has a number below n
abbrev pub AreTriedBelow : OnceState → ℕ → ℕ → Type 0
AreTriedBelow o count n = (i : ℕ) → i < count → o.tried i ≡ true → i < n

-- the number n isn't below from; each block between was tried; and if a disk of `count` blocks has it, it is blank
pub record IsFirstBlank (o : OnceState) (count from n : ℕ) : Type 0 where
  pub forward : from ≤ n
  pub tried : AllTried o from n
  pub blank : n < count → o.tried n ≡ false

-- At most one block became tried or burnt, the last one below `to`, if `to` has moved past it; all before it from
-- `from` on were tried. What was burnt and isn't settled may be lost.
pub record Spends (from to : ℕ) (old new : OnceState) : Type 0 where
  pub forward : from ≤ to
  pub passed : (i : ℕ) → from ≤ i → suc i < to → old.tried i ≡ true
  pub tried : (i : ℕ) → (i < from) ⊎ (suc i ≢ to) → new.tried i ≡ old.tried i
  pub burnt : (i : ℕ) → (i < from) ⊎ (suc i ≢ to) → (block : List ℕ) → new.burnt i ≡ Some block → old.burnt i ≡ Some block

-- The next number has moved over tried blocks alone, and the disk is as it was.
pub record HasPassed (from to : ℕ) (old new : OnceState) : Type 0 where
  pub same : new ≡ old
  pub tried : AllTried old from to

-- the number is the one after the first blank block from another number on, on a disk of `count` blocks
pub record IsAfterBlank (o : OnceState) (count from to : ℕ) : Type 0 where
  pub block : ℕ
  pub blank : IsFirstBlank o count from block
  pub inside : block < count
  pub beyond : to ≡ suc block
