-- What fails next, and what a failure leaves. Contracts of private functions alone cite this file.
use Rattle.std.specs.Prelude.{◌≡◌, ℕ, List, true, false, Option, None, Some}
use Rattle.disk_memory.specs.Burning.{Burning, torn_block}
use Rattle.disk_memory.specs.Memory.{IsAtCall, KeepsPlan}
use Rattle.disk_memory.specs.Torn.{torn_octets}
use Rattle.disk_memory.specs.declared.erase.MemErase.{MemErase}
use Rattle.disk_memory.specs.declared.torn.Torn.{Torn}

-- what fails next is the same
pub record KeepsScript (old new : MemErase) : Type 0 where
  pub plan : KeepsPlan old new
  pub next : IsAtCall new old.reads old.writes old.syncs

-- what comes to stand from the range's start on, if the write of `new` failed, if it did
abbrev pub octets_kept : Option Torn → List ℕ → List ℕ
octets_kept None new = new
octets_kept (Some torn) new = torn_octets torn new

-- the burn of a block, if it failed, if it did
abbrev pub burning_kept : Option Torn → ℕ → List ℕ → Burning
burning_kept None n block = record { number = n; block = block; whole = true }
burning_kept (Some torn) n block = record { number = n; block = torn_block torn block; whole = false }
