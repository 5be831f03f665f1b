-- Burns as they are remembered, as plain data, and what they leave.
use Rattle.std.specs.Prelude.{◌≡◌, ℕ, ◌==◌, ◌&&◌, List, [], ◌∷◌, ◌++◌, length, replicate, Bool, false, if◌then◌else◌, Option, None, Some, is_some, ◌⊎◌}
use Rattle.disk_models.specs.Octets.{zeros}
use Rattle.disk_models.specs.Lending.{refilled}
use Rattle.disk_models.specs.Once.{OnceState}
use Rattle.disk_memory.specs.Torn.{torn_octets}
use Rattle.disk_memory.specs.declared.torn.Torn.{Torn}
use Rattle.disk_memory.specs.declared.torn.Torn.TheVariants.{Old, New, Half, Gate, Octets}

-- a burn of a block, what came to stand there, and whether it was burnt whole
pub record Burning : Type 0 where
  pub number : ℕ
  pub block : List ℕ
  pub whole : Bool

-- what is burnt whole at a block: the first of these burns counts
abbrev pub burnt_in : ℕ → List Burning → Option (List ℕ)
burnt_in n [] = None
burnt_in n (b ∷ bs) = if b.whole && (b.number == n) then Some b.block else burnt_in n bs

-- what came to stand at a block that was tried
abbrev pub tried_block_in : ℕ → List Burning → Option (List ℕ)
tried_block_in n [] = None
tried_block_in n (b ∷ bs) = if b.number == n then Some b.block else tried_block_in n bs

-- the state of a disk with these burns settled, and these waiting for a settle
abbrev pub once_state_of : List Burning → List Burning → OnceState
once_state_of settled waiting = record {
  tried = λ n. is_some (tried_block_in n (settled ++ waiting));
  burnt = λ n. burnt_in n (settled ++ waiting);
  settled = λ n. burnt_in n settled;
}

-- a blank block over which torn octets were laid
abbrev pub torn_block : Torn → List ℕ → List ℕ
torn_block torn new = refilled (zeros 16384) (torn_octets torn new)

-- a burn of which a crash leaves this: it stays whole only if all of it came through
abbrev pub torn_burning : Option Torn → Burning → Burning
torn_burning (Some New) b = b
torn_burning (Some Old) b = record { number = b.number; block = torn_block Old b.block; whole = false }
torn_burning (Some Half) b = record { number = b.number; block = torn_block Half b.block; whole = false }
torn_burning (Some Gate) b = record { number = b.number; block = torn_block Gate b.block; whole = false }
torn_burning (Some (Octets octets)) b = record { number = b.number; block = torn_block (Octets octets) b.block; whole = false }
torn_burning None b = record { number = b.number; block = torn_block Old b.block; whole = false }

-- Burns of which a crash leaves what a choice says, one for each in turn. Beyond the choice it leaves blank octets.
abbrev pub torn_burnings : List Torn → List Burning → List Burning
torn_burnings choice [] = []
torn_burnings [] (b ∷ bs) = torn_burning None b ∷ torn_burnings [] bs
torn_burnings (torn ∷ choice) (b ∷ bs) = torn_burning (Some torn) b ∷ torn_burnings choice bs

-- burns of which a crash leaves each in this one way
abbrev pub all_torn : Torn → List Burning → List Burning
all_torn torn bs = torn_burnings (replicate (length bs) torn) bs

-- A burn that failed: nothing was burnt, or, if the script has it fail, the block with the torn octets.
abbrev pub LeavesFailed : ℕ → List ℕ → Option Torn → List Burning → List Burning → Type 0
LeavesFailed n block None old new = new ≡ old
LeavesFailed n block (Some torn) old new =
    (new ≡ old) ⊎ (new ≡ old ++ record { number = n; block = torn_block torn block; whole = false } ∷ [])
