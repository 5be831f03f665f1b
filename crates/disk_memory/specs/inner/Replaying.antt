-- Calls that are laid over a disk one after another. Contracts of private functions alone cite this file.
use Rattle.std.specs.Prelude.{◌≡◌, ◌≤◌, ℕ, List, [], ◌∷◌, length, take, drop, map, None, Some}
use Rattle.disk_memory.specs.Replay.{image_of, torn_call, written}
use Rattle.disk_memory.specs.declared.torn.Torn.{Torn}
use Rattle.disk_memory.specs.declared.call.Call.{Call}
use Rattle.disk_memory.specs.declared.call.Call.TheVariants.{Write, Sync}

-- what a crash leaves of these calls by a choice
abbrev pub torn_calls : List Torn → List Call → List Call
torn_calls choice [] = []
torn_calls [] (call ∷ calls) = torn_call None call ∷ torn_calls [] calls
torn_calls (torn ∷ choice) (call ∷ calls) = torn_call (Some torn) call ∷ torn_calls choice calls

-- a disk over which the writes of these calls are laid
abbrev pub replayed : List Call → (ℕ → ℕ) → ℕ → ℕ
replayed [] f = f
replayed (Write w ∷ calls) f = replayed calls (written w f)
replayed (Sync ∷ calls) f = replayed calls f

-- The first calls end with the last sync, or are none, and the others are the writes since then.
pub record SplitsAtSync (count : ℕ) (calls : List Call) : Type 0 where
  pub inside : count ≤ length calls
  pub synced : image_of (take count calls) ≡ record { synced = (image_of calls).synced; waiting = [] }
  pub since : drop count calls ≡ map Write (image_of calls).waiting
