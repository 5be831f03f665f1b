-- What a run of calls leaves on a disk of zeros.
use Rattle.std.specs.Prelude.{◌≡◌, ◌≤◌, ◌⊎◌, ℕ, ◌+◌, ◌-◌, min, List, [], ◌∷◌, ◌++◌, length, replicate, take, slice_index, nat_lt, if◌then◌else◌, Option, None, Some}
use Rattle.disk_models.specs.Octets.{Within}
use Rattle.disk_models.specs.Erase.{DiskState}
use Rattle.disk_memory.specs.Writing.{Writing}
use Rattle.disk_memory.specs.Torn.{torn_octets}
use Rattle.disk_memory.specs.declared.torn.Torn.{Torn}
use Rattle.disk_memory.specs.declared.torn.Torn.TheVariants.{Old}
use Rattle.disk_memory.specs.declared.call.Call.{Call}
use Rattle.disk_memory.specs.declared.call.Call.TheVariants.{Write, Sync}

-- a disk over which the octets of a write are laid, as far as its range goes
unfoldable pub written : Writing → (ℕ → ℕ) → ℕ → ℕ
written w f i =
    if nat_lt i w.at then f i
    else if nat_lt i (w.at + min w.length (length w.octets)) then slice_index w.octets (i - w.at)
    else f i

-- a disk over which several are laid, one after another
abbrev pub all_written : List Writing → (ℕ → ℕ) → ℕ → ℕ
all_written [] f = f
all_written (w ∷ ws) f = all_written ws (written w f)

-- what the last sync that succeeded left, and the writes since then
pub record Image : Type 0 where
  pub synced : ℕ → ℕ
  pub waiting : List Writing

-- the image after more calls
abbrev pub image_after : List Call → Image → Image
image_after [] m = m
image_after (Write w ∷ calls) m = image_after calls (record { synced = m.synced; waiting = m.waiting ++ w ∷ [] })
image_after (Sync ∷ calls) m = image_after calls (record { synced = all_written m.waiting m.synced; waiting = [] })

-- the image after these calls on a disk of zeros
abbrev pub image_of : List Call → Image
image_of calls = image_after calls (record { synced = λ _. 0; waiting = [] })

-- what a read gives after them
abbrev pub octet_of : List Call → ℕ → ℕ
octet_of calls = all_written (image_of calls).waiting (image_of calls).synced

-- a place in the range of one of these writes
abbrev pub IsWithinSome : List Writing → ℕ → Type 0
IsWithinSome [] i = ⊥
IsWithinSome (w ∷ ws) i = Within w.at w.length i ⊎ IsWithinSome ws i

-- the places that are unsynced after these calls
abbrev pub IsUnsynced : List Call → ℕ → Type 0
IsUnsynced calls i = IsWithinSome (image_of calls).waiting i

-- what a crash after these calls may leave
abbrev pub IsLeftBy : List Call → (ℕ → ℕ) → Type 0
IsLeftBy calls c = (i : ℕ) → ¬ IsUnsynced calls i → c i ≡ octet_of calls i

-- the state of a disk after these calls, its clock being how many they are
abbrev pub state_of : List Call → DiskState
state_of calls = record {
  octet = octet_of calls;
  unsynced = IsUnsynced calls;
  clock = length calls;
  left_since = λ t c. (k : ℕ) × (t ≤ k) × (k ≤ length calls) × IsLeftBy (take k calls) c;
}

-- the old octets, if nothing else is given
abbrev pub torn_or_old : Option Torn → Torn
torn_or_old None = Old
torn_or_old (Some torn) = torn

-- a write of which a crash leaves this, or else the old octets
abbrev pub torn_writing : Option Torn → Writing → Writing
torn_writing torn w = record w { octets = torn_octets (torn_or_old torn) w.octets }

-- Writes of which a crash leaves what a choice says, one for each in turn. Beyond the choice it leaves the old octets.
abbrev pub torn_writings : List Torn → List Writing → List Writing
torn_writings choice [] = []
torn_writings [] (w ∷ ws) = torn_writing None w ∷ torn_writings [] ws
torn_writings (torn ∷ choice) (w ∷ ws) = torn_writing (Some torn) w ∷ torn_writings choice ws

-- the octets that a crash after these calls leaves by a choice
abbrev pub left_by : List Torn → List Call → ℕ → ℕ
left_by choice calls = all_written (torn_writings choice (image_of calls).waiting) (image_of calls).synced

-- the octets that a crash leaves where it tears each write since the last sync in this one way
abbrev pub left_all : Torn → List Call → ℕ → ℕ
left_all torn calls = left_by (replicate (length (image_of calls).waiting) torn) calls

-- what a crash leaves of one call
abbrev pub torn_call : Option Torn → Call → Call
torn_call torn (Write w) = Write (torn_writing torn w)
torn_call torn Sync = Sync

-- A write that failed: nothing was recorded, or, if the script has it fail, the write with the torn octets.
abbrev pub LeavesTorn : ℕ → List ℕ → Option Torn → List Call → List Call → Type 0
LeavesTorn at from None old new = new ≡ old
LeavesTorn at from (Some torn) old new =
    (new ≡ old) ⊎ (new ≡ old ++ Write (record { at = at; length = length from; octets = torn_octets torn from }) ∷ [])
