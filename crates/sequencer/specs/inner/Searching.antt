-- What the search for the next collector keeps. Contracts of private functions alone cite this file.
use Rattle.std.specs.Prelude.{ℕ, List, ◌∷◌, ◌≡◌, Some, None, Option, if◌then◌else◌, nat_le, slice_get}
use Rattle.sequencer.specs.declared.first.Candidate.{Candidate}
use Rattle.sequencer.specs.Lanes.{Waiting, waiting_times}

-- no time waits
abbrev pub NoneWaits : List Waiting → Type 0
NoneWaits lanes = (k u : ℕ) (us : List ℕ) → slice_get (waiting_times lanes) k ≡ Some (u ∷ us) → ⊥

-- the earlier of what was found and a new first time
abbrev pub better_of : Option Candidate → ℕ → Option ℕ → Option Candidate
better_of found number None = found
better_of None number (Some time) = Some (record { number = number; time = time })
better_of (Some best) number (Some time) = if nat_le best.time time then Some best else Some (record { number = number; time = time })
