-- What an archive holds at a moment, and which of that begins which.
use Rattle.std.specs.Prelude.{◌≡◌, ◌⊎◌, ℕ, zero, suc, List, [], ◌∷◌, length, Option, Some, None, slice_get}
use Rattle.route_meaning.specs.History.{Intake, History, IsHistory, Begins, settled}

-- a history, and the settled blocks of the write-once disk: the number and the octets of each
pub record Past : Type 0 where
  pub history : History
  pub blocks : List (ℕ × List ℕ)

-- the block of this number has these octets
abbrev pub IsBlock : ℕ → List ℕ → List (ℕ × List ℕ) → Type 0
IsBlock n octets [] = ⊥
IsBlock n octets (block ∷ rest) = (block ≡ (n, octets)) ⊎ IsBlock n octets rest

-- each of the blocks is one of the others, with its octets
abbrev pub Among : List (ℕ × List ℕ) → List (ℕ × List ℕ) → Type 0
Among some all = (n : ℕ) (octets : List ℕ) → IsBlock n octets some → IsBlock n octets all

-- A right history goes on, and no settled block changes or goes.
pub record GoesOnAs (p q : Past) : Type 0 where
  pub right : IsHistory p.history
  pub begins : Begins p.history q.history
  pub blocks : Among p.blocks q.blocks

-- how many admissions a collector has; none if there is no such collector
abbrev pub count_in : Option Intake → ℕ
count_in None = 0
count_in (Some i) = length i.admitted

-- how many admissions of a collector the history holds
abbrev pub count_of : History → ℕ → ℕ
count_of h c = count_in (slice_get h.intakes c)

-- The number that a word of the board may have: the word 0 is the watermark's, and the collector c has the word c + 1.
abbrev pub reach : History → ℕ → ℕ
reach h zero = settled h
reach h (suc c) = count_of h c
