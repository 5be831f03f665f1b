-- The rule of the board: what holds of its words and of all seats' views between any two steps.
use Rattle.std.specs.Prelude.{◌≡◌, ⊤, ℕ, ◌≤◌, Bool, true, false, List, [], length, slice_index, Option, Some, None}
use mathlib.Core.Option.{some}
use lib.ListN.{get_elem?}
use Rattle.atomic_table.specs.Table.{State}
use Rattle.atomic_table.specs.Seated.{TableId}
use Rattle.route_meaning.specs.History.{IsHistory}
use Rattle.board.specs.Past.{Past, GoesOnAs, reach}
use Rattle.board.specs.Views.{View, Within}

-- what a seat knows: a past, if any, and numbers
pub record Known : Type 0 where
  pub past : Option Past
  pub numbers : List ℕ

-- what a seat knows, whether it is the one that writes, and what it heard last from another seat
pub record Sight : Type 0 where
  pub writes : Bool
  pub knows : Known
  pub heard : Known

-- the name of no board
abbrev pub no_table : TableId
no_table = record { words = 0; slots = 0; views_name = 0; atom = 0; block = 0; offset = 0; slot_names = [] }

abbrev pub nothing : Known
nothing = record { past = None; numbers = [] }

-- a past that nobody has, if none is known
abbrev pub no_past : Past
no_past = record { history = record { intakes = []; whole = 0; some = 0 }; blocks = [] }

-- the past that is known
abbrev pub past_or : Option Past → Past
past_or None = no_past
past_or (Some p) = p

-- what is known, for one that knows a past
abbrev pub view_of : Known → View
view_of k = record { past = past_or k.past; numbers = k.numbers }

-- some past is known
abbrev pub IsThere : Option Past → Type 0
IsThere None = ⊥
IsThere (Some p) = ⊤

-- no past begins each; a known one begins those that it goes on as
abbrev pub Starts : Option Past → Option Past → Type 0
Starts None y = ⊤
Starts (Some p) None = ⊥
Starts (Some p) (Some q) = GoesOnAs p q

-- what a word may reach
abbrev pub most : Option Past → ℕ → ℕ
most None i = 0
most (Some p) i = reach p.history i

-- the one past is right
abbrev pub IsRight : Option Past → Type 0
IsRight None = ⊤
IsRight (Some p) = IsHistory p.history

-- what is known begins the one past, and its numbers are at most those of the words
abbrev pub IsKnown : Option Past → List ℕ → Known → Type 0
IsKnown now words k = Starts k.past now × Within k.numbers words

-- the writing seat knows the one past whole, and each seat a beginning of it
abbrev pub Fits : ℕ → Option Past → List ℕ → ℕ → Sight → Type 0
Fits writer now words seat v =
    (v.writes ≡ true → (seat ≡ writer) × (v.knows.past ≡ now)) × IsKnown now words v.knows × IsKnown now words v.heard

-- There is one past. No word is above what it reaches, and each seat knows a beginning of it.
pub record IsBoard {S : Type 0} (count : ℕ) (s : State S Sight) : Type 0 where
  pub writer : ℕ
  pub now : Option Past
  pub right : IsRight now
  pub words : length s.words ≡ count
  pub reached : (i : ℕ) → slice_index s.words i ≤ most now i
  pub fits : (seat : ℕ) (v : Sight) → get_elem? s.views seat ≡ some v → Fits writer now s.words seat v

abbrev pub writer_of : Known → Known → Sight
writer_of k heard = record { writes = true; knows = k; heard = heard }

abbrev pub reader_of : Known → Sight
reader_of k = record { writes = false; knows = k; heard = nothing }
