-- What each step on the board does to a seat's view.
use Rattle.std.specs.Prelude.{◌≡◌, ℕ, ◌≤◌, max, slice_index, Option, Some}
use Rattle.atomic_table.specs.Table.{Me, Step}
use Rattle.board.specs.Past.{Past}
use Rattle.board.specs.Views.{greatest, with_number}
use Rattle.board.specs.inner.Rule.{Known, Sight, nothing, Starts, IsRight, most, reader_of}

-- a seat that knows the same and doesn't write
abbrev pub note_of : Sight → Sight
note_of v = reader_of v.knows

abbrev pub hears : Sight → Sight → Sight
hears v w = record { writes = v.writes; knows = v.knows; heard = w.knows }

-- the past of the other, and the greater numbers
abbrev pub both_of : Known → Known → Known
both_of k l = record { past = l.past; numbers = greatest k.numbers l.numbers }

abbrev pub takes : Sight → Sight → Sight
takes v w = record { writes = v.writes; knows = both_of v.knows w.knows; heard = v.heard }

abbrev pub spent : Sight
spent = reader_of nothing

abbrev pub sees : Sight → ℕ → ℕ → Sight
sees v i n = record { writes = v.writes; knows = record { past = v.knows.past; numbers = with_number v.knows.numbers i n }; heard = v.heard }

abbrev pub moves : Sight → Option Past → Sight
moves v p = record { writes = v.writes; knows = record { past = p; numbers = v.knows.numbers }; heard = v.heard }

-- the number found is seen, and isn't below the one seen before
abbrev pub Seen : {S : Type 0} → Step S → Me S Sight → ℕ → Me S Sight → Type 0
Seen s m n o = (o.0 ≡ sees m.0 s.word n) × (slice_index m.0.knows.numbers s.word ≤ n) × (o.1 ≡ m.1)

-- the word and the number seen are the greater of what was found and what was asked
abbrev pub Raised : {S : Type 0} → Step S → Me S Sight → ℕ → Me S Sight → Type 0
Raised s m n o = (o.0 ≡ sees m.0 s.word (max n s.first)) × (slice_index m.0.knows.numbers s.word ≤ n) × (o.1 ≡ m.1)

-- what was heard begins what the writing seat knows, which reaches its numbers
abbrev pub Compared : {S : Type 0} → Step S → Me S Sight → ℕ → Me S Sight → Type 0
Compared s m n o = (o.0 ≡ m.0) × (o.1 ≡ m.1) × Starts m.0.heard.past m.0.knows.past × ((i : ℕ) → slice_index m.0.heard.numbers i ≤ most m.0.knows.past i)

-- the writing seat now knows a past that fits, which its own begins
abbrev pub MovedTo : {S : Type 0} → (Past → Type 0) → Step S → Me S Sight → ℕ → Me S Sight → Type 0
MovedTo fits s m n o = (p : Past) × (o.0 ≡ moves m.0 (Some p)) × (o.1 ≡ m.1) × fits p × IsRight (Some p) × Starts m.0.knows.past (Some p)
