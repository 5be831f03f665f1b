-- The places of the board's words.
use Rattle.std.specs.Prelude.{◌<◌, ⊤, ℕ, suc}
use Rattle.board.specs.declared.word.Word.{Word}
use Rattle.board.specs.declared.word.Word.TheVariants.{Watermark, Durable}

-- the watermark stands first, and then the count of each collector
abbrev pub place_of : Word → ℕ
place_of Watermark = 0
place_of (Durable c) = suc c

-- a board of this many collectors has the word
abbrev pub IsWord : ℕ → Word → Type 0
IsWord collectors Watermark = ⊤
IsWord collectors (Durable c) = c < collectors
