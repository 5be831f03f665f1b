-- What feeding a piece to a framer does, and how a stream ends.
use Rattle.std.specs.Prelude.{◌≡◌, ℕ, List, [], ◌∷◌, ◌++◌, ◌≢◌, Bool, true, false, Result, Ok, Err, Vec}
use Rattle.std.specs.declared.alloc.Global.{Global}
use Rattle.std.specs.List.{flat_map}
use Rattle.mrt_records.specs.Records.{Over}
use Rattle.mrt_records.specs.Streams.{GainsFrames, EndsOver}
use Rattle.mrt_records.specs.declared.item.Item.{Item}
use Rattle.mrt_records.specs.declared.framer.FrameError.{FrameError}
use Rattle.mrt_records.specs.declared.framer.FrameError.TheVariants as errors

-- what is held of a rest, by whether it's above the limit
abbrev pub IsHeld : Bool → List ℕ → List ℕ → Type 0
IsHeld false rest held = (held ≡ rest) × (Over rest → ⊥)
IsHeld true rest held = Over held × (more : List ℕ) × (rest ≡ held ++ more)

-- the items of the whole records of the octets were added, by whether what is left is above the limit
abbrev pub Goes : Bool → List ℕ → List ℕ → List Item → List Item → Type 0
Goes false bytes held old new = GainsFrames bytes held old new × (Over held → ⊥)
Goes true bytes held old new = EndsOver bytes held old new

-- the octets are those held before, then the piece; what is held, and the list of items, are given as they were before and as they are after
abbrev pub Fed : Result (Unit {0}) FrameError → List ℕ → List ℕ → List ℕ → List Item → List Item → Type 0
Fed (Ok done) bytes was held old new = GainsFrames bytes held old new × (Over held → ⊥)
Fed (Err errors.TooLong) bytes was held old new = EndsOver bytes held old new
Fed (Err errors.OutOfMemory) bytes was held old new = (held ≡ was) × (new ≡ old) × (Over was → ⊥)
Fed (Err errors.Truncated) bytes was held old new = ⊥

-- whether a stream may end if these octets are held
abbrev pub MayEnd : Result (Unit {0}) FrameError → List ℕ → Type 0
MayEnd (Ok done) held = held ≡ []
MayEnd (Err errors.TooLong) held = Over held
MayEnd (Err errors.Truncated) held = (held ≢ []) × (Over held → ⊥)
MayEnd (Err errors.OutOfMemory) held = ⊥

-- the octets of pieces, one after another
abbrev pub stream : List (Vec ℕ Global) → List ℕ
stream pieces = flat_map (λ piece. piece.items) pieces

-- How a stream in pieces ends, and the items that it gave. If a piece ran out of memory, these are the items of the pieces before it.
abbrev pub IsStream : Result (Unit {0}) FrameError → List (Vec ℕ Global) → List Item → List Item → Type 0
IsStream (Ok done) pieces old new = GainsFrames (stream pieces) [] old new
IsStream (Err errors.TooLong) pieces old new = (rest : List ℕ) × GainsFrames (stream pieces) rest old new × Over rest
IsStream (Err errors.Truncated) pieces old new = (rest : List ℕ) × GainsFrames (stream pieces) rest old new × (rest ≢ []) × (Over rest → ⊥)
IsStream (Err errors.OutOfMemory) pieces old new =
    (before after : List (Vec ℕ Global)) × (piece : Vec ℕ Global) × (rest : List ℕ)
    × (pieces ≡ before ++ piece ∷ after) × GainsFrames (stream before) rest old new × (Over rest → ⊥)
