-- Where a column leads: into no block that was never burnt.
use Rattle.std.specs.Prelude.{ℕ, ◌<◌, ⊤}
use Rattle.tsb_walk.specs.declared.page_steps.ColumnSpot.{ColumnSpot}
use Rattle.tsb_walk.specs.declared.page_steps.ColumnSpot.TheVariants.{InLeaf, InPast}

-- a place in the past lies in a block below the number
abbrev pub IsSpotBelow : ℕ → ColumnSpot → Type 0
IsSpotBelow burnt (InLeaf leaf) = ⊤
IsSpotBelow burnt (InPast place) = place.part.block < burnt
