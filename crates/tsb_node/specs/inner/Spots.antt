-- Where a column has its versions, in moments.
use Rattle.std.specs.Prelude.{◌<◌, ◌^◌, ℕ}
use Rattle.tsb_node.specs.declared.column.Spot.{Spot}
use Rattle.tsb_node.specs.declared.column.Spot.TheVariants.{InPage, InBlock}
use Rattle.tsb_node.specs.declared.column.PartAt.{PartAt}
use Rattle.tsb_node.specs.Scaling.{scaled}
use Rattle.tsb_node.specs.Columns.{scaled_part, scaled_current}

-- the part and its end, of times that are k times as great
abbrev pub scaled_part_at : ℕ → PartAt → PartAt
scaled_part_at k found = record { part = scaled_part k found.part; end = scaled k found.end }

abbrev pub scaled_spot : ℕ → Spot → Spot
scaled_spot k (InPage current) = InPage (scaled_current k current)
scaled_spot k (InBlock found) = InBlock (scaled_part_at k found)

-- these times have eight octets
abbrev pub PartFits : ℕ → PartAt → Type 0
PartFits k found = (scaled k found.part.start < 256 ^ 16) × (scaled k found.end < 256 ^ 16)

abbrev pub SpotFits : ℕ → Spot → Type 0
SpotFits k (InPage current) = scaled k current.start < 256 ^ 16
SpotFits k (InBlock found) = PartFits k found
