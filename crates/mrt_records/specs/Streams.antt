-- What a stream's records add to a list of items.
use Rattle.std.specs.Prelude.{◌≡◌, ℕ, List, ◌++◌}
use Rattle.route_model.specs.Sequence.{Each}
use Rattle.mrt_records.specs.Records.{Over, Frames}
use Rattle.mrt_records.specs.Values.{reported}
use Rattle.mrt_records.specs.Bodies.{Body}
use Rattle.mrt_records.specs.declared.item.Item.{Item}

-- the item of a record
abbrev pub IsItem : List ℕ → Item → Type 0
IsItem bytes item = Body bytes (reported item)

-- the list has gained the items of these records, one for each, in their order
abbrev pub Gains : List Item → List Item → List (List ℕ) → Type 0
Gains old new records = (items : List Item) × Each IsItem records items × (new ≡ old ++ items)

-- the list has gained the items of all whole records of the octets, and this is what is left
abbrev pub GainsFrames : List ℕ → List ℕ → List Item → List Item → Type 0
GainsFrames bytes rest old new = (records : List (List ℕ)) × Frames bytes records rest × Gains old new records

-- the list has gained the items of all whole records of the octets; what is left is above the limit, and
-- what is kept of it has that header
abbrev pub EndsOver : List ℕ → List ℕ → List Item → List Item → Type 0
EndsOver bytes held old new = (more : List ℕ) × GainsFrames bytes (held ++ more) old new × Over held
