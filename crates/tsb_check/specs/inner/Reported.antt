-- What one block holds for its place, and how much is left to read.
use Rattle.std.specs.Prelude.{◌≡◌, ℕ, suc, ◌+◌, ◌^◌, ◌≤◌, List, [], ◌∷◌, ◌++◌, length, min}
use Rattle.version_model.specs.declared.part.Place.{Place}
use Rattle.version_model.specs.Versions.{Version}
use Rattle.version_model.specs.Ranges.{range_of}
use Rattle.version_model.specs.Counts.{count_in}
use Rattle.tsb_walk.specs.Ways.{IsLeafFor, IsColumnFor}
use Rattle.tsb_check.specs.declared.block.Reported.{Reported}
use Rattle.tsb_check.specs.declared.block.Reported.TheVariants.{Versions, Parts}
use Rattle.tsb_check.specs.Counted.{AreLower, places_of}

-- the octets are a leaf for the place that has this many versions of its keys and stamps, or a column for it with these parts
abbrev pub IsReportedOf : Place → List ℕ → Reported → Type 0
IsReportedOf place octets (Versions n) = (versions : List Version) × IsLeafFor place octets versions × (n ≡ count_in versions (range_of place.bounds))
IsReportedOf place octets (Parts parts) = IsColumnFor place octets parts.items × AreLower place.part.block parts.items × (length parts.items ≤ 649)

-- what the block holds leads on to few parts, in blocks of lower numbers
abbrev pub GoesLower : Place → Reported → Type 0
GoesLower place (Versions n) = Unit {0}
GoesLower place (Parts parts) = AreLower place.part.block parts.items × (length parts.items ≤ 649)

-- From a count to another one and from places that are left to others, what a block holds for a place is taken: its versions are counted,
-- or the places of its parts are left.
abbrev pub IsTaken : Place → Reported → List Place → List Place → ℕ → ℕ → Type 0
IsTaken place (Versions more) left left' n n' = (left' ≡ left) × (n' ≡ min (n + more) 18446744073709551615)
IsTaken place (Parts parts) left left' n n' = (left' ≡ left ++ places_of place.bounds parts.items) × (n' ≡ n)

-- A number that falls when a place gives way to those of at most 649 parts in blocks of lower numbers.
abbrev pub weight : List Place → ℕ
weight [] = 0
weight (place ∷ places) = 650 ^ suc place.part.block + weight places
