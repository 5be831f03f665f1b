-- Where one page leads for a key and a stamp.
use Rattle.std.specs.Prelude.{◌≡◌, ℕ, ◌≤◌, List}
use Rattle.tsb_walk.specs.declared.page_place.PagePlace.{PagePlace}
use Rattle.tsb_walk.specs.declared.page_steps.ColumnSpot.{ColumnSpot}
use Rattle.tsb_walk.specs.declared.page_steps.ColumnSpot.TheVariants.{InLeaf, InPast}
use Rattle.tsb_walk.specs.Shown.{keys_at}
use Rattle.version_model.specs.declared.part.Part.{Part}
use Rattle.version_model.specs.declared.child.Child.{Child}
use Rattle.version_model.specs.Ranges.{IsPoint, range_of}
use Rattle.version_model.specs.Pages.{IsChildOf, past_range}
use Rattle.version_model.specs.Blocks.{IsPartOf}

-- the next place is the child of a key node at the place, of these children
abbrev pub IsChildAt : PagePlace → List Child → PagePlace → Type 0
IsChildAt place children next = IsChildOf (keys_at place) children (keys_at next) (record { low = next.low; page = next.page })

-- in the current leaf if the stamp isn't before its start, else in the part of the past that has the key and the stamp
abbrev pub IsSpotOf : PagePlace → List Part → ℕ → ℕ → ℕ → ℕ → ColumnSpot → Type 0
IsSpotOf place parts start current key stamp (InLeaf leaf) = (leaf.start ≡ start) × (leaf.page ≡ current) × (start ≤ stamp)
IsSpotOf place parts start current key stamp (InPast past) = IsPartOf (past_range (keys_at place) start) parts (range_of past.bounds) past.part × IsPoint (range_of past.bounds) key stamp

-- a place in the past has the key and the stamp
abbrev pub HasPoint : ℕ → ℕ → ColumnSpot → Type 0
HasPoint key stamp (InLeaf leaf) = Unit {0}
HasPoint key stamp (InPast past) = IsPoint (range_of past.bounds) key stamp
