-- What lookups that begin at current pages return.
use Rattle.std.specs.Prelude.{◌≡◌, ℕ, ◌<◌, ◌≤◌, List, Option, None}
use Rattle.tsb_walk.specs.declared.looks.Descended.{Descended}
use Rattle.tsb_walk.specs.declared.looks.Descended.TheVariants as descended
use Rattle.tsb_walk.specs.declared.looks.KeyVersions.{KeyVersions}
use Rattle.tsb_walk.specs.declared.looks.Looked.{Looked}
use Rattle.tsb_walk.specs.declared.looks.Looked.TheVariants as looked
use Rattle.tsb_walk.specs.declared.looks.Parted.{Parted}
use Rattle.tsb_walk.specs.declared.looks.Parted.TheVariants as parted
use Rattle.tsb_walk.specs.declared.looks.Reached.{Reached}
use Rattle.tsb_walk.specs.declared.looks.Reached.TheVariants.{At, Past, End}
use Rattle.tsb_walk.specs.Answers.{found_as, reached_as}
use Rattle.version_model.specs.declared.part.Place.{Place}
use Rattle.version_model.specs.Versions.{Version, Answers}
use Rattle.version_model.specs.Ranges.{IsPoint, range_of, end_or}
use Rattle.version_model.specs.Looks.{IsReached, IsPart}
use Rattle.version_model.specs.Blocks.{BlockNode, PlaceRepresents}
use Rattle.version_model.specs.Entries.{versions_of}

-- the place in the past has the key and the stamp, and represents the versions there
pub record GoesOnIn (blocks : ℕ → Option BlockNode) (all : List Version) (key stamp : ℕ) (place : Place) : Type 0 where
  pub point : IsPoint (range_of place.bounds) key stamp
  pub represents_all : PlaceRepresents blocks all place

-- what is returned about the next key from this one on as of the stamp is true of these versions; or the lookup goes on in the place that is returned
abbrev pub IsLooked : (ℕ → Option BlockNode) → List Version → ℕ → ℕ → Looked → Type 0
IsLooked blocks all key stamp (looked.Here reached) = IsReached all stamp key (reached_as reached)
IsLooked blocks all key stamp (looked.InBlock place) = GoesOnIn blocks all key stamp place

-- what is returned about the key's versions from the stamp on is true of these versions; or the lookup goes on in the place that is returned
abbrev pub IsParted : (ℕ → Option BlockNode) → List Version → ℕ → ℕ → Parted → Type 0
IsParted blocks all key stamp (parted.Here part) = IsPart all key stamp (versions_of part.entries.items) part.reported
IsParted blocks all key stamp (parted.InBlock place) = GoesOnIn blocks all key stamp place

-- what is returned about the key as of the stamp is true of these versions; or the lookup goes on in the place that is returned
abbrev pub IsDescended : (ℕ → Option BlockNode) → List Version → ℕ → ℕ → Descended → Type 0
IsDescended blocks all key stamp (descended.Here found) = Answers all key stamp (found_as found)
IsDescended blocks all key stamp (descended.InBlock place) = GoesOnIn blocks all key stamp place

-- a lookup has come to the key where it began or a later one; a key up to which none has a value is above it
abbrev pub GoesOnFrom : ℕ → Reached → Type 0
GoesOnFrom key (At found value) = key ≤ found
GoesOnFrom key (Past high) = key < high
GoesOnFrom key End = Unit {0}

-- versions are returned up to a stamp above the one where the lookup began
abbrev pub ReportsFrom : ℕ → KeyVersions → Type 0
ReportsFrom stamp part = stamp < end_or part.reported

-- if a lookup returns how far it has come, it goes on from this key
abbrev pub LooksOn : ℕ → Looked → Type 0
LooksOn key (looked.Here reached) = GoesOnFrom key reached
LooksOn key (looked.InBlock place) = Unit {0}

-- if a lookup returns a place in the past, that has the key and the stamp
abbrev pub LooksAt : ℕ → ℕ → Looked → Type 0
LooksAt key stamp (looked.Here reached) = Unit {0}
LooksAt key stamp (looked.InBlock place) = IsPoint (range_of place.bounds) key stamp

-- if a lookup goes on in the past, it does so in a block below this number
abbrev pub LooksBelow : ℕ → Looked → Type 0
LooksBelow number (looked.Here reached) = Unit {0}
LooksBelow number (looked.InBlock place) = place.part.block < number

-- the same of a lookup of versions
abbrev pub PartsBelow : ℕ → Parted → Type 0
PartsBelow number (parted.Here part) = Unit {0}
PartsBelow number (parted.InBlock place) = place.part.block < number

-- the same of a lookup of a key
abbrev pub DescendsBelow : ℕ → Descended → Type 0
DescendsBelow number (descended.Here found) = Unit {0}
DescendsBelow number (descended.InBlock place) = place.part.block < number

-- if a lookup of versions returns a place in the past, that has the key and the stamp
abbrev pub PartsAt : ℕ → ℕ → Parted → Type 0
PartsAt key stamp (parted.Here part) = Unit {0}
PartsAt key stamp (parted.InBlock place) = IsPoint (range_of place.bounds) key stamp

-- the same of a lookup of a key
abbrev pub DescendsAt : ℕ → ℕ → Descended → Type 0
DescendsAt key stamp (descended.Here found) = Unit {0}
DescendsAt key stamp (descended.InBlock place) = IsPoint (range_of place.bounds) key stamp

-- if a lookup returns versions, they are all that there are from its stamp on
abbrev pub ReportsAll : Parted → Type 0
ReportsAll (parted.Here part) = part.reported ≡ None
ReportsAll (parted.InBlock place) = Unit {0}
