-- For which key and stamp a place in the past is returned.
use Rattle.std.specs.Prelude.{ℕ}
use Rattle.tsb_walk.specs.declared.looks.Looked.{Looked}
use Rattle.tsb_walk.specs.declared.looks.Looked.TheVariants as looked
use Rattle.tsb_walk.specs.declared.looks.Parted.{Parted}
use Rattle.tsb_walk.specs.declared.looks.Parted.TheVariants as parted
use Rattle.version_model.specs.Ranges.{IsPoint, range_of}

-- if a look for the next key returns a place in the past, that place has the key and the stamp
abbrev pub LooksAt : ℕ → ℕ → Looked → Type 0
LooksAt key stamp (looked.Here reached) = Unit {0}
LooksAt key stamp (looked.InBlock place) = IsPoint (range_of place.bounds) key stamp

-- the same of a look for the versions of a key
abbrev pub PartsAt : ℕ → ℕ → Parted → Type 0
PartsAt key stamp (parted.Here part) = Unit {0}
PartsAt key stamp (parted.InBlock place) = IsPoint (range_of place.bounds) key stamp
