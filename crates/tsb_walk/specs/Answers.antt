-- What lookups return, in the terms of the tree.
use Rattle.std.specs.Prelude.{Option, Some, None}
use Rattle.tsb_walk.specs.declared.looks.Found.{Found}
use Rattle.tsb_walk.specs.declared.looks.Reached.{Reached}
use Rattle.tsb_walk.specs.declared.looks.Reached.TheVariants.{At, Past, End}
use Rattle.version_model.specs.Versions.{Found as FoundValue, found_at}
use Rattle.version_model.specs.Looks.{Reached as Reach, At as ReachAt, Past as ReachPast, End as ReachEnd}

-- what was found, as a term of the tree
abbrev pub found_as : Option Found → Option FoundValue
found_as None = None
found_as (Some found) = Some (found_at found.stamp found.value.items)

-- how far a lookup has come, as a term of the tree
abbrev pub reached_as : Reached → Reach
reached_as (At key found) = ReachAt key (found_at found.stamp found.value.items)
reached_as (Past high) = ReachPast high
reached_as End = ReachEnd
