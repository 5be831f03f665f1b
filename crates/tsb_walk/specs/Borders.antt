-- Up to which key lookups come.
use Rattle.std.specs.Prelude.{◌≡◌, ℕ, ◌<◌}
use Rattle.tsb_walk.specs.declared.looks.Reached.{Reached}
use Rattle.tsb_walk.specs.declared.looks.Reached.TheVariants.{At, Past, End}
use Rattle.version_model.specs.Ranges.{key_end}

-- a lookup has come to a key below this one, or exactly up to it
abbrev pub ReachesTo : ℕ → Reached → Type 0
ReachesTo high (At key found) = key < high
ReachesTo high (Past to) = to ≡ high
ReachesTo high End = high ≡ key_end
