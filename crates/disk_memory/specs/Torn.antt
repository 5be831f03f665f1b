-- What is laid over a range that a failure or a crash may have changed.
use Rattle.std.specs.Prelude.{ℕ, ◌-◌, ◌/◌, List, [], ◌++◌, length, take, replicate}
use Rattle.disk_memory.specs.declared.torn.Torn.{Torn}
use Rattle.disk_memory.specs.declared.torn.Torn.TheVariants.{Old, New, Half, Gate, Octets}

-- what comes to stand from the range's start on, where `new` was being written
abbrev pub torn_octets : Torn → List ℕ → List ℕ
torn_octets Old new = []
torn_octets New new = new
torn_octets Half new = take (length new / 2) new ++ replicate (length new - length new / 2) 255
torn_octets Gate new = replicate (length new) 165
torn_octets (Octets octets) new = octets.items
