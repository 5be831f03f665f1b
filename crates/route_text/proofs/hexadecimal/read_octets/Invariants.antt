use Rattle.std.proofs.Common.{◌≡◌, ℕ, List, length, flat_map}
use Rattle.route_model.specs.Octets.{AreOctets}
use Rattle.route_text.specs.RouteText.{octet_text}
use Rattle.route_text.proofs.Hexadecimals.{OctetsLeft}
use Rattle.route_text.proofs.hexadecimal.read_octets.Given as goal

abbrev pub invariant-loop-high : goal.invariant-loop-high
invariant-loop-high l = (all : List ℕ) → AreOctets all → l.text ≡ flat_map octet_text all → OctetsLeft all l.octets.items l.rest

abbrev pub decreases-loop-high : goal.decreases-loop-high
decreases-loop-high l = length l.rest
