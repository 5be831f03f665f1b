use Rattle.std.proofs.Common.{◌≡◌, ◌++◌, take, string_bytes, flat_map}
use Rattle.route_text.specs.RouteText.{octet_text}
use Rattle.route_text.proofs.hexadecimal.write_octets.Given as goal

abbrev pub invariant-loop-octet : goal.invariant-loop-octet
invariant-loop-octet l = string_bytes l.out ≡ string_bytes l.fn.out ++ flat_map octet_text (take l.octet-index l.octets)
