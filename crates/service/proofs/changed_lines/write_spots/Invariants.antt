use Rattle.std.proofs.Common.{◌≡◌, ◌++◌, take, string_bytes, flat_map}
use Rattle.service.specs.AnswerLines.{changed_line}
use Rattle.service.proofs.changed_lines.write_spots.Given as goal

abbrev pub invariant-loop-spot : goal.invariant-loop-spot
invariant-loop-spot l = string_bytes l.out ≡ string_bytes l.initial.out ++ flat_map changed_line (take l.spot-index l.spots)
