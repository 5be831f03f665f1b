use Rattle.std.proofs.Common.{take, flat_map}
use Rattle.service.specs.Outputs.{Reports}
use Rattle.service.specs.FeedLines.{late_line}
use Rattle.service.proofs.feed_lines.write_admitted.Given as goal

abbrev pub invariant-loop-late : goal.invariant-loop-late
invariant-loop-late g l = Reports l.initial.out l.out (flat_map late_line (take l.late-index l.late-items))
