use Rattle.std.proofs.Common.{◌++◌, codes, decimal, take, flat_map}
use Rattle.service.specs.Outputs.{Reports}
use Rattle.service.proofs.feed_lines.write_numbers.Given as goal

abbrev pub invariant-loop-number : goal.invariant-loop-number
invariant-loop-number g l = Reports l.initial.out l.out (flat_map (λ n. codes "|" ++ decimal n) (take l.number-index l.numbers))
