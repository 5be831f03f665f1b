use Rattle.std.proofs.Common.{◌≡◌, ◌<◌, ◌^◌, ◌++◌, map, take, drop}
use Rattle.std.specs.List.{AllByRecursion}
use Rattle.tsb_node.specs.Columns.{scaled_part}
use Rattle.tsb_node.specs.Scaling.{scaled}
use Rattle.tsb_node.proofs.moments.scale_parts.Given as goal

abbrev pub invariant-loop-part : goal.invariant-loop-part
invariant-loop-part l = AllByRecursion (λ p. scaled l.k p.start < 256 ^ 16) l.initial.parts → l.parts ≡ map (scaled_part l.k) (take l.part-index l.initial.parts) ++ drop l.part-index l.initial.parts
