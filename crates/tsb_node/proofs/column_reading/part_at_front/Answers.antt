use Rattle.std.proofs.Common.{arith, ap, length, drop}
use Rattle.std.proofs.lemmas.List.{length-append}
use Rattle.tsb_node.specs.Columns.{part_octets}
use Rattle.tsb_node.proofs.PartLaws.{part-size}
use Rattle.tsb_node.proofs.column_reading.part_at_front.Goals as goal

pub returns-then-bytes-lt25-clause-none : goal.returns-then-bytes-lt25-clause-none
returns-then-bytes-lt25-clause-none c = λ p front.
    omega (arith, ap length front.encoded, length-append (part_octets p) (drop 25 c.args.bytes.now), part-size p, c.if-bytes-lt25.true)
