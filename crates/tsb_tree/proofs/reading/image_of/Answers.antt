use Rattle.std.proofs.Common.{arith}
use Rattle.tsb_tree.proofs.reading.image_of.Goals as goal

pub copied-requires-clause-inside : goal.copied-requires-clause-inside
copied-requires-clause-inside g c = omega (arith, c.in_ok-see.ensures.inside, c.in_ok-see.ensures.reads.homes)
