use Rattle.std.proofs.Common.{rules, ◌≡◌, Err}
use Rattle.tsb_node.specs.declared.leaf_part.ReadFault.TheVariants.{NotANode}
use Rattle.version_model.specs.Entries.{versions_of}
use Rattle.tsb_walk.proofs.Leaves.{part_reported}
use Rattle.tsb_walk.proofs.looks.part_in.Goals as goal

pub returns-in-Ok-clause-part : goal.returns-in-Ok-clause-part
returns-in-Ok-clause-part c = λ all r leaf begins shows rising end point.
    part_reported all r leaf c.args.octets.now c.args.key c.args.from c.args.end.now (versions_of c.in-Ok.entries.items) begins shows rising end point (c.in-Ok.ensures.part leaf begins)

pub returns-in-Err-clause-leaf : goal.returns-in-Err-clause-leaf
returns-in-Err-clause-leaf c = λ leaf begins e.
    let d : c.part.result ≡ Err NotANode = search rules in
    c.part.ensures.refused leaf begins d
