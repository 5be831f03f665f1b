use Rattle.tsb_node.proofs.LeafReading.{leaf_from, leaf_entries}
use Rattle.tsb_node.proofs.leaf_reading.leaf_bounds.Goals as goal

pub returns-then-not-is_of_kind-clause-none : goal.returns-then-not-is_of_kind-clause-none
returns-then-not-is_of_kind-clause-none c = λ leaf of. absurd (cc (c.is_of_kind.ensures.1 (of.kind, of.level), c.if-not-is_of_kind.true))

pub returns-then-not-are_entries-clause-none : goal.returns-then-not-are_entries-clause-none
returns-then-not-are_entries-clause-none c = λ leaf of. absurd (cc (c.are_entries.ensures.1 (leaf_entries c.args.header.now c.args.entries.now leaf of), c.if-not-are_entries.true))

pub returns-clause-found : goal.returns-clause-found
returns-clause-found c =
    let kind = c.is_of_kind.ensures.0 (cc c.if-not-is_of_kind.false) in
    leaf_from c.args.header.now c.args.entries.now c.requires.node kind.0 kind.1 (c.are_entries.ensures.0 (cc c.if-not-are_entries.false))
