use Rattle.std.proofs.Common.{◌∙◌, ap, sym, subst}
use Rattle.std.specs.Option.{is_some}
use Rattle.version_model.specs.declared.bounds.Bounds.{Bounds}
use Rattle.tsb_node.specs.inner.NodeReading.{BeginsAsNode}
use Rattle.tsb_node.proofs.ReadingLaws.{some_from, some_not_none}
use Rattle.tsb_node.proofs.NodeLaws.{block_begins, block_made, block_digest, nodes_same}
use Rattle.tsb_node.proofs.node_reading.node_of_block.Goals as goal

pub returns-then-not-is_whole-clause-none : goal.returns-then-not-is_whole-clause-none
returns-then-not-is_whole-clause-none c = λ h es block.
    absurd (cc (c.is_whole.ensures.whole.1 (sym (block_digest h es c.args.block.now block)), c.if-not-is_whole.true))

pub returns-in_default-clause-none : goal.returns-in_default-clause-none
returns-in_default-clause-none c = λ h es block.
    absurd (c.in_default.ensures.none h es (subst (BeginsAsNode h es) (sym c.octets.ensures.value) (block_begins h es c.args.block.now block)))

pub returns-then-is_none-clause-none : goal.returns-then-is_none-clause-none
returns-then-is_none-clause-none c = λ h es block.
    let found = c.in-Some.ensures.found in
    let other = subst (BeginsAsNode c.in-Some.header c.in-Some.entries.now) c.octets.ensures.value found in
    let same = (nodes_same c.in-Some.header h c.in-Some.entries.now es c.args.block.now other (block_begins h es c.args.block.now block)).bounds in
    let end = ap (λ (b : Bounds). b.end) same in
    absurd (some_not_none h.bounds.end c.is_none.result block.block.ended (ap is_some (sym end) ∙ c.is_none.ensures) c.if-is_none.true)

pub returns-clause-found : goal.returns-clause-found
returns-clause-found c =
    let found = c.in-Some.ensures.found in
    let other = subst (BeginsAsNode c.in-Some.header c.in-Some.entries.now) c.octets.ensures.value found in
    block_made c.in-Some.header c.in-Some.entries.now c.args.block.now other (some_from c.in-Some.header.bounds.end c.is_none.result c.is_none.ensures c.if-is_none.false) (sym (c.is_whole.ensures.whole.0 (cc c.if-not-is_whole.false)))
