use Rattle.std.proofs.Common.{arith, ℕ}
use Rattle.version_model.specs.declared.child.Child.{Child}
use Rattle.tsb_node.specs.KeyNodes.{child_octets, IsChildEntry}
use Rattle.tsb_node.proofs.ChildLaws.{children_encoded, child_front-size}
use Rattle.tsb_node.proofs.RowLaws.{kept_start, kept_front, kept_on, kept_all}
use Rattle.tsb_node.proofs.key_node_reading.children_kept.Goals as goal

abbrev lowest : Child → ℕ
lowest c = c.low

pub loop-init : goal.loop-init
loop-init c = λ children are. rw c.new-kept.ensures.items (kept_start child_octets (IsChildEntry c.args.bounds.now) lowest 48 (children_encoded c.args.bounds.now) c.args.bounds.now.low c.args.count c.args.bytes.now children are)

pub returns-in_default-clause-refused : goal.returns-in_default-clause-refused
returns-in_default-clause-refused c = λ children are e.
    let b = c.args.bounds.now in
    let t = kept_front child_octets (IsChildEntry b) lowest 48 (children_encoded b) b.low c.args.count c.args.bytes.now children are c.loop.kept.items c.loop.counter c.loop.rest.now (c.loop.invariant children are) c.loop-test.true in
    c.in_default.ensures.none t.0 t.1

pub split_at-requires : goal.split_at-requires
split_at-requires c = child_front-size c.args.bounds.now c.loop.rest.now c.in-Some.child c.in-Some.ensures.found

pub loop-preserved : goal.loop-preserved
loop-preserved c = λ children are.
    let b = c.args.bounds.now in
    rw (c.split_at.ensures.back, c.in_ok-keep.ensures)
    (kept_on child_octets (IsChildEntry b) lowest 48 (children_encoded b) b.low c.args.count c.args.bytes.now children are c.loop.kept.items c.loop.counter c.loop.rest.now c.in-Some.child (c.loop.invariant children are) c.loop-test.true
    c.in-Some.ensures.found)

pub returns-clause-children : goal.returns-clause-children
returns-clause-children c = λ children are.
    let b = c.args.bounds.now in
    kept_all child_octets (IsChildEntry b) lowest 48 (children_encoded b) b.low c.args.count c.args.bytes.now children are c.loop.kept.items c.loop.counter c.loop.rest.now (c.loop.invariant children are)
    (omega (arith, c.loop-test.false))
