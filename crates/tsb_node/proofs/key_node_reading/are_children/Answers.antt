use Rattle.std.proofs.Common.{arith, ◌≡◌, ◌∙◌, ℕ, length, sym, subst, refl}
use Rattle.std.proofs.lemmas.Bool.{eqb-true, eq-eqb}
use Rattle.version_model.specs.declared.child.Child.{Child}
use Rattle.tsb_node.specs.KeyNodes.{child_octets, IsChildEntry}
use Rattle.tsb_node.specs.inner.Rows.{IsNextNumber}
use Rattle.tsb_node.proofs.ChildLaws.{children_encoded, child_front-size}
use Rattle.tsb_node.proofs.RowLaws.{HasRead, read_start, read_on, read_end, row_represents, nothing_after, front_one}
use Rattle.tsb_node.proofs.key_node_reading.are_children.Goals as goal

abbrev lowest : Child → ℕ
lowest p = p.low

pub loop-init : goal.loop-init
loop-init c = read_start child_octets (IsChildEntry c.args.bounds.now) lowest 48 (children_encoded c.args.bounds.now) c.args.bounds.now.low c.args.bytes.now

pub returns-in_default : goal.returns-in_default
returns-in_default c = (
  λ e. absurd cc,
  λ are. absurd (
      let s = row_represents child_octets (IsChildEntry c.args.bounds.now) lowest 48 (children_encoded c.args.bounds.now) c.args.bounds.now.low c.loop.counter c.args.count c.loop.last c.args.bytes.now c.loop.rest.now are.0 c.loop.invariant are.1 c.loop-test.true in
      c.in_default.ensures.none s.0 s.1),
)

pub returns-then-not-is_next_low : goal.returns-then-not-is_next_low
returns-then-not-is_next_low c = (
  λ e. absurd cc,
  λ are. (
      let sp = children_encoded c.args.bounds.now in
      let s = row_represents child_octets (IsChildEntry c.args.bounds.now) lowest 48 sp c.args.bounds.now.low c.loop.counter c.args.count c.loop.last c.args.bytes.now c.loop.rest.now are.0 c.loop.invariant are.1 c.loop-test.true in
      let same : s.0 ≡ c.in-Some.child = front_one child_octets (IsChildEntry c.args.bounds.now) lowest 48 sp c.args.bounds.now.low c.loop.rest.now s.0 c.in-Some.child s.1 c.in-Some.ensures.found in
      c.if-not-is_next_low.ensures.1 (subst (λ (p : Child). IsNextNumber c.args.bounds.now.low c.loop.last p.low) same s.2)),
)

pub split_at-requires : goal.split_at-requires
split_at-requires c = child_front-size c.args.bounds.now c.loop.rest.now c.in-Some.child c.in-Some.ensures.found

pub loop-preserved : goal.loop-preserved
loop-preserved c =
    rw c.split_at.ensures.back
    (read_on child_octets (IsChildEntry c.args.bounds.now) lowest 48 (children_encoded c.args.bounds.now) c.args.bounds.now.low c.loop.counter c.loop.last c.args.bytes.now c.loop.rest.now c.in-Some.child c.loop.invariant c.in-Some.ensures.found
    (c.if-not-is_next_low.ensures.0 refl))

pub returns : goal.returns
returns c =
    let sp = children_encoded c.args.bounds.now in
    let done : c.loop.counter ≡ c.args.count = omega (arith, c.loop-test.false, c.loop.auto.counter-end) in
    let read = subst (λ (n : ℕ). HasRead child_octets (IsChildEntry c.args.bounds.now) lowest c.args.bounds.now.low n c.loop.last c.args.bytes.now c.loop.rest.now) done c.loop.invariant in (
      λ yes. (read.rows, read_end child_octets (IsChildEntry c.args.bounds.now) lowest 48 sp c.args.bounds.now.low c.args.count c.loop.last c.args.bytes.now c.loop.rest.now read (eqb-true (length c.loop.rest.now) 0 (sym c.is_empty.ensures ∙ yes))),
      λ are. (let none = nothing_after child_octets (IsChildEntry c.args.bounds.now) lowest 48 sp c.args.bounds.now.low c.args.count c.loop.last c.args.bytes.now c.loop.rest.now are.0 read are.1 in
          c.is_empty.ensures ∙ eq-eqb (length c.loop.rest.now) 0 none),
    )
