use Rattle.std.proofs.Common.{arith, ◌≡◌, ◌∙◌, ℕ, length, sym, subst, refl}
use Rattle.std.proofs.lemmas.Bool.{eqb-true, eq-eqb}
use Rattle.version_model.specs.declared.part.Part.{Part}
use Rattle.tsb_node.specs.Columns.{part_octets}
use Rattle.tsb_node.specs.inner.Rows.{IsNextNumber}
use Rattle.tsb_node.specs.inner.PartReading.{IsPartBefore}
use Rattle.tsb_node.proofs.PartLaws.{parts_encoded, front-size}
use Rattle.tsb_node.proofs.RowLaws.{HasRead, read_start, read_on, read_end, row_represents, nothing_after, front_one}
use Rattle.tsb_node.proofs.column_reading.are_parts.Goals as goal

abbrev begun : Part → ℕ
begun p = p.start

pub loop-init : goal.loop-init
loop-init c = read_start part_octets (IsPartBefore c.args.end.now) begun 25 (parts_encoded c.args.end.now) c.args.start c.args.bytes.now

pub returns-in_default : goal.returns-in_default
returns-in_default c = (
  λ e. absurd cc,
  λ are. absurd (
      let s = row_represents part_octets (IsPartBefore c.args.end.now) begun 25 (parts_encoded c.args.end.now) c.args.start c.loop.counter c.args.count c.loop.last c.args.bytes.now c.loop.rest.now are.0 c.loop.invariant are.1 c.loop-test.true in
      c.in_default.ensures.none s.0 s.1),
)

pub returns-then-not-is_next_start : goal.returns-then-not-is_next_start
returns-then-not-is_next_start c = (
  λ e. absurd cc,
  λ are. (
      let sp = parts_encoded c.args.end.now in
      let s = row_represents part_octets (IsPartBefore c.args.end.now) begun 25 sp c.args.start c.loop.counter c.args.count c.loop.last c.args.bytes.now c.loop.rest.now are.0 c.loop.invariant are.1 c.loop-test.true in
      let same : s.0 ≡ c.in-Some.part = front_one part_octets (IsPartBefore c.args.end.now) begun 25 sp c.args.start c.loop.rest.now s.0 c.in-Some.part s.1 c.in-Some.ensures.found in
      c.if-not-is_next_start.ensures.1 (subst (λ (p : Part). IsNextNumber c.args.start c.loop.last p.start) same s.2)),
)

pub split_at-requires : goal.split_at-requires
split_at-requires c = front-size c.args.end.now c.loop.rest.now c.in-Some.part c.in-Some.ensures.found

pub loop-preserved : goal.loop-preserved
loop-preserved c =
    rw c.split_at.ensures.back
    (read_on part_octets (IsPartBefore c.args.end.now) begun 25 (parts_encoded c.args.end.now) c.args.start c.loop.counter c.loop.last c.args.bytes.now c.loop.rest.now c.in-Some.part c.loop.invariant c.in-Some.ensures.found
    (c.if-not-is_next_start.ensures.0 refl))

pub returns : goal.returns
returns c =
    let sp = parts_encoded c.args.end.now in
    let done : c.loop.counter ≡ c.args.count = omega (arith, c.loop-test.false, c.loop.auto.counter-end) in
    let read = subst (λ (n : ℕ). HasRead part_octets (IsPartBefore c.args.end.now) begun c.args.start n c.loop.last c.args.bytes.now c.loop.rest.now) done c.loop.invariant in (
      λ yes. (read.rows, read_end part_octets (IsPartBefore c.args.end.now) begun 25 sp c.args.start c.args.count c.loop.last c.args.bytes.now c.loop.rest.now read (eqb-true (length c.loop.rest.now) 0 (sym c.is_empty.ensures ∙ yes))),
      λ are. (let none = nothing_after part_octets (IsPartBefore c.args.end.now) begun 25 sp c.args.start c.args.count c.loop.last c.args.bytes.now c.loop.rest.now are.0 read are.1 in
          c.is_empty.ensures ∙ eq-eqb (length c.loop.rest.now) 0 none),
    )
