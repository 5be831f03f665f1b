use Rattle.std.proofs.Common.{arith, ℕ, None}
use Rattle.version_model.specs.declared.part.Part.{Part}
use Rattle.tsb_node.specs.Columns.{part_octets}
use Rattle.tsb_node.specs.inner.PartReading.{IsPartBefore}
use Rattle.tsb_node.proofs.PartLaws.{parts_encoded, front-size, open_front, same_front}
use Rattle.tsb_node.proofs.RowLaws.{kept_start, kept_front, kept_on, kept_all}
use Rattle.tsb_node.proofs.column_reading.parts_kept.Goals as goal

abbrev begun : Part → ℕ
begun p = p.start

pub loop-init : goal.loop-init
loop-init c = λ start end parts are. rw c.new-kept.ensures.items (kept_start part_octets (IsPartBefore end) begun 25 (parts_encoded end) start c.args.count c.args.bytes.now parts are)

pub returns-in_default-clause-refused : goal.returns-in_default-clause-refused
returns-in_default-clause-refused c = λ start end parts are e.
    let t = kept_front part_octets (IsPartBefore end) begun 25 (parts_encoded end) start c.args.count c.args.bytes.now parts are c.loop.kept.items c.loop.counter c.loop.rest.now (c.loop.invariant start end parts are) c.loop-test.true in
    c.in_default.ensures.none t.0 (open_front end c.loop.rest.now t.0 t.1)

pub split_at-requires : goal.split_at-requires
split_at-requires c = front-size None c.loop.rest.now c.in-Some.part c.in-Some.ensures.found

pub loop-preserved : goal.loop-preserved
loop-preserved c = λ start end parts are.
    let k = c.loop.invariant start end parts are in
    let t = kept_front part_octets (IsPartBefore end) begun 25 (parts_encoded end) start c.args.count c.args.bytes.now parts are c.loop.kept.items c.loop.counter c.loop.rest.now k c.loop-test.true in
    let front = same_front end c.loop.rest.now t.0 c.in-Some.part t.1 c.in-Some.ensures.found in
    rw (c.split_at.ensures.back, c.in_ok-keep.ensures)
    (kept_on part_octets (IsPartBefore end) begun 25 (parts_encoded end) start c.args.count c.args.bytes.now parts are c.loop.kept.items c.loop.counter c.loop.rest.now c.in-Some.part k c.loop-test.true front)

pub returns-clause-parts : goal.returns-clause-parts
returns-clause-parts c = λ start end parts are.
    kept_all part_octets (IsPartBefore end) begun 25 (parts_encoded end) start c.args.count c.args.bytes.now parts are c.loop.kept.items c.loop.counter c.loop.rest.now (c.loop.invariant start end parts are)
    (omega (arith, c.loop-test.false))
