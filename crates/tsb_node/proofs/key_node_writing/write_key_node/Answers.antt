use Rattle.std.proofs.Common.{arith, ◌≡◌, ◌∙◌, ◌*◌, ◌+◌, ℕ, List, Some, length, slice_get, ap, refl}
use Rattle.std.proofs.lemmas.Option.{slice_get_read}
use Rattle.disk_models.specs.Octets.{zeros}
use Rattle.tsb_node.specs.Nodes.{header, unit_now}
use Rattle.tsb_node.specs.inner.Laying.{laid}
use Rattle.tsb_node.proofs.NumberLaws.{octets_of-size}
use Rattle.tsb_node.proofs.Laying.{laid_is}
use Rattle.tsb_node.proofs.WritingLaws.{filling_start, written_start, written_on, written_end}
use Rattle.tsb_node.proofs.key_node_writing.write_key_node.Goals as goal

pub loop-child-init : goal.loop-child-init
unfolding zeros
loop-child-init c =
    let n = length c.args.children.now in
    let h = header 3 unit_now c.args.level n (48 * n) c.args.bounds.now in
    written_start h c.args.children.now c.put_header.new.page (filling_start unit_now 3 c.args.level n (48 * n) c.args.bounds.now c.put_header.new.page (c.put_header.ensures ∙ ap (laid 0 h) c.clear.ensures))

pub put-requires : goal.put-requires
put-requires c = omega (arith, c.loop-child.invariant.at_is, c.loop-child-test.true, c.requires.valid.fits, ap length c.key_octets.ensures, octets_of-size 40 c.child-item.result.low)

pub overflow_add-at : goal.overflow_add-at
overflow_add-at c = omega (arith, c.loop-child.invariant.at_is, c.loop-child-test.true, c.requires.valid.fits)

pub put-requires-in-loop-child : goal.put-requires-in-loop-child
put-requires-in-loop-child c = omega (arith, c.loop-child.invariant.at_is, c.loop-child-test.true, c.requires.valid.fits, ap length c.eight_octets.ensures.octets, octets_of-size 8 c.child-item.result.page)

pub overflow_add-at-in-loop-child : goal.overflow_add-at-in-loop-child
overflow_add-at-in-loop-child c = omega (arith, c.loop-child.invariant.at_is, c.loop-child-test.true, c.requires.valid.fits)

pub loop-child-preserved : goal.loop-child-preserved
loop-child-preserved c =
    let n = length c.args.children.now in
    let h = header 3 unit_now c.args.level n (48 * n) c.args.bounds.now in
    let child = c.child-item.result in
    let is : slice_get c.args.children.now c.loop-child.child-index ≡ Some child = slice_get_read c.args.children.now n c.loop-child.child-index child refl c.loop-child-test.true c.child-item.is in
    let one = laid_is c.loop-child.at c.key_octets.result c.loop-child.page c.put.new.self c.put.ensures ∙ ap (λ (t : List ℕ). laid c.loop-child.at t c.loop-child.page) c.key_octets.ensures in
    let two = laid_is (c.loop-child.at + 40) c.eight_octets.result c.put.new.self c.put-in-loop-child.new.self c.put-in-loop-child.ensures ∙ ap (λ (t : List ℕ). laid (c.loop-child.at + 40) t c.put.new.self) c.eight_octets.ensures.octets in
    rw (two, one) (written_on h c.args.children.now c.loop-child.child-index c.loop-child.at child c.loop-child.page c.requires.valid.fits c.loop-child-test.true is (c.key_fits.ensures.fits, c.eight_octets.ensures.fits) c.loop-child.invariant)

pub returns : goal.returns
returns c =
    let n = length c.args.children.now in
    written_end (record { level = c.args.level; bounds = c.args.bounds.now; children = c.args.children.now }) n (48 * n) c.loop-child.at c.loop-child.child-index c.loop-child.page c.requires.valid c.bounds_fit.ensures.fits refl refl
    (omega (arith, c.loop-child-test.false, c.loop-child.auto.child-index-end)) c.loop-child.invariant c.requires.current
