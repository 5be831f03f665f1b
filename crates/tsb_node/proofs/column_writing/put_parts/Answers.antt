use Rattle.std.proofs.Common.{arith, ◌≡◌, Some, length, slice_get, ◌≤◌, refl}
use Rattle.std.proofs.lemmas.Option.{slice_get_read}
use Rattle.tsb_node.proofs.ColumnWriting.{put_start, put_on, put_end, put_each}
use Rattle.tsb_node.proofs.column_writing.put_parts.Goals as goal

pub loop-part-init : goal.loop-part-init
loop-part-init g c = put_start c.args.parts.now c.args.sheet.now

pub put_part-requires : goal.put_part-requires
put_part-requires g c = record { room = omega (arith, c.loop-part.invariant.at_is, c.loop-part-test.true, c.requires.room) }

pub overflow_add-at : goal.overflow_add-at
overflow_add-at g c = omega (arith, c.loop-part.invariant.at_is, c.loop-part-test.true, c.requires.room)

pub loop-part-preserved : goal.loop-part-preserved
loop-part-preserved g c =
    let ps = c.args.parts.now in
    let p = c.part-item.result in
    let is : slice_get ps c.loop-part.part-index ≡ Some p = slice_get_read ps (length ps) c.loop-part.part-index p refl c.loop-part-test.true c.part-item.is in
    rw c.put_part.ensures.laid (put_on ps c.loop-part.part-index c.loop-part.at p _ c.loop-part.sheet c.requires.room c.loop-part-test.true is c.put_part.ensures.fits c.loop-part.invariant)

pub returns : goal.returns
returns g c =
    let done : length c.args.parts.now ≤ c.loop-part.part-index = omega (arith, c.loop-part-test.false) in
    record {
      fits = put_each c.args.parts.now c.loop-part.part-index c.loop-part.at _ c.loop-part.sheet done c.loop-part.invariant;
      filling = put_end c.args.parts.now c.loop-part.part-index c.loop-part.at _ c.loop-part.sheet done c.loop-part.invariant;
    }
