use Rattle.std.proofs.Common.{rules}
use Rattle.file_archive.proofs.OpenCount.{counted, newest_one}
use Rattle.file_archive.proofs.slots.find_newest.Goals as goal

pub loop-slot-preserved : goal.loop-slot-preserved
loop-slot-preserved g c = record {
  serves = search rules;
  stays = search rules;
  most = search rules;
  one = λ honest.
      let now = c.loop-slot.invariant.serves.honest.0 honest in
      let same = (c.loop-slot.invariant.stays honest).same in
      rw (c.max.ensures, c.unwrap_or.ensures) (newest_one _ _ _ _ _ same c.loop-slot-test.true (c.in_ok-number.ensures.open now) (c.loop-slot.invariant.one honest));
  few = search rules;
  count = λ honest.
      let now = c.loop-slot.invariant.serves.honest.0 honest in
      let same = (c.loop-slot.invariant.stays honest).same in
      rw (c.from.ensures, c.is_some.ensures) (counted _ _ _ _ _ same (c.in_ok-number.ensures.open now) (c.in_ok-number.ensures.closed now) (c.loop-slot.invariant.count honest));
}
