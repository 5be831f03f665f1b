use Rattle.std.proofs.Common.{Err, ap, subst, sym}
use Rattle.query_threads.specs.Troubles.{IsOutside}
use Rattle.query_threads.specs.declared.refusal.Trouble.{Trouble}
use Rattle.shared_archive.proofs.Asking.{keeps_inside, located_known, settled_still}
use Rattle.shared_archive.proofs.Serving.{reading_is_outside}
use Rattle.shared_archive.specs.Reported.{Misses}
use Rattle.shared_archive.proofs.Reporting.{block_misses}
use Rattle.shared_archive.proofs.turns.finish.Goals as goal

pub returns-in-Ok-clause-kept : goal.returns-in-Ok-clause-kept
returns-in-Ok-clause-kept g c p on kept =
    let d = g.O.OnceDisk in
    let l = located_known d c.args.reader.now c.args.seen.now c.args.errand c.args.cursor.now p kept on.follows on.represents_all on.found in
    settled_still d c.args.reader.now c.args.seen.now c.finish.new.reader c.finish.new.seen (c.finish.ensures.reads p.history l) (c.finish.ensures.inside (keeps_inside d c.args.reader.now c.args.seen.now kept)) c.finish.ensures.disk (c.finish.ensures.known on.follows)

pub returns-in-Err-clause-kept : goal.returns-in-Err-clause-kept
returns-in-Err-clause-kept g c p on kept =
    let d = g.O.OnceDisk in
    let l = located_known d c.args.reader.now c.args.seen.now c.args.errand c.args.cursor.now p kept on.follows on.represents_all on.found in
    settled_still d c.args.reader.now c.args.seen.now c.finish.new.reader c.finish.new.seen (c.finish.ensures.reads p.history l) (c.finish.ensures.inside (keeps_inside d c.args.reader.now c.args.seen.now kept)) c.finish.ensures.disk (c.finish.ensures.known on.follows)

pub returns-in-Ok-clause-gathered : goal.returns-in-Ok-clause-gathered
returns-in-Ok-clause-gathered g c p on kept = c.in-Ok.ensures.gathered p.history (located_known g.O.OnceDisk c.args.reader.now c.args.seen.now c.args.errand c.args.cursor.now p kept on.follows on.represents_all on.found)

pub returns-in-Err-clause-sound : goal.returns-in-Err-clause-sound
returns-in-Err-clause-sound g c p on kept =
    let l = located_known g.O.OnceDisk c.args.reader.now c.args.seen.now c.args.errand c.args.cursor.now p kept on.follows on.represents_all on.found in
    subst (λ (t : Trouble). IsOutside t) (sym c.block_trouble.ensures.why) (reading_is_outside c.in-Err.refusal (λ block is. c.in-Err.ensures.undamaged p.history l block (ap Err is)))

pub returns-in-Err-clause-trouble : goal.returns-in-Err-clause-trouble
returns-in-Err-clause-trouble g c =
    subst (λ (t : Trouble). Misses g.O.OnceDisk c.args.seen.now t c.finish.new.seen) (sym c.block_trouble.ensures.why) (block_misses g.O.OnceDisk c.args.seen.now c.finish.new.seen c.in-Err.refusal c.in-Err.ensures.quiet c.in-Err.ensures.counted)
