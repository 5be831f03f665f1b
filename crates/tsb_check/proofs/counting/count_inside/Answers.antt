use Rattle.std.proofs.Common.{arith}
use Rattle.std.proofs.lemmas.Bool.{both_ways}
use Rattle.version_model.specs.Entries.{versions_of, version_of}
use Rattle.version_model.specs.Ranges.{range_of}
use Rattle.version_model.proofs.Entries.{read_at, length-versions}
use Rattle.tsb_check.proofs.Tallies.{count_yes, count_no, count_all}
use Rattle.tsb_check.proofs.counting.count_inside.Goals as goal
use Rattle.tsb_check.proofs.counting.count_inside.Goals.{then-is_inside, else-is_inside}

pub loop-entry-preserved : goal.loop-entry-preserved
loop-entry-preserved c =
    let vs = versions_of c.args.entries.now in
    let e = c.entry-item.result in
    let n = c.loop-entry.entry-index in
    let at = read_at c.args.entries.now n e (omega arith) c.entry-item.is in
    let r = range_of c.args.bounds.now in
    let i = c.loop-entry.invariant in
    elim c.if-is_inside.branch [
      | then-is_inside w ↦ rw w.count-is (record { counts = count_yes r vs n c.loop-entry.count (version_of e) at i.counts (c.is_inside.ensures.0 w.if-is_inside.true); few = omega (arith, i.few) })
      | else-is_inside w ↦ rw w.count-is (record { counts = count_no r vs n c.loop-entry.count (version_of e) at i.counts (λ is. both_ways _ w.if-is_inside.false (c.is_inside.ensures.1 is)); few = omega (arith, i.few) })
    ]

pub returns : goal.returns
returns c = count_all (range_of c.args.bounds.now) (versions_of c.args.entries.now) c.loop-entry.entry-index c.loop-entry.count (omega (arith, length-versions c.args.entries.now)) c.loop-entry.invariant.counts
