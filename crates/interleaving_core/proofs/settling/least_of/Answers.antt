use Rattle.std.proofs.Common.{◌≡◌, ◌<◌, ◌==◌, false, length, sym, ap, ◌∙◌, arith}
use Rattle.std.proofs.lemmas.Bool.{eqb-false}
use Rattle.interleaving_core.proofs.Settled.{lowest, lowest_more, lowest_all, take_all}
use Rattle.interleaving_core.proofs.settling.least_of.Goals.{then-number, else-number}
use Rattle.interleaving_core.proofs.settling.least_of.Goals as goal

pub loop-mark-preserved : goal.loop-mark-preserved
loop-mark-preserved c =
    let more = lowest_more c.index-marks-0.result c.args.marks.now c.loop-mark.mark-index c.mark-item.result c.loop-mark-test.true c.mark-item.is in
    let now = c.loop-mark.invariant in
    elim c.if-number.branch [
      | then-number w ↦ omega (arith, more, now, w.found-is, w.if-number.true, c.number.ensures.number, c.number-in-loop-mark.ensures.number)
      | else-number w ↦ omega (arith, more, now, w.found-is, w.if-number.false, c.number.ensures.number, c.number-in-loop-mark.ensures.number)
    ]

pub returns : goal.returns
returns c =
    let none : (length c.args.marks.now == 0) ≡ false = sym c.is_empty.ensures ∙ c.if-is_empty.false in
    let some : 0 < length c.args.marks.now = omega (arith, eqb-false (length c.args.marks.now) 0 none) in
    c.loop-mark.invariant
    ∙ (ap (lowest c.index-marks-0.result) (take_all c.loop-mark.mark-index c.args.marks.now c.loop-mark-test.false) ∙ lowest_all c.args.marks.now c.index-marks-0.result some c.index-marks-0.is)
