use Rattle.std.proofs.Common.{subst, arith, ◌≡◌, length}
use Rattle.version_model.specs.Entries.{versions_of, version_of}
use Rattle.version_model.proofs.Places.{LastBelow, LastBelow-no, LastBelow-yes, LastBelow-end}
use Rattle.version_model.proofs.Orders.{eq_yes, eq_no, le_yes, le_no}
use Rattle.version_model.proofs.Entries.{read_at, length-versions}
use Rattle.version_model.proofs.finding.place_at.Goals as goal
use Rattle.version_model.proofs.finding.place_at.Goals.{then-eq+then-le, else-eq, else-eq-via-then-eq+else-le, else-eq-via-else-eq}

pub loop-i-preserved : goal.loop-i-preserved
loop-i-preserved c =
    let vs = versions_of c.args.entries.now in
    let e = c.index-entries-i.result in
    let at = read_at c.args.entries.now c.loop-i.i e (omega arith) c.index-entries-i.is in
    elim c.if-eq.branch [
      | then-eq+then-le w ↦ rw w.best-is (LastBelow-yes vs c.args.key c.args.stamp c.loop-i.i (version_of e) at (record { of_key = eq_yes c.eq.result e.key c.args.key c.eq.ensures w.if-eq.true; not_after = le_yes w.le.result e.stamp c.args.stamp w.le.ensures w.if-le.true }))
      | else-eq w ↦ rw w.best-is (LastBelow-no vs c.args.key c.args.stamp c.loop-i.i (version_of e) c.loop-i.best c.loop-i.invariant at
          (λ counts. elim w.else-eq.branch [
            | else-eq-via-then-eq+else-le x ↦ omega (arith, counts.not_after, le_no x.le.result e.stamp c.args.stamp x.le.ensures x.if-le.false)
            | else-eq-via-else-eq x ↦ eq_no c.eq.result e.key c.args.key c.eq.ensures x.if-eq.false counts.of_key
          ]))
    ]

pub returns : goal.returns
returns c =
    LastBelow-end (versions_of c.args.entries.now) c.args.key c.args.stamp c.loop-i.best c.requires.rising
    (let end : c.loop-i.i ≡ length (versions_of c.args.entries.now) = omega (arith, length-versions c.args.entries.now) in
    subst (λ n. LastBelow (versions_of c.args.entries.now) c.args.key c.args.stamp n c.loop-i.best) end c.loop-i.invariant)
