use Rattle.std.proofs.Common.{◌∙◌, sym, ap, subst, drop, arith}
use Rattle.std.proofs.lemmas.Map.Keys.{le_from_is_le}
use Rattle.std.proofs.lemmas.Bool.{eqb-true, eq-eqb}
use Rattle.tsb_node.specs.inner.Scanning.{IsWholeVersion}
use Rattle.tsb_node.proofs.Scanning.{scan_start, scan_on, scan_yes, scan_no, counts, counted, is_le_to}
use Rattle.tsb_node.proofs.leaf.last_of.Goals as goal
use Rattle.tsb_node.proofs.leaf.last_of.Goals.{then-eq+then-le, else-eq, else-eq-via-then-eq+else-le, else-eq-via-else-eq}

pub loop-init : goal.loop-init
loop-init c = scan_start c.args.count c.args.key c.args.stamp c.args.area.now

pub loop-preserved : goal.loop-preserved
loop-preserved c =
    let found = c.in-Some.ensures.found in
    let next = c.split_at.ensures.back ∙ ap (λ n. drop n c.loop.rest.now) found.0 ∙ scan_on c.loop.counter c.loop.rest.now c.args.area.now c.loop.invariant.0 in (
      next,
      elim c.if-eq.branch [
        | then-eq+then-le w ↦ (
            let same = sym c.key_at.ensures.number ∙ eqb-true c.key_at.result c.args.key (sym c.eq.ensures ∙ w.if-eq.true) in
            let upto = le_from_is_le w.stamp_at.result c.args.stamp (sym w.le.ensures ∙ w.if-le.true) in
            let stamp = w.stamp_at.ensures.number in
            rw (w.best-is, w.new.ensures.octets)
            (scan_yes c.args.count c.loop.counter c.args.key c.args.stamp c.loop.rest.now c.args.area.now (omega arith) c.loop.invariant.0 (counts c.args.key c.args.stamp c.loop.rest.now same (omega (arith, stamp, upto))) found.1))
        | else-eq w ↦ rw w.best-is (scan_no c.args.count c.loop.counter c.args.key c.args.stamp c.loop.rest.now c.args.area.now c.loop.best (omega arith) c.loop.invariant.0
            (λ is. elim w.else-eq.branch [
              | else-eq-via-then-eq+else-le x ↦ (
                  let h = counted c.args.key c.args.stamp c.loop.rest.now is in
                  absurd (cc (is_le_to x.stamp_at.result c.args.stamp (omega (arith, h.1, x.stamp_at.ensures.number)), x.le.ensures, x.if-le.false)))
              | else-eq-via-else-eq x ↦ (
                  let h = counted c.args.key c.args.stamp c.loop.rest.now is in
                  absurd (cc (eq-eqb c.key_at.result c.args.key (c.key_at.ensures.number ∙ h.0), c.eq.ensures, x.if-eq.false)))
            ]) c.loop.invariant.1)
      ],
    )

pub returns-in_default-clause-broken : goal.returns-in_default-clause-broken
returns-in_default-clause-broken c = record { place = c.loop.counter; below = omega arith; broken = λ whole. c.in_default.ensures.none (subst IsWholeVersion (sym c.loop.invariant.0) whole) }
