use Rattle.std.proofs.Common.{subst, arith, ◌≡◌, length}
use Rattle.version_model.specs.Entries.{versions_of, version_of}
use Rattle.version_model.proofs.Entries.{read_at, length-versions}
use Rattle.version_model.proofs.Points.{PointSo, PointSo-yes, PointSo-few, PointSo-higher, PointSo-end}
use Rattle.std.proofs.lemmas.Bool.{both_ways}
use Rattle.version_model.proofs.sizing.point_of.Goals as goal
use Rattle.version_model.proofs.sizing.point_of.Goals.{then-is_lower+then-entries_octets_below-least, else-is_lower, else-is_lower-via-then-is_lower+else-entries_octets_below-least, else-is_lower-via-else-is_lower}

pub loop-entry-preserved : goal.loop-entry-preserved
loop-entry-preserved c =
    let vs = versions_of c.args.entries.now in
    let e = c.entry-item.result in
    let n = c.loop-entry.entry-index in
    let at = read_at c.args.entries.now n e (omega arith) c.entry-item.is in
    elim c.if-is_lower.branch [
      | then-is_lower+then-entries_octets_below-least w ↦ rw w.best-is (PointSo-yes vs c.args.least n (version_of e) at c.loop-entry.best (c.is_lower.ensures.0 w.if-is_lower.true) (omega (arith, w.entries_octets_below.ensures)) c.loop-entry.invariant)
      | else-is_lower w ↦ rw w.best-is (elim w.else-is_lower.branch [
        | else-is_lower-via-then-is_lower+else-entries_octets_below-least x ↦ PointSo-few vs c.args.least n (version_of e) at c.loop-entry.best (omega (arith, x.entries_octets_below.ensures)) c.loop-entry.invariant
        | else-is_lower-via-else-is_lower x ↦ PointSo-higher vs c.args.least n (version_of e) at c.loop-entry.best (λ lower. both_ways _ x.if-is_lower.false (c.is_lower.ensures.1 lower)) c.loop-entry.invariant
      ])
    ]

pub returns : goal.returns
returns c =
    let vs = versions_of c.args.entries.now in
    let end : c.loop-entry.entry-index ≡ length vs = omega (arith, length-versions c.args.entries.now) in
    PointSo-end vs c.args.least c.loop-entry.best (subst (λ n. PointSo vs c.args.least n c.loop-entry.best) end c.loop-entry.invariant)
