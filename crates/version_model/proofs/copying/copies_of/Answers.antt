use Rattle.std.proofs.Common.{arith}
use Rattle.std.proofs.lemmas.Bool.{both_ways}
use Rattle.version_model.specs.Ranges.{end_or}
use Rattle.version_model.specs.Looks.{is_of}
use Rattle.version_model.specs.Entries.{versions_of, version_of}
use Rattle.version_model.proofs.api.Least.{filtered_yes, filtered_no, filtered_all}
use Rattle.version_model.proofs.api.LooksShown.{is_of_yes, is_of_no}
use Rattle.version_model.proofs.Orders.{eq_yes, eq_no, ge_yes, ge_no}
use Rattle.version_model.proofs.Entries.{read_at, length-versions, versions_push}
use Rattle.version_model.proofs.copying.copies_of.Goals as goal
use Rattle.version_model.proofs.copying.copies_of.Goals.{then-eq+then-ge+then-is_before_end+in_ok-copy+in_ok-push, else-eq, else-eq-via-then-eq+then-ge+else-is_before_end, else-eq-via-then-eq+else-ge, else-eq-via-else-eq}

pub loop-entry-preserved : goal.loop-entry-preserved
loop-entry-preserved c =
    let vs = versions_of c.args.entries.now in
    let e = c.entry-item.result in
    let n = c.loop-entry.entry-index in
    let at = read_at c.args.entries.now n e (omega arith) c.entry-item.is in
    let p = is_of c.args.key c.args.from (end_or c.args.end) in
    let old = versions_of c.loop-entry.kept.items in
    elim c.if-eq.branch [
      | then-eq+then-ge+then-is_before_end+in_ok-copy+in_ok-push w ↦ rw w.kept-is (
          filtered_yes p vs old n (version_of e) at c.loop-entry.invariant (versions_of w.push.new.self.items)
          (versions_push _ _ w.in_ok-copy.field-0 (version_of e) w.in_ok-push.ensures.items w.in_ok-copy.ensures.same)
          (is_of_yes c.args.key c.args.from (end_or c.args.end) (version_of e) (eq_yes c.eq.result e.key c.args.key c.eq.ensures w.if-eq.true) (ge_yes w.ge.result e.stamp c.args.from w.ge.ensures w.if-ge.true) (w.is_before_end.ensures.0 w.if-is_before_end.true)))
      | else-eq w ↦ rw w.kept-is (
          filtered_no p vs old n (version_of e) at c.loop-entry.invariant
          (is_of_no c.args.key c.args.from (end_or c.args.end) (version_of e) (λ k f t. elim w.else-eq.branch [
            | else-eq-via-then-eq+then-ge+else-is_before_end x ↦ absurd (both_ways _ x.if-is_before_end.false (x.is_before_end.ensures.1 t))
            | else-eq-via-then-eq+else-ge x ↦ absurd (omega (arith, f, ge_no x.ge.result e.stamp c.args.from x.ge.ensures x.if-ge.false))
            | else-eq-via-else-eq x ↦ absurd (eq_no c.eq.result e.key c.args.key c.eq.ensures x.if-eq.false k)
          ])))
    ]

pub returns : goal.returns
returns c = filtered_all (is_of c.args.key c.args.from (end_or c.args.end)) (versions_of c.args.entries.now) (versions_of c.loop-entry.kept.items) c.loop-entry.entry-index (omega (arith, length-versions c.args.entries.now)) c.loop-entry.invariant
