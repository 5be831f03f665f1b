use Rattle.std.proofs.Common.{subst, arith, ◌≡◌, length, inl, inr}
use Rattle.std.proofs.lemmas.Bool.{both_ways}
use Rattle.version_model.specs.Entries.{versions_of, version_of}
use Rattle.version_model.specs.Sizes.{entry_octets}
use Rattle.version_model.proofs.Orders.{ge_yes, ge_no}
use Rattle.version_model.proofs.Entries.{read_at, length-versions, keeps_push, versions_push}
use Rattle.version_model.proofs.Kept.{Keeps, Keeps-no, MayStay, MustStay, IsFrom-kept}
use Rattle.version_model.proofs.api.Sizing.{total-drop}
use Rattle.version_model.proofs.Points.{kept_push, length_push, copied_more, copied_all}
use Rattle.version_model.proofs.splitting.copies_since.Goals as goal
use Rattle.version_model.proofs.splitting.copies_since.Goals.{then-ge+in_ok-copy+in_ok-push, then-ge-via-then-ge, then-ge-via-else-ge+then-is_spanning, else-ge+else-is_spanning}

pub loop-i-preserved : goal.loop-i-preserved
loop-i-preserved c =
    let vs = versions_of c.args.entries.now in
    let e = c.index-entries-i.result in
    let at = read_at c.args.entries.now c.loop-i.i e (omega arith) c.index-entries-i.is in
    let rest = total-drop entry_octets vs c.loop-i.i (version_of e) at in
    let old = versions_of c.loop-i.kept.items in
    elim c.if-ge.branch [
      | then-ge+in_ok-copy+in_ok-push w ↦ rw w.kept-is (
          let pushed = versions_push c.loop-i.kept.items w.push.new.self.items w.in_ok-copy.field-0 (version_of e) w.in_ok-push.ensures.items w.in_ok-copy.ensures.same in
          let longer = length_push old (versions_of w.push.new.self.items) (version_of e) pushed in
          record {
            keeps = keeps_push (MayStay vs c.args.at) (MustStay vs c.args.at) vs c.loop-i.i c.loop-i.kept.items w.push.new.self.items w.in_ok-copy.field-0 (version_of e) w.in_ok-push.ensures.items w.in_ok-copy.ensures.same at c.loop-i.invariant.keeps c.requires.rising
                (λ before. elim w.then-ge.branch [
                  | then-ge-via-then-ge x ↦ absurd (omega (arith, ge_yes c.ge.result e.stamp c.args.at c.ge.ensures x.if-ge.true))
                  | then-ge-via-else-ge+then-is_spanning x ↦ (x.is_spanning.ensures (version_of e) at).0 x.if-is_spanning.true
                ]);
            size = omega (arith, rest, kept_push entry_octets old (versions_of w.push.new.self.items) (version_of e) pushed, c.loop-i.invariant.size);
            short = omega (arith, longer, c.loop-i.invariant.short);
            same = λ full. copied_more vs old (versions_of w.push.new.self.items) c.loop-i.i (version_of e) at pushed (c.loop-i.invariant.same (omega (arith, full, longer)));
          })
      | else-ge+else-is_spanning w ↦ rw w.kept-is (record {
        keeps = Keeps-no (MayStay vs c.args.at) (MustStay vs c.args.at) vs c.loop-i.i old (version_of e) at c.loop-i.invariant.keeps
            (λ must. elim must [
              | inl late ↦ omega (arith, late, ge_no c.ge.result e.stamp c.args.at c.ge.ensures w.if-ge.false)
              | inr spans ↦ both_ways _ w.if-is_spanning.false ((w.is_spanning.ensures (version_of e) at).1 spans)
            ]);
        size = omega (arith, rest, c.loop-i.invariant.size);
        short = omega (arith, c.loop-i.invariant.short);
        same = λ full. absurd (omega (arith, full, c.loop-i.invariant.short));
      })
    ]

pub returns-clause-from : goal.returns-clause-from
returns-clause-from c =
    let vs = versions_of c.args.entries.now in
    IsFrom-kept vs (versions_of c.loop-i.kept.items) c.args.at
    (let end : c.loop-i.i ≡ length vs = omega (arith, length-versions c.args.entries.now) in
    subst (λ n. Keeps (MayStay vs c.args.at) (MustStay vs c.args.at) vs n (versions_of c.loop-i.kept.items)) end c.loop-i.invariant.keeps)

pub returns-clause-size : goal.returns-clause-size
returns-clause-size c = omega (arith, c.loop-i.invariant.size)

pub returns-clause-same : goal.returns-clause-same
returns-clause-same c = λ full.
    let vs = versions_of c.args.entries.now in
    let end : c.loop-i.i ≡ length vs = omega (arith, length-versions c.args.entries.now) in
    copied_all vs (versions_of c.loop-i.kept.items) c.loop-i.i end (c.loop-i.invariant.same (omega (arith, full, end)))
