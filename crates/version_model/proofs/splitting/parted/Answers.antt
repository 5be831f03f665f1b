use Rattle.std.proofs.Common.{ap, ◌∙◌, drop, subst, arith, ◌≡◌, length}
use Rattle.version_model.specs.Entries.{versions_of, version_of}
use Rattle.version_model.specs.Sizes.{entry_octets, entry_octets_below, total}
use Rattle.version_model.proofs.Orders.{lt_yes, lt_no}
use Rattle.version_model.proofs.Entries.{read_at, length-versions, keeps_push, versions_push}
use Rattle.version_model.proofs.api.Sizing.{total-drop, total-all, below_is, below_not}
use Rattle.version_model.proofs.Points.{kept_push}
use Rattle.version_model.proofs.Kept.{Keeps, Keeps-no, OfKeyBelow, OfKeyFrom, IsBelow-kept, IsFromKey-kept}
use Rattle.version_model.proofs.splitting.parted.Goals as goal
use Rattle.version_model.proofs.splitting.parted.Goals.{then-lt+in_ok-push, else-lt+in_ok-push-2}

pub loop-entry-preserved : goal.loop-entry-preserved
loop-entry-preserved c =
    let vs = versions_of c.args.entries.now in
    let e = c.entry-item.result in
    let n = c.loop-entry.entry-index in
    let k = c.args.key in
    let at = read_at c.args.entries.now n e (omega arith) c.entry-item.is in
    let rest = total-drop entry_octets vs n (version_of e) at in
    let rest_below = total-drop (entry_octets_below k) vs n (version_of e) at in
    elim c.if-lt.branch [
      | then-lt+in_ok-push w ↦ rw (w.left-is, w.right-is) (
          let more = kept_push entry_octets (versions_of c.loop-entry.left.items) (versions_of w.push.new.self.items) (version_of e) (versions_push c.loop-entry.left.items w.push.new.self.items c.in_ok-copy.copy (version_of e) w.in_ok-push.ensures.items c.in_ok-copy.ensures.same) in
          let lt = lt_yes c.lt.result e.key k c.lt.ensures w.if-lt.true in
          let here = below_is k (version_of e) lt in
          record {
            left = keeps_push (OfKeyBelow k) (OfKeyBelow k) vs n c.loop-entry.left.items w.push.new.self.items c.in_ok-copy.copy (version_of e) w.in_ok-push.ensures.items c.in_ok-copy.ensures.same at c.loop-entry.invariant.left c.requires.rising lt;
            right = Keeps-no (OfKeyFrom k) (OfKeyFrom k) vs n (versions_of c.loop-entry.right.items) (version_of e) at c.loop-entry.invariant.right (λ from. omega (arith, from, lt));
            below = omega (arith, rest_below, more, here, c.loop-entry.invariant.below);
            both = omega (arith, rest, more, c.loop-entry.invariant.both);
          })
      | else-lt+in_ok-push-2 w ↦ rw (w.left-is, w.right-is) (
          let more = kept_push entry_octets (versions_of c.loop-entry.right.items) (versions_of w.push-else-lt.new.self.items) (version_of e) (versions_push c.loop-entry.right.items w.push-else-lt.new.self.items c.in_ok-copy.copy (version_of e) w.in_ok-push-2.ensures.items c.in_ok-copy.ensures.same) in
          let ge = lt_no c.lt.result e.key k c.lt.ensures w.if-lt.false in
          let here = below_not k (version_of e) ge in
          record {
            left = Keeps-no (OfKeyBelow k) (OfKeyBelow k) vs n (versions_of c.loop-entry.left.items) (version_of e) at c.loop-entry.invariant.left (λ below. omega (arith, below, ge));
            right = keeps_push (OfKeyFrom k) (OfKeyFrom k) vs n c.loop-entry.right.items w.push-else-lt.new.self.items c.in_ok-copy.copy (version_of e) w.in_ok-push-2.ensures.items c.in_ok-copy.ensures.same at c.loop-entry.invariant.right c.requires.rising ge;
            below = omega (arith, rest_below, here, c.loop-entry.invariant.below);
            both = omega (arith, rest, more, c.loop-entry.invariant.both);
          })
    ]

pub returns-clause-left : goal.returns-clause-left
returns-clause-left c =
    let vs = versions_of c.args.entries.now in
    let end : c.loop-entry.entry-index ≡ length vs = omega (arith, length-versions c.args.entries.now) in
    let keeps = subst (λ n. Keeps (OfKeyBelow c.args.key) (OfKeyBelow c.args.key) vs n (versions_of c.loop-entry.left.items)) end c.loop-entry.invariant.left in
    (IsBelow-kept vs (versions_of c.loop-entry.left.items) c.args.key keeps, keeps.rising)

pub returns-clause-right : goal.returns-clause-right
returns-clause-right c =
    let vs = versions_of c.args.entries.now in
    let end : c.loop-entry.entry-index ≡ length vs = omega (arith, length-versions c.args.entries.now) in
    let keeps = subst (λ n. Keeps (OfKeyFrom c.args.key) (OfKeyFrom c.args.key) vs n (versions_of c.loop-entry.right.items)) end c.loop-entry.invariant.right in
    (IsFromKey-kept vs (versions_of c.loop-entry.right.items) c.args.key keeps, keeps.rising)

pub returns-clause-sizes : goal.returns-clause-sizes
returns-clause-sizes c =
    let vs = versions_of c.args.entries.now in
    let end : c.loop-entry.entry-index ≡ length vs = omega (arith, length-versions c.args.entries.now) in
    let none = ap (λ n. total entry_octets (drop n vs)) end ∙ total-all entry_octets vs in
    let none_below = ap (λ n. total (entry_octets_below c.args.key) (drop n vs)) end ∙ total-all (entry_octets_below c.args.key) vs in
    (omega (arith, none_below, c.loop-entry.invariant.below), omega (arith, none, c.loop-entry.invariant.both))
