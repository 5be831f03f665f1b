use Rattle.std.proofs.Common.{arith, ◌≡◌, ◌<◌, ◌≤◌, ◌+◌, Option, Some, sym, subst, ◌∙◌}
use Rattle.route_model.specs.PeerKeys.{first_key, tail}
use Rattle.route_history.specs.Changes.{LeapsOver}
use Rattle.route_history.proofs.ChangedLeaps.{to_low, no_next, to_next, first_high, not_upto}
use Rattle.route_history.proofs.changed.leap.Goals as goal

pub returns-then-is_upto : goal.returns-then-is_upto
returns-then-is_upto c = to_low c.args.question.now c.address-low.ensures.valid c.args.key c.of_prefix-low.result c.of_prefix-low.ensures.key (c.is_upto.ensures.0 c.if-is_upto.true)

pub returns-in_err-next : goal.returns-in_err-next
returns-in_err-next c =
    let past : first_key c.args.key + tail c.args.question.now.high < c.args.key = subst (λ n. n < c.args.key) c.of_prefix-high.ensures.key (not_upto c.args.key c.of_prefix-high.result c.is_upto-2.result c.is_upto-2.ensures c.if-is_upto-2.false) in
    subst (LeapsOver c.args.question.now c.args.key) (sym c.from_residual.ensures)
    (no_next c.args.question.now c.address-low.ensures.valid c.args.key c.last_of_peer.result c.last_of_peer.ensures.key (c.next.ensures.last.0 c.in_err-next.was) past)

pub returns : goal.returns
returns c =
    let past : first_key c.args.key + tail c.args.question.now.high < c.args.key = subst (λ n. n < c.args.key) c.of_prefix-high.ensures.key (not_upto c.args.key c.of_prefix-high.result c.is_upto-2.result c.is_upto-2.ensures c.if-is_upto-2.false) in
    to_next c.args.question.now c.address-low.ensures.valid c.args.key c.last_of_peer.result c.in_ok-next.next c.of_prefix.result c.last_of_peer.ensures.key c.in_ok-next.ensures.next c.of_prefix.ensures.key (first_high c.args.key) past
