use Rattle.std.proofs.Common.{◌<◌, ℕ, arith, sym, ap, ◌∙◌, subst}
use Rattle.std.proofs.lemmas.Bool.{ltb-true, ltb-false}
use Rattle.route_model.specs.PeerKeys.{last_key}
use Rattle.route_history.specs.Fronts.{number_at}
use Rattle.route_history.specs.Walks.{LeapsTo}
use Rattle.route_history.proofs.Leaping.{to_session, after_peer}
use Rattle.route_history.proofs.leap.to_peer.Goals as goal

pub returns-then-not-has_passed : goal.returns-then-not-has_passed
returns-then-not-has_passed c = λ q only.
    subst (LeapsTo q (number_at c.args.front)) (sym (c.from.ensures ∙ c.session-first.ensures.key))
    (to_session q c.args.peer.now (number_at c.args.front) only (let le = ltb-false _ _ (sym c.has_passed.ensures ∙ c.if-not-has_passed.true) in omega (arith, le, c.session-first.ensures.key)))

pub returns-then-has_passed : goal.returns-then-has_passed
returns-then-has_passed c = λ q only.
    after_peer q c.args.peer.now (number_at c.args.front) only
    (let lt = ltb-true _ _ (sym c.has_passed-else-not-has_passed.ensures ∙ c.if-has_passed.true) in subst (λ (n : ℕ). n < number_at c.args.front) (c.last_of_peer.ensures.key ∙ ap last_key c.session-first.ensures.key) lt)
