use Rattle.std.proofs.Common.{arith, sym, ◌∙◌, subst}
use Rattle.std.proofs.lemmas.Bool.{ltb-true, ltb-false}
use Rattle.route_history.specs.Fronts.{number_at}
use Rattle.route_history.specs.Walks.{LeapsTo}
use Rattle.route_history.proofs.Leaping.{to_session, to_spot}
use Rattle.route_history.proofs.leap.to_spot.Goals as goal

pub returns-then-not-has_passed : goal.returns-then-not-has_passed
returns-then-not-has_passed c = λ q only.
    subst (LeapsTo q (number_at c.args.front)) (sym (c.from.ensures ∙ c.session-first.ensures.key))
    (to_session q c.args.peer.now (number_at c.args.front) (λ p x s. (only p x s).0) (let le = ltb-false _ _ (sym c.has_passed.ensures ∙ c.if-not-has_passed.true) in omega (arith, le, c.session-first.ensures.key)))

pub returns-then-not-has_passed-2 : goal.returns-then-not-has_passed-2
returns-then-not-has_passed-2 c = λ q only.
    subst (LeapsTo q (number_at c.args.front)) (sym (c.from-then-not-has_passed-2.ensures ∙ c.prefix-key.ensures.key))
    (to_spot q c.args.peer.now c.args.prefix.now (number_at c.args.front) c.encoded_len-len.ensures.valid c.address-address.ensures.valid only
    (let lt = ltb-true _ _ (sym c.has_passed.ensures ∙ c.if-not-has_passed.false) in omega (arith, lt, c.session-first.ensures.key))
    (let le = ltb-false _ _ (sym c.has_passed-else-not-has_passed.ensures ∙ c.if-not-has_passed-2.true) in omega (arith, le, c.prefix-key.ensures.key)))
