use Rattle.std.proofs.Common.{◌≡◌, ◌+◌, ℕ, suc, arith, sym, ap, ◌∙◌, subst}
use Rattle.std.proofs.lemmas.Bool.{ltb-true, ltb-false}
use Rattle.route_model.specs.PeerKeys.{first_key, tail}
use Rattle.route_history.specs.Fronts.{number_at}
use Rattle.route_history.specs.Walks.{LeapsTo, IsPeerFirst}
use Rattle.route_history.proofs.Leaping.{to_prefix, next_peer, first_is, last_is}
use Rattle.route_history.proofs.leap.to_prefix.Goals as goal

pub returns-then-has_passed : goal.returns-then-has_passed
returns-then-has_passed c = λ q only.
    let h = subst (IsPeerFirst (number_at c.args.front)) c.in-Some.is c.peer_first.ensures in
    let first : first_key c.in-Some.first ≡ c.in-Some.first = first_is (number_at c.args.front) c.in-Some.first h.0 in
    subst (LeapsTo q (number_at c.args.front)) (sym (c.beyond.ensures ∙ ap (λ (n : ℕ). suc n) c.last_of_peer.ensures.key ∙ last_is c.in-Some.first first))
    (next_peer q c.args.prefix.now c.in-Some.first (number_at c.args.front) only h.0
    (let lt = ltb-true _ _ (sym c.has_passed.ensures ∙ c.if-has_passed.true) in omega (arith, lt, c.of_prefix-key.ensures.key, first))
    (omega (arith, h.0)))

pub returns-else-has_passed : goal.returns-else-has_passed
returns-else-has_passed c = λ q only.
    let h = subst (IsPeerFirst (number_at c.args.front)) c.in-Some.is c.peer_first.ensures in
    let first : first_key c.in-Some.first ≡ c.in-Some.first = first_is (number_at c.args.front) c.in-Some.first h.0 in
    subst (LeapsTo q (number_at c.args.front)) (sym (c.from.ensures ∙ c.of_prefix-key.ensures.key ∙ ap (λ (n : ℕ). n + tail c.args.prefix.now) first))
    (to_prefix q c.args.prefix.now c.in-Some.first (number_at c.args.front) c.address-address.ensures.valid only h.0 h.1
    (let le = ltb-false _ _ (sym c.has_passed.ensures ∙ c.if-has_passed.false) in omega (arith, le, c.of_prefix-key.ensures.key, first)))
