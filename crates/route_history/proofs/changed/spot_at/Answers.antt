use Rattle.std.proofs.Common.{◌≡◌, Option, Some, None, IsTrue, sym, subst, ◌∙◌}
use Rattle.std.proofs.lemmas.Bool.{false≢true}
use Rattle.route_history.specs.Walks.{IsSpotOf}
use Rattle.route_history.specs.Changes.{IsSpotAt}
use Rattle.route_history.proofs.changed.spot_at.Goals as goal

pub returns-in_default : goal.returns-in_default
returns-in_default c = λ p x hp hx e asked above. (subst (IsSpotOf c.args.key) c.in_default.is c.spot_of.ensures) p x hp hx e

pub returns-then-not-is_asked_for : goal.returns-then-not-is_asked_for
returns-then-not-is_asked_for c = λ p x hp hx e asked above. absurd (false≢true (sym c.if-not-is_asked_for.true ∙ (c.is_asked_for.ensures p x hx e).1 asked))

pub returns-then-not-is_above : goal.returns-then-not-is_above
returns-then-not-is_above c = λ p x hp hx e asked above. absurd (false≢true (sym c.if-not-is_above.true ∙ c.is_above.ensures.1 above))

pub returns : goal.returns
returns c =
    let w = subst (IsSpotOf c.args.key) c.in-Some.is c.spot_of.ensures in
    (w.0, w.1, (c.is_asked_for.ensures c.in-Some.spot.peer c.in-Some.spot.prefix w.0.1 w.1).0 c.if-not-is_asked_for.false, c.is_above.ensures.0 c.if-not-is_above.false, w.2)
