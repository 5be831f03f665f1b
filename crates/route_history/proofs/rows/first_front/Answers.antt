use Rattle.std.proofs.Common.{Option, sym, ◌∙◌, subst}
use Rattle.route_meaning.specs.declared.question.Spot.{Spot}
use Rattle.route_history.specs.Fronts.{number_at}
use Rattle.route_history.specs.Walks.{IsStart}
use Rattle.route_history.proofs.Starting.{zeros_are, start_low, start_session}
use Rattle.route_history.proofs.rows.first_front.Goals as goal

pub returns-in-None : goal.returns-in-None
returns-in-None c = subst (λ (after : Option Spot). IsStart after (number_at c.from.result)) (sym c.in-None.is) (start_low (number_at c.from.result) (c.from.ensures ∙ c.from_octets.ensures.key ∙ zeros_are))

pub returns-in-Some : goal.returns-in-Some
returns-in-Some c = subst (λ (after : Option Spot). IsStart after (number_at c.from-in-Some.result)) (sym c.in-Some.is) (start_session c.in-Some.spot (number_at c.from-in-Some.result) c.encoded_len-len.ensures.valid c.address-address.ensures.valid (c.from-in-Some.ensures ∙ c.session.ensures.key))
