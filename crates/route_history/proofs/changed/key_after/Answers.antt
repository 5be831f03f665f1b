use Rattle.std.proofs.Common.{sym, subst, ◌∙◌, Option, Some}
use Rattle.route_meaning.specs.declared.question.Spot.{Spot}
use Rattle.route_history.specs.Changes.{BeginsAfter}
use Rattle.route_history.proofs.Starting.{zeros_are}
use Rattle.route_history.proofs.ChangedLeaps.{after_next, none_before}
use Rattle.route_history.proofs.changed.key_after.Goals as goal

pub returns-in-None : goal.returns-in-None
returns-in-None c = subst (λ (after : Option Spot). BeginsAfter after (Some c.from_octets.result)) (sym c.in-None.is) (none_before c.from_octets.result (c.from_octets.ensures.key ∙ zeros_are))

pub returns-in-Some : goal.returns-in-Some
returns-in-Some c = subst (λ (after : Option Spot). BeginsAfter after c.next.result) (sym c.in-Some.is) (after_next c.in-Some.spot c.prefix.result c.next.result c.prefix.ensures.key c.next.ensures.next c.next.ensures.last.0)
