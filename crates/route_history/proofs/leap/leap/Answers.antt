use Rattle.std.proofs.Common.{subst, refl}
use Rattle.route_meaning.specs.declared.question.Select.{Select}
use Rattle.route_meaning.specs.Rows.{Selects}
use Rattle.route_history.specs.Fronts.{number_at, front_number}
use Rattle.route_history.proofs.Leaping.{joins, joins_leap}
use Rattle.route_history.proofs.leap.leap.Goals as goal

pub returns-in-Route : goal.returns-in-Route
returns-in-Route c =
    let q = c.args.question.now in
    joins_leap q (number_at c.args.front) (number_at c.after_after-front.result) (front_number c.to_spot.result) (c.after_after-front.ensures q refl)
    (c.to_spot.ensures q (λ p x s. subst (λ (select : Select). Selects select p x) c.in-Route.is s))

pub returns-in-ByPrefix : goal.returns-in-ByPrefix
returns-in-ByPrefix c =
    let q = c.args.question.now in
    joins q (number_at c.args.front) (number_at c.after_after-front.result) (number_at c.to_prefix.result) (c.after_after-front.ensures q refl)
    (c.to_prefix.ensures q (λ p x s. subst (λ (select : Select). Selects select p x) c.in-ByPrefix.is s))

pub returns-in-PeerTable : goal.returns-in-PeerTable
returns-in-PeerTable c =
    let q = c.args.question.now in
    joins_leap q (number_at c.args.front) (number_at c.after_after-front.result) (front_number c.to_peer.result) (c.after_after-front.ensures q refl)
    (c.to_peer.ensures q (λ p x s. subst (λ (select : Select). Selects select p x) c.in-PeerTable.is s))

pub returns-in-Covering : goal.returns-in-Covering
returns-in-Covering c =
    let q = c.args.question.now in
    joins q (number_at c.args.front) (number_at c.after_after-front.result) (number_at c.to_covering.result) (c.after_after-front.ensures q refl)
    (c.to_covering.ensures q (λ p x s. subst (λ (select : Select). Selects select p x) c.in-Covering.is s))

pub returns-in-All : goal.returns-in-All
returns-in-All c = c.after_after-front.ensures c.args.question.now refl
