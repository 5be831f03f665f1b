use Rattle.std.proofs.Common.{ap, subst}
use Rattle.tsb_node.specs.declared.column.Current.{Current}
use Rattle.tsb_node.specs.Parts.{IsSpot}
use Rattle.tsb_walk.proofs.OnePage.{past_is}
use Rattle.tsb_walk.proofs.page_steps.column_spot.Goals as goal

pub returns-in-InPage-clause-spot : goal.returns-in-InPage-clause-spot
returns-in-InPage-clause-spot c = λ column keys is.
    let s = subst (IsSpot column c.args.stamp) c.in-InPage.is is in
    (ap (λ (x : Current). x.start) s.0, ap (λ (x : Current). x.page) s.0, s.1)

pub returns-then-not-is_in-clause-none : goal.returns-then-not-is_in-clause-none
returns-then-not-is_in-clause-none c = λ column is.
    let s = subst (IsSpot column c.args.stamp) c.in-InBlock.is is in
    absurd (cc (c.is_in.ensures.1 (s.start, s.before), c.if-not-is_in.true))

pub returns-else-not-is_in-clause-spot : goal.returns-else-not-is_in-clause-spot
returns-else-not-is_in-clause-spot c = λ column keys is.
    let s = subst (IsSpot column c.args.stamp) c.in-InBlock.is is in
    past_is column c.args.place.now c.args.key c.args.stamp c.in-InBlock.found c.past_place.result keys c.requires.has s c.past_place.ensures.bounds c.past_place.ensures.part
