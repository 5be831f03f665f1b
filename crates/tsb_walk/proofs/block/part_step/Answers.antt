use Rattle.std.proofs.Common.{arith, ◌≡◌, sym, subst, ◌∙◌}
use Rattle.std.proofs.lemmas.Option.{same_Some}
use Rattle.tsb_walk.specs.inner.Steps.{IsEndOf}
use Rattle.tsb_walk.proofs.Blocks.{fit_column, fit_whole, higher_unfit, part_leads, stamp_from, stamp_before}
use Rattle.tsb_walk.proofs.block.part_step.Goals as goal

pub returns-in_default-clause-none : goal.returns-in_default-clause-none
returns-in_default-clause-none c = λ fit.
    let f = fit_column c.args.place.now c.args.octets.now c.args.key c.args.stamp c.column_end.result c.column_end.ensures.found c.requires.kind fit in
    c.in_default.not-Some f.1 f.3

pub returns-then-not-is_before-clause-none : goal.returns-then-not-is_before-clause-none
returns-then-not-is_before-clause-none c = λ fit.
    let f = fit_column c.args.place.now c.args.octets.now c.args.key c.args.stamp c.column_end.result c.column_end.ensures.found c.requires.kind fit in
    let same : c.in-Some.end ≡ f.1 = same_Some c.in-Some.end f.1 (sym c.in-Some.is ∙ f.3) in
    let before = stamp_before c.args.place.now c.args.octets.now f.0 f.1 f.2 c.args.key c.args.stamp c.requires.point in
    absurd (cc (c.is_before.ensures.1 (omega (arith, before, same)), c.if-not-is_before.true))

pub returns-in_default-part_for-clause-none : goal.returns-in_default-part_for-clause-none
returns-in_default-part_for-clause-none c = λ fit.
    let f = fit_column c.args.place.now c.args.octets.now c.args.key c.args.stamp c.column_end.result c.column_end.ensures.found c.requires.kind fit in
    let same : c.in-Some.end ≡ f.1 = same_Some c.in-Some.end f.1 (sym c.in-Some.is ∙ f.3) in
    let of : IsEndOf c.args.place.now.bounds c.args.octets.now f.0 c.in-Some.end = subst (IsEndOf c.args.place.now.bounds c.args.octets.now f.0) (sym same) f.2 in
    let from = stamp_from c.args.place.now c.args.octets.now f.0 c.in-Some.end of c.args.key c.args.stamp c.requires.point in
    absurd (c.in_default-part_for.ensures.part f.0 of.begins of.ended from)

pub returns-then-not-is_in-clause-none : goal.returns-then-not-is_in-clause-none
returns-then-not-is_in-clause-none c = λ fit.
    let f = fit_column c.args.place.now c.args.octets.now c.args.key c.args.stamp c.column_end.result c.column_end.ensures.found c.requires.kind fit in
    let same : c.in-Some.end ≡ f.1 = same_Some c.in-Some.end f.1 (sym c.in-Some.is ∙ f.3) in
    let of : IsEndOf c.args.place.now.bounds c.args.octets.now f.0 c.in-Some.end = subst (IsEndOf c.args.place.now.bounds c.args.octets.now f.0) (sym same) f.2 in
    let from = stamp_from c.args.place.now c.args.octets.now f.0 c.in-Some.end of c.args.key c.args.stamp c.requires.point in
    let at = c.in-Ok.ensures.part f.0 of.begins of.ended from in
    absurd (cc (c.is_in.ensures.1 (at.start, at.before), c.if-not-is_in.true))

pub returns-then-found-place-clause-none : goal.returns-then-found-place-clause-none
returns-then-found-place-clause-none c = λ fit.
    let f = fit_column c.args.place.now c.args.octets.now c.args.key c.args.stamp c.column_end.result c.column_end.ensures.found c.requires.kind fit in
    let same : c.in-Some.end ≡ f.1 = same_Some c.in-Some.end f.1 (sym c.in-Some.is ∙ f.3) in
    let of : IsEndOf c.args.place.now.bounds c.args.octets.now f.0 c.in-Some.end = subst (IsEndOf c.args.place.now.bounds c.args.octets.now f.0) (sym same) f.2 in
    let from = stamp_from c.args.place.now c.args.octets.now f.0 c.in-Some.end of c.args.key c.args.stamp c.requires.point in
    let at = c.in-Ok.ensures.part f.0 of.begins of.ended from in
    higher_unfit c.args.place.now c.args.octets.now f.0 c.in-Some.end of c.args.key c.args.stamp c.in-Ok.found c.requires.kind at c.if-found-place.true fit

pub returns-clause-step : goal.returns-clause-step
returns-clause-step c = λ fit.
    let f = fit_column c.args.place.now c.args.octets.now c.args.key c.args.stamp c.column_end.result c.column_end.ensures.found c.requires.kind fit in
    let same : c.in-Some.end ≡ f.1 = same_Some c.in-Some.end f.1 (sym c.in-Some.is ∙ f.3) in
    let of : IsEndOf c.args.place.now.bounds c.args.octets.now f.0 c.in-Some.end = subst (IsEndOf c.args.place.now.bounds c.args.octets.now f.0) (sym same) f.2 in
    let from = stamp_from c.args.place.now c.args.octets.now f.0 c.in-Some.end of c.args.key c.args.stamp c.requires.point in
    let at = c.in-Ok.ensures.part f.0 of.begins of.ended from in
    part_leads c.args.place.now c.args.octets.now f.0 c.in-Some.end of c.args.key c.args.stamp c.in-Ok.found c.requires.kind (fit_whole c.args.place.now c.args.octets.now c.args.key c.args.stamp fit) at c.if-found-place.false c.requires.point
    c.place_of.result c.place_of.ensures.bounds c.place_of.ensures.part
