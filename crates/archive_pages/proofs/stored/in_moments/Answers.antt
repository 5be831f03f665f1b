use Rattle.std.proofs.Common.{rules, ◌≡◌, ◌<◌, ℕ, suc, ◌+◌, ◌*◌, List, length, refl, sym, ap, ◌∙◌, arith, Some}
use Rattle.std.specs.List.{AllByRecursion, slice_get, slice_set}
use Rattle.std.proofs.lemmas.Option.{slice_get_read}
use Rattle.route_model.specs.Moments.{IsMoment}
use Rattle.route_model.specs.Units.{moments_in}
use Rattle.route_model.specs.declared.unit.Unit.TheVariants.{Seconds}
use Rattle.archive_pages.specs.Stored.{older_of, scaled_times}
use Rattle.archive_pages.proofs.Scaling.{length-scaled, next_scaled, none_if, none_scaled}
use Rattle.archive_pages.proofs.stored.in_moments.Goals as goal

pub returns-in_err-times-clause-none : goal.returns-in_err-times-clause-none
returns-in_err-times-clause-none c =
    let k = moments_in Seconds in
    let xs = c.loop-i.times.items in
    let i = c.loop-i.i in
    let ts = c.args.times.items in
    let t = c.index.result.now in
    let inv = c.loop-i.invariant in
    let end = c.loop-i-test.true in
    let older = c.older_of-i-end.ensures in
    let long = ap length inv in
    let same = length-scaled k i ts in
    let count : c.len.result ≡ length ts = search rules in
    let here : slice_get xs i ≡ Some t = slice_get_read xs (length xs) i t refl (omega (arith, end, older, long, same, count)) c.index.ensures in
    let not : IsMoment (t * k) → ⊥ = λ m. search (rules, m) in
    none_if c.from_residual.result (AllByRecursion IsMoment (scaled_times k (older_of c.args.lane.now (length ts)) ts) → ⊥)
    (none_scaled k i (older_of c.args.lane.now (length ts)) ts t (omega (arith, end, older, count)) (ap (λ (l : List ℕ). slice_get l i) (sym inv) ∙ here) not)

pub loop-i-preserved : goal.loop-i-preserved
loop-i-preserved c =
    let k = moments_in Seconds in
    let xs = c.loop-i.times.items in
    let i = c.loop-i.i in
    let ts = c.args.times.items in
    let t = c.index.result.now in
    let inv = c.loop-i.invariant in
    let end = c.loop-i-test.true in
    let older = c.older_of-i-end.ensures in
    let long = ap length inv in
    let same = length-scaled k i ts in
    let count : c.len.result ≡ length ts = search rules in
    let here : slice_get xs i ≡ Some t = slice_get_read xs (length xs) i t refl (omega (arith, end, older, long, same, count)) c.index.ensures in
    let is : c.in_ok-times.field-0 ≡ t * k = search rules in
    let more : suc i ≡ i + 1 = omega arith in
    ap (slice_set xs i) is ∙ (ap (λ (l : List ℕ). slice_set l i (t * k)) inv ∙ (next_scaled k i ts t (ap (λ (l : List ℕ). slice_get l i) (sym inv) ∙ here) ∙ ap (λ (n : ℕ). scaled_times k n ts) more))
