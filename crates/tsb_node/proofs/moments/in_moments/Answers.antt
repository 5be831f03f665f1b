use Rattle.std.proofs.Common.{◌∙◌, ℕ, ◌+◌, ◌*◌, ◌/◌, ◌^◌, ◌<◌, ap, sym, subst, arith}
use Rattle.tsb_node.specs.Scaling.{scaled}
use Rattle.tsb_node.proofs.moments.in_moments.Goals as goal

pub returns-in-None-clause-none : goal.returns-in-None-clause-none
unfolding scaled
returns-in-None-clause-none c = λ lt. c.in-None.ensures (subst (λ (t : ℕ). t * c.args.k < 2 ^ 64) (sym c.time.ensures.time) (omega (arith, lt)))

pub returns-in-Some-clause-found : goal.returns-in-Some-clause-found
unfolding scaled
returns-in-Some-clause-found c =
    c.new.ensures.number ∙ ap (λ (t : ℕ). t * 2 ^ 64 + c.order.result) (c.in-Some.ensures.1 ∙ ap (λ (t : ℕ). t * c.args.k) c.time.ensures.time)
    ∙ ap (λ (o : ℕ). c.args.stamp / 2 ^ 64 * c.args.k * 2 ^ 64 + o) c.order.ensures.order

pub returns-in-Some-clause-fits : goal.returns-in-Some-clause-fits
unfolding scaled
returns-in-Some-clause-fits c = omega (arith, c.in-Some.ensures.0, ap (λ (t : ℕ). t * c.args.k) c.time.ensures.time)
