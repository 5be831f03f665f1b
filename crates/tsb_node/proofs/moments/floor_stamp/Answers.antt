use Rattle.std.proofs.Common.{◌≡◌, ◌∙◌, ℕ, ◌+◌, ◌*◌, ◌%◌, ◌^◌, ◌<◌, ap, arith}
use Rattle.tsb_node.specs.Scaling.{scaled}
use Rattle.tsb_node.proofs.ScalingLaws.{scaled_one, floor_whole, floor_part}
use Rattle.tsb_node.proofs.moments.floor_stamp.Goals as goal

pub returns-then-k-eq1 : goal.returns-then-k-eq1
returns-then-k-eq1 c = λ s. (let e : scaled c.args.k s ≡ s = ap (λ (k : ℕ). scaled k s) c.if-k-eq1.true ∙ scaled_one s in (λ h. omega (arith, h, e), λ h. omega (arith, h, e)))

pub returns-then-time-k-eq0 : goal.returns-then-time-k-eq0
returns-then-time-k-eq0 c = λ s.
    (let o : ℕ = c.order.result in
    let fits : c.order.result < 2 ^ 64 = omega (arith, c.order.ensures.order) in
    let parts : c.time-time.result * 2 ^ 64 + c.order.result ≡ c.args.stamp = omega (arith, c.time-time.ensures.time, c.order.ensures.order) in
    let f = floor_whole c.args.k c.time-time.result c.order.result s c.requires.some fits c.if-time-k-eq0.true in (
      λ h. (let g = f.0 (omega (arith, h, parts)) in omega (arith, g, c.new.ensures.number)),
      λ h. (let g = f.1 (omega (arith, h, c.new.ensures.number)) in omega (arith, g, parts)),
    ))

pub returns : goal.returns
returns c = λ s.
    (let fits : c.args.stamp % 2 ^ 64 < 2 ^ 64 = omega arith in
    let parts : c.time-time.result * 2 ^ 64 + c.args.stamp % 2 ^ 64 ≡ c.args.stamp = omega (arith, c.time-time.ensures.time) in
    let f = floor_part c.args.k c.time-time.result (c.args.stamp % 2 ^ 64) s c.requires.some fits c.if-time-k-eq0.false in (
      λ h. (let g = f.0 (omega (arith, h, parts)) in omega (arith, g, c.new-2.ensures.number)),
      λ h. (let g = f.1 (omega (arith, h, c.new-2.ensures.number)) in omega (arith, g, parts)),
    ))
