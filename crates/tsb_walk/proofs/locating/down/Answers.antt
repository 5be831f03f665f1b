use Rattle.std.proofs.Common.{◌<◌, sym, subst}
use Rattle.tsb_walk.proofs.PageWalking.{led_is}
use Rattle.tsb_walk.proofs.locating.down.Goals as goal

pub returns-in-Some-child_in-clause-led : goal.returns-in-Some-child_in-clause-led
returns-in-Some-child_in-clause-led g c = λ start shown shows.
    let at = c.in-Some.ensures.shown start shown (c.bring.ensures.same.shown start shown shows) (subst (λ n. c.args.place.now.page < n) (sym c.bring.ensures.same.homes) c.in_ok-bring.ensures.inside) in
    led_is shown c.in-Some.page.now c.args.place.now c.in-Some-child_in.next c.args.key at c.in-Some-child_in.ensures.child c.in-Some-child_in.ensures.above c.in-Some-child_in.ensures.level c.in-Some-child_in.ensures.has
