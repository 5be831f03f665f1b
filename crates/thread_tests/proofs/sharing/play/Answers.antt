use Rattle.thread_tests.proofs.Following.{is_played, named_some}
use Rattle.thread_tests.proofs.sharing.play.Goals as goal

pub returns-in-Some-Some-Some : goal.returns-in-Some-Some-Some
returns-in-Some-Some-Some g c =
    let some = named_some g.N.OnDisk.disk _ c.requires.disk in
    let v = c.new-stage.result.1 in
    let b = c.both-front.result in
    let arm = c.in-Some-Some-Some in
    let played = is_played c.args.one.items c.args.two.items v c.split-second.new.pass c.split-second.result b.0.pass b.1.pass c.close-closed.result b.0.returned b.1.returned (record { store = arm.store; one = arm.one; two = arm.two })
    c.split-second.ensures.same c.split-second.ensures.other arm.is-0 arm.is-1 arm.is-2 (c.close-closed.ensures.fronts some) (c.both-front.ensures.front some) (c.both-front.ensures.other some) in
    record { played = (v, c.new-stage.ensures.fits some, c.new-stage.ensures.represented some, played) }
