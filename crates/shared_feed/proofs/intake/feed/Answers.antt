use Rattle.std.proofs.Common.{◌<◌, ◌≤◌, inl, inr, refl, arith}
use Rattle.std.specs.Prelude.{IsSome}
use Rattle.service.proofs.Streams.{some_given}
use Rattle.shared_feed.specs.SharedFeeds.{limits_of}
use Rattle.shared_feed.proofs.GivingUp.{given_up_reported}
use Rattle.shared_feed.proofs.intake.feed.Goals as goal

pub returns-then-collector-collectors-clause-ended : goal.returns-then-collector-collectors-clause-ended
returns-then-collector-collectors-clause-ended g c =
    let b = some_given (g.R.Read.remaining c.args.reader.now) in
    let none : c.args.shared.now.collectors ≤ c.args.collector = omega (arith, c.collectors.ensures, c.if-collector-collectors.true) in
    (b.0, b.1, inr (refl, record { none = none; same = refl; reports = c.report_stop.ensures.reported }))

pub returns-in-Ok-None : goal.returns-in-Ok-None
returns-in-Ok-None g c =
    let fed = rw c.in-Ok-None.field-0-is at c.in-Ok-None.ensures.fed in
    let there : c.args.collector < c.args.shared.now.collectors = omega (arith, c.collectors.ensures, c.if-collector-collectors.false) in
    record { ended = (fed.0, fed.1, (there, fed.2)); since = fed.2.since }

pub returns-in-Ok-Some : goal.returns-in-Ok-Some
returns-in-Ok-Some g c =
    let fed = rw c.in-Ok-Some.field-0-is at c.in-Ok-Some.ensures.fed in
    let there : c.args.collector < c.args.shared.now.collectors = omega (arith, c.collectors.ensures, c.if-collector-collectors.false) in
    record { ended = (fed.0, fed.1, (there, (_, fed.2))); since = fed.2.since }

pub returns-in-Err : goal.returns-in-Err
returns-in-Err g c =
    let up = c.in-Err.ensures.given_up in
    let there : c.args.collector < c.args.shared.now.collectors = omega (arith, c.collectors.ensures, c.if-collector-collectors.false) in
    record {
      ended = (
        up.0,
        up.1,
        inl (
          there,
          given_up_reported (IsSome g.N.OnDisk.disk) c.args.collector (limits_of c.args.limit c.args.shared.now.ring) c.args.pass.now up.0 c.take_in.new.pass c.args.out.now c.take_in.new.out c.report_stop-in-Err.new.out c.in-Err.why up.2 c.report_stop-in-Err.ensures.reported,
        ),
      );
      since = up.2.gives_up.since;
    }
