use Rattle.std.proofs.Common.{ℕ, ◌<◌, ◌∙◌, Some, refl, ap, subst, take, length, arith}
use Rattle.std.specs.Prelude.{IsSome}
use Rattle.std.specs.Io.KnownBytes.{Consumes}
use Rattle.std.proofs.lemmas.Result.{err_from_is_err_and}
use Rattle.service.specs.declared.faults.FeedStop.TheVariants as stops
use Rattle.shared_feed.proofs.Streams.{taken_first, taken_none, taken_more, taken_stops, taken_gives, taken_failed, taken_piece_gives}
use Rattle.shared_feed.proofs.feeding.Feeding.take_stream.Goals as goal
use Rattle.archive_calls.specs.declared.refusal.Trouble.TheVariants as troubles

pub loop-init : goal.loop-init
loop-init g c = record {
  room = refl;
  taken = λ k limit v bytes was r. taken_first (IsSome g.N.OnDisk.disk) k limit v bytes _ _ _ _ _ _ r;
}

pub loop-preserved : goal.loop-preserved
loop-preserved g c =
    record {
      room = c.read_some.auto.piece ∙ c.loop.invariant.room;
      taken = λ k limit v bytes was r.
          taken_more (IsSome g.N.OnDisk.disk) k limit v bytes _ _ _ _ _ _ _ _ _ _ was _ _ _ c.if-not-goes_on.false c.in-Some.ensures.read (c.loop.invariant.taken k limit v bytes was r)
          (λ seen s. c.in_ok-goes_on.ensures.read k limit v seen was s);
    }

pub returns-then-count-eq0 : goal.returns-then-count-eq0
returns-then-count-eq0 g c = record {
  read = λ k limit v bytes was r.
      let none = c.if-count-eq0.true in
      let room : 0 < length c.loop.piece = omega (arith, c.loop.invariant.room) in
      taken_none (IsSome g.N.OnDisk.disk) k limit v bytes _ _ _ _ _ _ was _
      (subst (λ (n : ℕ). Consumes (g.R.Read.remaining c.loop.reader) (g.R.Read.remaining c.read_some.new.reader) (take n c.read_some.new.piece)) none c.in-Some.ensures.read)
      (c.in-Some.ensures.end room (ap Some none))
      (c.loop.invariant.taken k limit v bytes was r);
  given_up = λ k limit v bytes was r. tt;
}

pub returns-then-not-goes_on : goal.returns-then-not-goes_on
returns-then-not-goes_on g c = record {
  read = λ k limit v bytes was r.
      taken_stops (IsSome g.N.OnDisk.disk) k limit v bytes _ _ _ _ _ _ _ _ _ _ was _ _ _ c.if-not-goes_on.true c.in-Some.ensures.read (c.loop.invariant.taken k limit v bytes was r)
      (λ seen s. c.in_ok-goes_on.ensures.read k limit v seen was s);
  given_up = λ k limit v bytes was r. tt;
}

pub returns-then-has_failed-clause-given_up : goal.returns-then-has_failed-clause-given_up
returns-then-has_failed-clause-given_up g c = λ k limit v bytes was r.
    taken_failed (IsSome g.N.OnDisk.disk) k limit v bytes _ _ _ _ _ _ _ _ _ _ was _ _ _ c.in-Some.ensures.read (c.loop.invariant.taken k limit v bytes was r) (λ seen s. c.in_ok-goes_on.ensures.read k limit v seen was s)

pub returns-in-None-clause-given_up : goal.returns-in-None-clause-given_up
returns-in-None-clause-given_up g c = λ k limit v bytes was r. taken_gives (IsSome g.N.OnDisk.disk) k limit v bytes _ _ _ c.loop.self c.loop.pass was _ stops.Outside tt (c.loop.invariant.taken k limit v bytes was r)

pub returns-clause-given_up : goal.returns-clause-given_up
returns-clause-given_up g c = λ k limit v bytes was r. taken_gives (IsSome g.N.OnDisk.disk) k limit v bytes _ _ _ c.loop.self c.loop.pass was _ (stops.Trouble troubles.OutOfMemory) tt (c.loop.invariant.taken k limit v bytes was r)

pub returns-in_err-goes_on-clause-given_up : goal.returns-in_err-goes_on-clause-given_up
returns-in_err-goes_on-clause-given_up g c = λ k limit v bytes was r.
    let p = err_from_is_err_and c.from_residual.result c.from_residual.ensures.1 in
    rw p.1 (rw p.2
    (taken_piece_gives (IsSome g.N.OnDisk.disk) k limit v bytes _ _ _ _ _ c.loop.self c.loop.pass c.take_piece.new.pass was _ _ _ c.in-Some.ensures.read (c.loop.invariant.taken k limit v bytes was r)
    (λ seen s. c.in_err-goes_on.ensures.given_up k limit v seen was s)))
