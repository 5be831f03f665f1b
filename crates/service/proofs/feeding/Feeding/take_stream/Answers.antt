use Rattle.std.proofs.Common.{ℕ, ◌<◌, ◌∙◌, Some, refl, ap, subst, take, length, arith}
use Rattle.std.specs.Io.KnownBytes.{Consumes}
use Rattle.std.proofs.lemmas.Result.{err_from_is_err_and}
use Rattle.service.specs.declared.faults.FeedStop.TheVariants as stops
use Rattle.service.proofs.Streams.{taken_first, taken_none, taken_more, taken_stops, taken_gives, taken_failed, taken_piece_gives}
use Rattle.service.proofs.feeding.Feeding.take_stream.Goals as goal
use Rattle.archive_calls.specs.declared.refusal.Trouble.TheVariants as troubles

pub loop-init : goal.loop-init
loop-init g c = record {
  room = refl;
  most = refl;
  sound = refl;
  taken = λ rule k dropped limit h bytes was r. taken_first rule k dropped limit h bytes _ _ _ _ _ _ r;
}

pub loop-preserved : goal.loop-preserved
loop-preserved g c =
    record {
      room = c.read.auto.piece ∙ c.loop.invariant.room;
      most = c.in_ok-goes_on.ensures.most ∙ c.loop.invariant.most;
      sound = c.in-Some.ensures.sound ∙ c.loop.invariant.sound;
      taken = λ rule k dropped limit h bytes was r.
          taken_more rule k dropped limit h bytes _ _ _ _ _ _ _ _ _ _ was _ _ _ c.if-not-goes_on.false c.in-Some.ensures.read (c.loop.invariant.taken rule k dropped limit h bytes was r)
          (λ seen s. c.in_ok-goes_on.ensures.read rule k dropped limit h seen was s);
    }

pub returns-then-count-eq0 : goal.returns-then-count-eq0
returns-then-count-eq0 g c = record {
  read = λ rule k dropped limit h bytes was r.
      let none = c.if-count-eq0.true in
      let room : 0 < length c.loop.piece = omega (arith, c.loop.invariant.room) in
      taken_none rule k dropped limit h bytes _ _ _ _ _ _ was _
      (subst (λ (n : ℕ). Consumes c.loop.reader.left c.read.new.self.left (take n c.read.new.piece)) none c.in-Some.ensures.read)
      (c.in-Some.ensures.end room (ap Some none))
      (c.loop.invariant.taken rule k dropped limit h bytes was r);
  given_up = λ rule k dropped limit h bytes was r. tt;
  most = c.loop.invariant.most;
  outside = λ e. absurd cc;
  sound = λ none. c.in-Some.ensures.sound ∙ c.loop.invariant.sound;
}

pub returns-then-not-goes_on : goal.returns-then-not-goes_on
returns-then-not-goes_on g c = record {
  read = λ rule k dropped limit h bytes was r.
      taken_stops rule k dropped limit h bytes _ _ _ _ _ _ _ _ _ _ was _ _ _ c.if-not-goes_on.true c.in-Some.ensures.read (c.loop.invariant.taken rule k dropped limit h bytes was r)
      (λ seen s. c.in_ok-goes_on.ensures.read rule k dropped limit h seen was s);
  given_up = λ rule k dropped limit h bytes was r. tt;
  most = c.in_ok-goes_on.ensures.most ∙ c.loop.invariant.most;
  outside = λ e. absurd cc;
  sound = λ none. c.in-Some.ensures.sound ∙ c.loop.invariant.sound;
}

pub returns-then-has_failed-clause-given_up : goal.returns-then-has_failed-clause-given_up
returns-then-has_failed-clause-given_up g c = λ rule k dropped limit h bytes was r.
    taken_failed rule k dropped limit h bytes _ _ _ _ _ _ _ _ _ _ was _ _ _ c.in-Some.ensures.read (c.loop.invariant.taken rule k dropped limit h bytes was r) (λ seen s. c.in_ok-goes_on.ensures.read rule k dropped limit h seen was s)

pub returns-in-None-clause-given_up : goal.returns-in-None-clause-given_up
returns-in-None-clause-given_up g c = λ rule k dropped limit h bytes was r. taken_gives rule k dropped limit h bytes _ _ _ c.loop.self (g.A.RouteSource.represents c.loop.archive) was _ stops.Outside (λ made. tt) (c.loop.invariant.taken rule k dropped limit h bytes was r)

pub returns-clause-given_up : goal.returns-clause-given_up
returns-clause-given_up g c = λ rule k dropped limit h bytes was r. taken_gives rule k dropped limit h bytes _ _ _ c.loop.self (g.A.RouteSource.represents c.loop.archive) was _ (stops.Trouble troubles.OutOfMemory) (λ made. tt) (c.loop.invariant.taken rule k dropped limit h bytes was r)

pub returns-in_err-goes_on-clause-given_up : goal.returns-in_err-goes_on-clause-given_up
returns-in_err-goes_on-clause-given_up g c = λ rule k dropped limit h bytes was r.
    let p = err_from_is_err_and c.from_residual.result c.from_residual.ensures.1 in
    rw p.1 (rw p.2
    (taken_piece_gives rule k dropped limit h bytes _ _ _ _ _ c.loop.self (g.A.RouteSource.represents c.loop.archive) (g.A.RouteSource.represents c.take_piece.new.archive) was _ _ _ c.in-Some.ensures.read (c.loop.invariant.taken rule k dropped limit h bytes was r)
    (λ seen s. c.in_err-goes_on.ensures.given_up rule k dropped limit h seen was s)))
