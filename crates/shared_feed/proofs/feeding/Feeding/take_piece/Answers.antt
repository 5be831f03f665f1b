use Rattle.std.proofs.Common.{ℕ, List, [], ◌++◌, map}
use Rattle.std.specs.Prelude.{IsSome}
use Rattle.std.proofs.lemmas.Result.{err_from_is_err_and}
use Rattle.mrt_records.specs.Values.{reported}
use Rattle.mrt_records.specs.Streams.{GainsFrames}
use Rattle.service.specs.declared.faults.FeedStop.TheVariants as stops
use Rattle.shared_feed.proofs.GivingUp.{within_more, stops_after, stops_within}
use Rattle.service.proofs.Streams.{piece_framed}
use Rattle.shared_feed.proofs.Streams.{piece_goes, piece_stops}
use Rattle.shared_feed.proofs.feeding.Feeding.take_piece.Goals.{in-Ok, in-Err-TooLong}
use Rattle.shared_feed.proofs.feeding.Feeding.take_piece.Goals as goal
use Rattle.archive_calls.specs.declared.refusal.Trouble.TheVariants as troubles

pub returns : goal.returns
returns g c = record {
  read = λ k limit v bytes was r.
      elim c.match-feed.branch [
        | in-Ok w ↦
            piece_goes (IsSome g.N.OnDisk.disk) k limit v bytes _ c.args.piece.now _ _ _ _ _ was _ _ c.new-items.result.items c.feed.new.out.items c.deref.result.now _ w.goes_on-is c.new-items.ensures.items c.deref.ensures.value
            w.in-Ok.ensures.fed.0 (λ records b. c.in_ok-take_all.ensures.beyond k limit v records was b) r
        | in-Err-TooLong w ↦
            piece_stops (IsSome g.N.OnDisk.disk) k limit v bytes _ c.args.piece.now _ _ _ _ _ was _ _ c.new-items.result.items c.feed.new.out.items c.deref.result.now _ w.goes_on-is c.new-items.ensures.items c.deref.ensures.value
            (rw w.in-Err-TooLong.field-0-is at w.in-Err-TooLong.ensures.fed) (λ records b. c.in_ok-take_all.ensures.beyond k limit v records was b) r
      ];
  given_up = λ k limit v bytes was r. tt;
}

pub returns-in-Err : goal.returns-in-Err
returns-in-Err g c = record {
  read = λ k limit v bytes was r. tt;
  given_up = λ k limit v bytes was r.
      within_more (IsSome g.N.OnDisk.disk) k limit v bytes c.args.piece.now c.args.pass.now was _ (stops.Trouble troubles.OutOfMemory) (stops_after (IsSome g.N.OnDisk.disk) k limit v bytes c.args.framer.now c.args.self.now c.args.pass.now was _ (stops.Trouble troubles.OutOfMemory) tt r);
}

pub returns-in_err-take_all-clause-given_up : goal.returns-in_err-take_all-clause-given_up
returns-in_err-take_all-clause-given_up g c = λ k limit v bytes was r.
    let p = err_from_is_err_and c.from_residual.result c.from_residual.ensures.1 in
    let framed : (rest : List ℕ) × GainsFrames (bytes ++ c.args.piece.now) rest [] (r.items ++ c.deref.result.now) = elim c.match-feed.branch [
      | in-Ok w ↦
          (_, piece_framed bytes c.args.framer.now c.args.piece.now _ r.items c.new-items.result.items c.feed.new.out.items c.deref.result.now c.new-items.ensures.items c.deref.ensures.value w.in-Ok.ensures.fed.0 r.framed)
      | in-Err-TooLong w ↦
          let ends = rw w.in-Err-TooLong.field-0-is at w.in-Err-TooLong.ensures.fed in
          (_, piece_framed bytes c.args.framer.now c.args.piece.now _ r.items c.new-items.result.items c.feed.new.out.items c.deref.result.now c.new-items.ensures.items c.deref.ensures.value ends.1 r.framed)
    ] in
    rw p.1 (rw p.2
    (stops_within (IsSome g.N.OnDisk.disk) k limit v (bytes ++ c.args.piece.now) framed.0 r.items c.deref.result.now c.take_all.new.pass was _ _ framed.1 (c.in_err-take_all.ensures.given_up k limit v (map reported r.items) was r.beyond)))
