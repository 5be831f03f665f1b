use Rattle.std.proofs.Common.{ℕ, List, [], ◌++◌, map, refl}
use Rattle.std.proofs.lemmas.Result.{err_from_is_err_and}
use Rattle.mrt_records.specs.Values.{reported}
use Rattle.mrt_records.specs.Streams.{GainsFrames}
use Rattle.service.specs.declared.faults.FeedStop.TheVariants as stops
use Rattle.service.proofs.GivingUp.{within_more, stops_after, stops_within}
use Rattle.service.proofs.Streams.{piece_goes, piece_stops, piece_framed}
use Rattle.service.proofs.feeding.Feeding.take_piece.Goals.{in-Ok, in-Err-TooLong}
use Rattle.service.proofs.feeding.Feeding.take_piece.Goals as goal
use Rattle.archive_calls.specs.declared.refusal.Trouble.TheVariants as troubles

pub returns : goal.returns
returns g c = record {
  read = λ rule k dropped limit h bytes was r.
      elim c.match-feed.branch [
        | in-Ok w ↦
            piece_goes rule k dropped limit h bytes _ c.args.piece.now _ _ _ _ _ was _ _ c.new-items.result.items c.feed.new.out.items c.deref.result.now _ w.goes_on-is c.new-items.ensures.items c.deref.ensures.value
            w.in-Ok.ensures.fed.0 (λ records b. c.in_ok-take_all.ensures.beyond rule k dropped limit h records was b) r
        | in-Err-TooLong w ↦
            piece_stops rule k dropped limit h bytes _ c.args.piece.now _ _ _ _ _ was _ _ c.new-items.result.items c.feed.new.out.items c.deref.result.now _ w.goes_on-is c.new-items.ensures.items c.deref.ensures.value
            (rw w.in-Err-TooLong.field-0-is at w.in-Err-TooLong.ensures.fed) (λ records b. c.in_ok-take_all.ensures.beyond rule k dropped limit h records was b) r
      ];
  inside = λ e. absurd cc;
  most = c.in_ok-take_all.ensures.most;
  given_up = λ rule k dropped limit h bytes was r. tt;
}

pub returns-in-Err : goal.returns-in-Err
returns-in-Err g c = record {
  read = λ rule k dropped limit h bytes was r. tt;
  inside = λ e. absurd cc;
  most = refl;
  given_up = λ rule k dropped limit h bytes was r.
      within_more rule k dropped limit h bytes c.args.piece.now (g.A.RouteSource.represents c.args.archive.now) was _ (stops.Trouble troubles.OutOfMemory) (stops_after rule k dropped limit h bytes c.args.framer.now c.args.self.now (g.A.RouteSource.represents c.args.archive.now) was _ (stops.Trouble troubles.OutOfMemory) (λ made. tt) r);
}

pub returns-in_err-take_all-clause-given_up : goal.returns-in_err-take_all-clause-given_up
returns-in_err-take_all-clause-given_up g c = λ rule k dropped limit h bytes was r.
    let p = err_from_is_err_and c.from_residual.result c.from_residual.ensures.1 in
    let framed : (rest : List ℕ) × GainsFrames (bytes ++ c.args.piece.now) rest [] (r.items ++ c.deref.result.now) = elim c.match-feed.branch [
      | in-Ok w ↦
          (_, piece_framed bytes c.args.framer.now c.args.piece.now _ r.items c.new-items.result.items c.feed.new.out.items c.deref.result.now c.new-items.ensures.items c.deref.ensures.value w.in-Ok.ensures.fed.0 r.framed)
      | in-Err-TooLong w ↦
          let ends = rw w.in-Err-TooLong.field-0-is at w.in-Err-TooLong.ensures.fed in
          (_, piece_framed bytes c.args.framer.now c.args.piece.now _ r.items c.new-items.result.items c.feed.new.out.items c.deref.result.now c.new-items.ensures.items c.deref.ensures.value ends.1 r.framed)
    ] in
    rw p.1 (rw p.2
    (stops_within rule k dropped limit h (bytes ++ c.args.piece.now) framed.0 r.items c.deref.result.now (g.A.RouteSource.represents c.take_all.new.archive) was _ _ framed.1 (c.in_err-take_all.ensures.given_up rule k dropped limit h (map reported r.items) was r.beyond)))
