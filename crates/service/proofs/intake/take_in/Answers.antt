use Rattle.std.proofs.Common.{[], ◌∙◌}
use Rattle.std.proofs.lemmas.Result.{err_from_is_err_and}
use Rattle.service.specs.Turns.{turns_for}
use Rattle.service.specs.Feeds.{limits_for}
use Rattle.service.proofs.GivingUp.{stops_last}
use Rattle.service.proofs.Streams.{reads_none, all_fed}
use Rattle.service.specs.declared.limits.BatchLimits.{BatchLimits}
use Rattle.service.proofs.intake.take_in.Goals as goal

pub returns : goal.returns
returns g c = record {
  fed = λ h represented.
      let rule = c.args.how.rule in
      let k = c.args.how.collector in
      let dropped = c.args.dropping.now in
      let limit : BatchLimits = limits_for c.args.how (g.A.RouteArchive.most c.args.archive.now) in
      let was = c.args.out.now in
      let begun = reads_none rule k dropped limit h c.new-framer.result c.new-feeding.result (g.A.RouteSource.represents c.args.archive.now) was c.new-framer.ensures.empty (c.new-feeding.ensures.begins h was represented) in
      let read = c.in_ok-take_stream.ensures.read rule k dropped limit h [] was begun in
      let fed =
      all_fed rule k dropped c.left_out.result limit h read.0 c.take_stream.new.framer c.cut_of-cut.result c.take_stream.new.self c.offer_rest.new.self (g.A.RouteSource.represents c.take_stream.new.archive) (g.A.RouteSource.represents c.offer_rest.new.archive) was _ _ _
      read.2 c.cut_of-cut.ensures.cut c.offer_rest.ensures.same (λ turns same d. c.in_ok-offer_rest.ensures.done k h turns was same d) c.report_end.ensures.reported c.left_out.ensures in
      (read.0, read.1, fed.0, fed.1);
  given_up = λ h represented. tt;
  uncounted = tt;
  most = c.in_ok-offer_rest.ensures.most ∙ c.in_ok-take_stream.ensures.most;
  outside = λ e. absurd cc;
  sound = λ none. c.in_ok-take_stream.ensures.sound (λ e. absurd cc);
}

pub returns-in_err-take_stream-clause-given_up : goal.returns-in_err-take_stream-clause-given_up
returns-in_err-take_stream-clause-given_up g c = λ h represented.
    let p = err_from_is_err_and c.from_residual.result c.from_residual.ensures.1 in
    let rule = c.args.how.rule in
    let k = c.args.how.collector in
    let dropped = c.args.dropping.now in
    let limit : BatchLimits = limits_for c.args.how (g.A.RouteArchive.most c.args.archive.now) in
    let was = c.args.out.now in
    let begun = reads_none rule k dropped limit h c.new-framer.result c.new-feeding.result (g.A.RouteSource.represents c.args.archive.now) was c.new-framer.ensures.empty (c.new-feeding.ensures.begins h was represented) in
    rw p.1 (rw p.2 (c.in_err-take_stream.ensures.given_up rule k dropped limit h [] was begun))

pub returns-in_err-offer_rest-clause-given_up : goal.returns-in_err-offer_rest-clause-given_up
returns-in_err-offer_rest-clause-given_up g c = λ h represented.
    let p = err_from_is_err_and c.from_residual-in_err-offer_rest.result c.from_residual-in_err-offer_rest.ensures.1 in
    let rule = c.args.how.rule in
    let k = c.args.how.collector in
    let dropped = c.args.dropping.now in
    let limit : BatchLimits = limits_for c.args.how (g.A.RouteArchive.most c.args.archive.now) in
    let was = c.args.out.now in
    let begun = reads_none rule k dropped limit h c.new-framer.result c.new-feeding.result (g.A.RouteSource.represents c.args.archive.now) was c.new-framer.ensures.empty (c.new-feeding.ensures.begins h was represented) in
    let read = c.in_ok-take_stream.ensures.read rule k dropped limit h [] was begun in
    let r = read.2.1.reads in
    rw p.1 (rw p.2 (
      read.0,
      read.1,
      stops_last rule k dropped limit h read.0 _ c.take_stream.new.self (g.A.RouteSource.represents c.take_stream.new.archive) (g.A.RouteSource.represents c.offer_rest.new.archive) was _ _ _ r
          (c.in_err-offer_rest.ensures.given_up k h (turns_for limit 0 [] r.beyond.results) was r.beyond.collector r.beyond.counted r.beyond.done),
    ))
