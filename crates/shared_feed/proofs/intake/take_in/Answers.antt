use Rattle.std.proofs.Common.{[], ◌∙◌, ap}
use Rattle.std.specs.Prelude.{IsSome}
use Rattle.std.proofs.lemmas.Result.{err_from_is_err_and}
use Rattle.service.specs.Turns.{turns_for}
use Rattle.service.specs.declared.limits.BatchLimits.{BatchLimits}
use Rattle.shared_feed.specs.SharedFeeds.{limits_of}
use Rattle.shared_feed.proofs.Following.{after_none}
use Rattle.shared_feed.proofs.GivingUp.{stops_last}
use Rattle.shared_feed.proofs.Streams.{reads_none, all_taken_in}
use Rattle.shared_feed.proofs.Limits.{one_fits, few_fit}
use Rattle.shared_feed.proofs.intake.take_in.Goals as goal

pub returns : goal.returns
returns g c = record {
  fed =
      let p = IsSome g.N.OnDisk.disk in
      let k = c.args.collector in
      let limit : BatchLimits = limits_of c.args.limit c.args.shared.now.ring in
      let v = c.args.pass.now in
      let was = c.args.out.now in
      let new = c.new-feeding.ensures in
      let begun = reads_none p k limit v c.new-framer.result c.new-feeding.result v was c.new-framer.ensures.empty (after_none p k limit v c.new-feeding.result was new.collector (new.limit ∙ c.limits_of.ensures.limit ∙ ap (limits_of c.args.limit) c.ring.ensures) new.fed new.none new.empty new.octets new.counts (one_fits c.args.limit c.args.shared.now.ring) (few_fit c.args.limit c.args.shared.now.ring)) in
      let read = c.in_ok-take_stream.ensures.read k limit v [] was begun in (
        read.0,
        read.1,
        all_taken_in p k limit v read.0 c.take_stream.new.framer c.cut_of-cut.result c.take_stream.new.self c.offer_rest.new.self c.take_stream.new.pass c.offer_rest.new.pass was _ _ _
            read.2 c.cut_of-cut.ensures.cut c.offer_rest.ensures.same (λ turns same d. c.in_ok-offer_rest.ensures.done k v turns was same d) c.report_end.ensures.reported,
      );
  given_up = tt;
}

pub returns-in_err-take_stream-clause-given_up : goal.returns-in_err-take_stream-clause-given_up
returns-in_err-take_stream-clause-given_up g c =
    let p = IsSome g.N.OnDisk.disk in
    let e = err_from_is_err_and c.from_residual.result c.from_residual.ensures.1 in
    let k = c.args.collector in
    let limit : BatchLimits = limits_of c.args.limit c.args.shared.now.ring in
    let v = c.args.pass.now in
    let was = c.args.out.now in
    let new = c.new-feeding.ensures in
    let begun = reads_none p k limit v c.new-framer.result c.new-feeding.result v was c.new-framer.ensures.empty (after_none p k limit v c.new-feeding.result was new.collector (new.limit ∙ c.limits_of.ensures.limit ∙ ap (limits_of c.args.limit) c.ring.ensures) new.fed new.none new.empty new.octets new.counts (one_fits c.args.limit c.args.shared.now.ring) (few_fit c.args.limit c.args.shared.now.ring)) in
    rw e.1 (rw e.2 (c.in_err-take_stream.ensures.given_up k limit v [] was begun))

pub returns-in_err-offer_rest-clause-given_up : goal.returns-in_err-offer_rest-clause-given_up
returns-in_err-offer_rest-clause-given_up g c =
    let p = IsSome g.N.OnDisk.disk in
    let e = err_from_is_err_and c.from_residual-in_err-offer_rest.result c.from_residual-in_err-offer_rest.ensures.1 in
    let k = c.args.collector in
    let limit : BatchLimits = limits_of c.args.limit c.args.shared.now.ring in
    let v = c.args.pass.now in
    let was = c.args.out.now in
    let new = c.new-feeding.ensures in
    let begun = reads_none p k limit v c.new-framer.result c.new-feeding.result v was c.new-framer.ensures.empty (after_none p k limit v c.new-feeding.result was new.collector (new.limit ∙ c.limits_of.ensures.limit ∙ ap (limits_of c.args.limit) c.ring.ensures) new.fed new.none new.empty new.octets new.counts (one_fits c.args.limit c.args.shared.now.ring) (few_fit c.args.limit c.args.shared.now.ring)) in
    let read = c.in_ok-take_stream.ensures.read k limit v [] was begun in
    let r = read.2.1.reads in
    rw e.1 (rw e.2 (
      read.0,
      read.1,
      stops_last p k limit v read.0 _ c.take_stream.new.self c.take_stream.new.pass c.offer_rest.new.pass was _ _ _ r
          (c.in_err-offer_rest.ensures.given_up k v (turns_for limit 0 [] r.beyond.results) was r.beyond.collector r.beyond.counted r.beyond.done),
    ))
