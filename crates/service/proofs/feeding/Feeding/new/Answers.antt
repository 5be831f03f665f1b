use Rattle.std.proofs.Common.{refl}
use Rattle.service.specs.Feeds.{limits_for}
use Rattle.service.proofs.Following.{after_none}
use Rattle.service.proofs.feeding.Feeding.new.Goals as goal

pub returns : goal.returns
returns g c = record {
  begins = λ h was represented.
      after_none c.args.how.rule c.args.how.collector c.args.dropping (limits_for c.args.how (g.A.RouteArchive.most c.args.archive.now)) h (g.A.RouteSource.represents c.args.archive.now) _ was refl
      (λ k. record { records = c.args.how.limit; octets = c.batch_limit.ensures.most k }) refl c.new.ensures.collector c.new.ensures.none c.new.ensures.left_out c.new-2.ensures.items refl refl refl c.batch_limit.ensures.one c.batch_limit.ensures.few represented;
}
