use Rattle.std.proofs.Common.{◌≤◌, subst, Result, arith}
use Rattle.interleaving_core.specs.declared.reply.BatchReply.{BatchReply}
use Rattle.archive_calls.specs.declared.refusal.AdmitError.{AdmitError}
use Rattle.archive_calls.specs.Limits.{batch_octets}
use Rattle.service.specs.inner.Taking.{IsTaken}
use Rattle.service.proofs.Turning.{done_offer}
use Rattle.service.proofs.GivingUp.{gives_refused}
use Rattle.service.proofs.feeding.Feeding.offer.Goals as goal

pub returns-clause-done : goal.returns-clause-done
returns-clause-done g c = λ k h turns was same d.
    done_offer c.args.self.now.collector k h turns c.args.self.now.gathered.items _ c.args.self.now.counts _ c.in-Ok.admitted (g.A.RouteSource.represents c.args.archive.now) (g.A.RouteSource.represents c.admit_with_room.new.archive) was _ _ same c.deref.ensures.value
    (λ past represented. subst (λ (r : Result BatchReply AdmitError). IsTaken (g.A.RouteSource.represents c.admit_with_room.new.archive) c.args.self.now.collector c.deref.result.now r past) c.in-Ok.is (c.admit_with_room.ensures.taken past represented))
    c.report_batch.ensures.lines c.count_batch.ensures.admitted c.count_batch.ensures.late c.count_batch.ensures.refused d

pub returns-in-Err-clause-given_up : goal.returns-in-Err-clause-given_up
returns-in-Err-clause-given_up g c = λ k h turns was same counted d.
    let fits : batch_octets c.args.self.now.gathered.items ≤ 262144 = let e = counted.octets in let f = counted.fit in let few = counted.few in omega (arith, e, f, few) in
    rw c.stop_of.ensures
    (gives_refused c.args.self.now.collector k h turns c.args.self.now.gathered.items _ c.args.self.now.counts (g.A.RouteSource.represents c.args.archive.now) (g.A.RouteSource.represents c.admit_with_room.new.archive) was _ c.in-Err.refusal same c.deref.ensures.value fits
    (λ past represented. subst (λ (r : Result BatchReply AdmitError). IsTaken (g.A.RouteSource.represents c.admit_with_room.new.archive) c.args.self.now.collector c.deref.result.now r past) c.in-Err.is (c.admit_with_room.ensures.taken past represented)) d)
