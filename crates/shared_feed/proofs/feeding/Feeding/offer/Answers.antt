use Rattle.std.specs.Prelude.{IsSome}
use Rattle.std.proofs.lemmas.Result.{err_from_is_err_and}
use Rattle.shared_feed.proofs.Making.{done_offer}
use Rattle.shared_feed.proofs.GivingUp.{gives_refused}
use Rattle.shared_feed.proofs.feeding.Feeding.offer.Goals as goal

pub returns-clause-done : goal.returns-clause-done
returns-clause-done g c = λ k v turns was same d.
    done_offer (IsSome g.N.OnDisk.disk) c.args.self.now.collector k v turns c.args.self.now.gathered.items _ c.args.self.now.counts _ c.in_ok-reply.reply c.args.pass.now c.admit_with_room.new.pass was _ _ same c.deref.ensures.value
    c.in_ok-reply.ensures.taken c.admit_with_room.ensures.since c.report_batch.ensures.lines c.count_batch.ensures.admitted c.count_batch.ensures.late c.count_batch.ensures.refused d

pub returns-in_err-reply-clause-given_up : goal.returns-in_err-reply-clause-given_up
returns-in_err-reply-clause-given_up g c = λ k v turns was same counted d.
    let p = err_from_is_err_and c.from_residual.result c.from_residual.ensures.1 in
    rw p.1 (rw p.2
    (gives_refused (IsSome g.N.OnDisk.disk) c.args.self.now.collector k v turns c.args.self.now.gathered.items _ c.args.self.now.counts c.args.pass.now c.admit_with_room.new.pass was _ _ same c.deref.ensures.value
    c.in_err-reply.ensures.refused c.admit_with_room.ensures.since d))
