use Rattle.std.proofs.Common.{◌++◌, List, sym, subst, map, arith, take_all}
use Rattle.std.specs.Prelude.{IsSome}
use Rattle.std.proofs.lemmas.List.{append-nil}
use Rattle.mrt_records.specs.Values.{Reported, reported}
use Rattle.shared_feed.specs.inner.Feeding.{IsAfter}
use Rattle.std.proofs.lemmas.Result.{err_from_is_err_and}
use Rattle.shared_feed.proofs.GivingUp.{stops_among}
use Rattle.service.proofs.Following.{reported_more}
use Rattle.shared_feed.proofs.feeding.Feeding.take_all.Goals as goal

pub loop-item-init : goal.loop-item-init
loop-item-init g c = λ k limit v records was b.
    subst (λ (t : List Reported). IsAfter (IsSome g.N.OnDisk.disk) k limit v t c.args.self.now c.args.pass.now was c.args.out.now) (sym (append-nil records)) b

pub loop-item-preserved : goal.loop-item-preserved
loop-item-preserved g c = λ k limit v records was b.
    subst (λ (t : List Reported). IsAfter (IsSome g.N.OnDisk.disk) k limit v t c.take.new.self c.take.new.pass was c.take.new.out) (reported_more c.args.items.now c.loop-item.item-index c.item-item.result records (omega arith) c.item-item.is)
    (c.in_ok-take.ensures.beyond k limit v _ was (c.loop-item.invariant k limit v records was b))

pub returns : goal.returns
returns g c = record {
  beyond = λ k limit v records was b.
      subst (λ (t : List _). IsAfter (IsSome g.N.OnDisk.disk) k limit v (records ++ map reported t) c.loop-item.self c.loop-item.pass was c.loop-item.out) (take_all c.loop-item.item-index c.args.items.now (omega arith))
      (c.loop-item.invariant k limit v records was b);
  given_up = λ k limit v records was b. tt;
}

pub returns-in_err-take-clause-given_up : goal.returns-in_err-take-clause-given_up
returns-in_err-take-clause-given_up g c = λ k limit v records was b.
    let p = err_from_is_err_and c.from_residual.result c.from_residual.ensures.1 in
    rw p.1 (rw p.2
    (stops_among (IsSome g.N.OnDisk.disk) k limit v records c.args.items.now c.loop-item.item-index c.item-item.result c.take.new.pass was _ _ (omega arith) c.item-item.is
    (c.in_err-take.ensures.given_up k limit v _ was (c.loop-item.invariant k limit v records was b))))
