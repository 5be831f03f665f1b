use Rattle.std.proofs.Common.{◌∙◌, ◌++◌, refl, List, sym, subst, map, arith, take_all}
use Rattle.std.proofs.lemmas.List.{append-nil}
use Rattle.mrt_records.specs.Values.{Reported, reported}
use Rattle.service.specs.inner.Feeding.{IsAfter}
use Rattle.std.proofs.lemmas.Result.{err_from_is_err_and}
use Rattle.service.proofs.GivingUp.{stops_among}
use Rattle.service.proofs.Following.{reported_more}
use Rattle.service.proofs.feeding.Feeding.take_all.Goals as goal

pub loop-item-init : goal.loop-item-init
loop-item-init g c = record {
  most = refl;
  beyond = λ rule k dropped limit h records was b.
      subst (λ (t : List Reported). IsAfter rule k dropped limit h t c.args.self.now (g.A.RouteSource.represents c.args.archive.now) was c.args.out.now) (sym (append-nil records)) b;
}

pub loop-item-preserved : goal.loop-item-preserved
loop-item-preserved g c = record {
  most = c.in_ok-take.ensures.most ∙ c.loop-item.invariant.most;
  beyond = λ rule k dropped limit h records was b.
      subst (λ (t : List Reported). IsAfter rule k dropped limit h t c.take.new.self (g.A.RouteSource.represents c.take.new.archive) was c.take.new.out) (reported_more c.args.items.now c.loop-item.item-index c.item-item.result records (omega arith) c.item-item.is)
      (c.in_ok-take.ensures.beyond rule k dropped limit h _ was (c.loop-item.invariant.beyond rule k dropped limit h records was b));
}

pub returns : goal.returns
returns g c = record {
  beyond = λ rule k dropped limit h records was b.
      subst (λ (t : List _). IsAfter rule k dropped limit h (records ++ map reported t) c.loop-item.self (g.A.RouteSource.represents c.loop-item.archive) was c.loop-item.out) (take_all c.loop-item.item-index c.args.items.now (omega arith))
      (c.loop-item.invariant.beyond rule k dropped limit h records was b);
  inside = λ e. absurd cc;
  most = c.loop-item.invariant.most;
  given_up = λ rule k dropped limit h records was b. tt;
}

pub returns-in_err-take-clause-given_up : goal.returns-in_err-take-clause-given_up
returns-in_err-take-clause-given_up g c = λ rule k dropped limit h records was b.
    let p = err_from_is_err_and c.from_residual.result c.from_residual.ensures.1 in
    rw p.1 (rw p.2
    (stops_among rule k dropped limit h records c.args.items.now c.loop-item.item-index c.item-item.result (g.A.RouteSource.represents c.take.new.archive) was _ _ (omega arith) c.item-item.is
    (c.in_err-take.ensures.given_up rule k dropped limit h _ was (c.loop-item.invariant.beyond rule k dropped limit h records was b))))
