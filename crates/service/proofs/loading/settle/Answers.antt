use Rattle.std.proofs.Common.{◌∙◌}
use Rattle.service.proofs.Applying.{flushed}
use Rattle.service.proofs.loading.settle.Goals as goal

pub returns : goal.returns
returns g c = record {
  settled = λ h represented. flushed _ _ _ c.flush_all.ensures.same (c.in_ok-apply_all.ensures.settled _ (c.in_ok-set_mark.ensures.marked h represented));
  unsettled = λ h represented. tt;
  most = c.flush_all.ensures.most ∙ c.in_ok-apply_all.ensures.most ∙ c.in_ok-set_mark.ensures.most;
}
