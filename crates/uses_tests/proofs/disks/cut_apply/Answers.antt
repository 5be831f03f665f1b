use Rattle.disk_memory.specs.Memory.{calls_of}
use Rattle.disk_memory.specs.Sound.{state_is_sound}
use Rattle.uses_tests.proofs.Crashing.{some_then, takes_cut_apply}
use Rattle.uses_tests.proofs.disks.cut_apply.Goals as goal

pub returns : goal.returns
returns c = record {
  takes = λ is. some_then c.opened_until.result _ _
      (λ next r. takes_cut_apply _ _ (λ d. state_is_sound (calls_of d)) c.args.archive c.apply_step-result.new.archive next.archive c.close-erase.result.0 c.close-erase.result.1.value c.close-erase.result.2 c.args.tear c.apply_step-result.result next.returned c.apply_step-result.ensures.did c.close-erase.ensures.leads r (tt, tt) is)
      c.opened_until.ensures.opens;
}
