use Rattle.uses_tests.proofs.Crashing.{some_then, takes_crash}
use Rattle.uses_tests.proofs.disks.reopen.Goals as goal

pub returns : goal.returns
returns c = record {
  takes = some_then c.opened_until.result _ _ (λ next r. takes_crash _ _ c.args.archive next.archive c.close-erase.result.0 c.close-erase.result.1.value c.close-erase.result.2 c.args.tear c.args.stop next.returned c.close-erase.ensures.leads r) c.opened_until.ensures.opens;
}
