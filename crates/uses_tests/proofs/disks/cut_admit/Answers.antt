use Rattle.std.proofs.Common.{List, subst}
use Rattle.route_model.specs.Admission.{Admitted}
use Rattle.archive_uses.specs.Calls.{Admits}
use Rattle.disk_memory.specs.Memory.{calls_of}
use Rattle.disk_memory.specs.Sound.{state_is_sound}
use Rattle.uses_tests.proofs.Crashing.{some_then, takes_cut_admit}
use Rattle.uses_tests.proofs.disks.cut_admit.Goals as goal

pub returns : goal.returns
returns c =
    let given = c.in-Some.admissions in
    let a = c.args.archive in
    let z = c.admit-result.new.archive in
    let did = subst (λ (xs : List Admitted). Admits a z c.args.collector xs c.admit-result.result) c.as_slice.ensures.value c.admit-result.ensures.did in
    record {
      takes = λ is. some_then c.opened_until.result _ _
          (λ next r. takes_cut_admit _ _ (λ d. state_is_sound (calls_of d)) a z next.archive c.close-erase.result.0 c.close-erase.result.1.value c.close-erase.result.2 c.args.collector c.args.batch given c.args.tear c.admit-result.result next.returned c.in-Some.ensures.valid did c.close-erase.ensures.leads r (tt, tt) is)
          c.opened_until.ensures.opens;
    }
