use Rattle.uses_tests.proofs.Crashing.{cut_lives}
use Rattle.uses_tests.proofs.disks.cut_create.Goals as goal

pub returns-in-Ok : goal.returns-in-Ok
returns-in-Ok c =
    let first = c.in-Some.both in
    let second = c.create_on-both.result in
    let after = c.in-Some-crash.after in
    let archive = c.in-Ok.archive in
    let l = c.in-Some-crash.ensures.loses in
    record {
      lives = cut_lives _ _ c.args.settings first.erase first.once.value first.pen second.erase second.once.value second.pen after.erase after.once.value after.pen archive c.in-Some.ensures.none c.create_on-both.ensures.left c.create_on-both.ensures.same l c.in-Ok.ensures.opens
          (c.uses_are_runs.ensures.none _ l.left after.erase after.once.value after.pen archive);
    }
