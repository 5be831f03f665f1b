use Rattle.std.proofs.Common.{◌∙◌, subst}
use Rattle.disk_models.specs.Left.{LeftNow}
use Rattle.disk_memory.specs.contracts.erase.MemEraseEraseDisk.TheImpl.{ghosts as erase}
use Rattle.disk_memory.specs.contracts.once.MemOnceOnceDisk.TheImpl.{ghosts as once}
use Rattle.disk_memory.specs.Memory.{calls_of}
use Rattle.disk_memory.specs.Pen.{once_model}
use Rattle.disk_memory.specs.Replay.{state_of}
use Rattle.disk_archive.specs.Archives.{pen_in}
use Rattle.archive_uses.proofs.Creating.{left_by}
use Rattle.uses_tests.proofs.disks.create_on.Goals as goal

pub returns-in-Ok-clause-left : goal.returns-in-Ok-clause-left
returns-in-Ok-clause-left c left now =
    let both = c.args.both in
    let leads = c.close-erase.ensures.leads in
    left_by erase once c.args.settings both.erase both.once.value both.pen left c.requires.settings
    (c.in-Ok.ensures.after tt tt left (subst (λ e. LeftNow (state_of (calls_of e)) (once_model (pen_in c.in-Ok.archive)) left) leads.0 (subst (λ p. LeftNow (state_of (calls_of c.close-erase.result.0)) (once_model p) left) leads.2 now)))

pub returns-in-Ok-clause-same : goal.returns-in-Ok-clause-same
returns-in-Ok-clause-same c = c.close-erase.ensures.leads.1 ∙ c.in-Ok.ensures.disk

pub returns-in-Err-clause-left : goal.returns-in-Err-clause-left
returns-in-Err-clause-left c left now =
    let both = c.args.both in
    left_by erase once c.args.settings both.erase both.once.value both.pen left c.requires.settings (c.in-Err.ensures.after tt tt left now)

pub returns-in-Err-clause-same : goal.returns-in-Err-clause-same
returns-in-Err-clause-same c = c.in-Err.ensures.disk
