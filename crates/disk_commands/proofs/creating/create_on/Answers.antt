use Rattle.std.proofs.Common.{◌∙◌, ap, inl}
use Rattle.disk_commands.proofs.Keeping.{site_made}
use Rattle.disk_commands.proofs.creating.create_on.Goals as goal

pub returns-in-Ok-clause-created : goal.returns-in-Ok-clause-created
returns-in-Ok-clause-created g c = λ follow.
    let e = c.in-Ok.ensures in
    let made = e.created follow.0 follow.1 in
    let read = c.close_disks-disks.ensures.represents _ made in (
      read.0,
      read.1 ∙ site_made _ _ e.settings e.homes e.note (ap g.O.OnceDisk.block_count e.disk),
      (c.close_disks-disks.ensures.left _ (inl made)).keep,
    )
