use Rattle.disk_commands.proofs.Keeping.{leave_given, represent_given}
use Rattle.disk_commands.proofs.opening.close_disks.Goals as goal

pub returns : goal.returns
returns g c =
    let d = c.into_disks-erase.ensures in
    record {
      left = λ h goes. leave_given c.args.archive _ c.is_usable-is_read.result h d.erase d.once d.pen c.is_usable-is_read.ensures.usable goes;
      represents = λ h represents. represent_given c.args.archive _ h d.erase d.once d.pen represents;
      disk = d.once;
      erase = d.erase;
    }
