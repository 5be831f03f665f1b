use Rattle.std.proofs.lemmas.Result.{IfOk-weaker}
use Rattle.service.specs.CommandLines.{archive_program, dumping, listing, comparing, finding}
use Rattle.service.proofs.Subcommands.{adds}
use Rattle.service.proofs.arguments.program.Goals as goal

pub returns : goal.returns
returns c =
    let one = adds _ _ _ archive_program dumping c.in_ok-subcommand.ensures c.in_ok-archive_program.ensures.app c.in_ok-dumping.ensures.app c.in_ok-dumping.ensures.own in
    let two = adds _ _ _ _ listing c.in_ok-subcommand-2.ensures one c.in_ok-listing.ensures.app c.in_ok-listing.ensures.own in
    let three = adds _ _ _ _ comparing c.in_ok-subcommand-3.ensures two c.in_ok-comparing.ensures.app c.in_ok-comparing.ensures.own in
    record { app = IfOk-weaker c.subcommand-4.result _ _ (λ r h. adds _ _ r _ finding h three c.in_ok-finding.ensures.app c.in_ok-finding.ensures.own) c.subcommand-4.ensures }
