use Rattle.std.proofs.Common.{◌∙◌}
use Rattle.disk_archive.proofs.Mirroring.{mirror_settled}
use Rattle.disk_archive.proofs.Reporting.{mirrors_of}
use Rattle.disk_archive.proofs.archive.Archive.settled.Goals as goal

pub returns : goal.returns
returns g c = record {
  settled = λ honest h holds. c.settled.ensures.least ∙ mirror_settled c.args.self.now.sequencer h (mirrors_of c.args.self.now h (holds honest));
}
