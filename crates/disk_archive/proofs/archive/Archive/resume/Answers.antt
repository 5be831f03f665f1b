use Rattle.disk_archive.proofs.Reporting.{resume_reported}
use Rattle.disk_archive.proofs.archive.Archive.resume.Goals as goal

pub returns : goal.returns
returns g c = record {
  resume = λ honest h holds. resume_reported c.args.self.now h c.args.collector c.lane_of-lane.result c.lane_of-lane.ensures.lane (holds honest);
}
