use Rattle.std.proofs.Common.{◌∙◌, ap}
use Rattle.route_meaning.specs.History.{applied}
use Rattle.disk_archive.proofs.Counts.{changes_are}
use Rattle.disk_archive.proofs.Reporting.{represented_of}
use Rattle.disk_archive.proofs.archive.Archive.applied.Goals as goal

pub returns-clause-counted : goal.returns-clause-counted
returns-clause-counted g c honest h holds = ap (λ a. a.head.applied) c.self.view_is ∙ ((represented_of c.args.self.now h (holds honest)).1.numbered ∙ changes_are (applied h))
