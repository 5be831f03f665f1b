use Rattle.route_meaning.specs.History.{applied}
use Rattle.disk_archive.proofs.changed_look.start_walk.Goals as goal

pub returns-clause-walked : goal.returns-clause-walked
returns-clause-walked c h = λ later right begins all kept. c.start.ensures.nothing all (applied later) (c.versions_report.ensures.changed (applied later) all c.args.question kept)
