use Rattle.disk_archive.proofs.Asking.{rises_applied}
use Rattle.route_meaning.specs.History.{applied}
use Rattle.disk_archive.proofs.cursor.Cursor.start.Goals as goal

pub returns-in-Rows-clause-gathered : goal.returns-in-Rows-clause-gathered
returns-in-Rows-clause-gathered c h = λ g right begins all kept. c.start.ensures.nothing all (applied g)

pub returns-in-Events-clause-gathered : goal.returns-in-Events-clause-gathered
returns-in-Events-clause-gathered c h = λ g right begins all kept. c.start-in-Events.ensures.nothing all (applied g) (c.versions_report.ensures.events (applied g) all c.in-Events.question (rises_applied g) kept c.encoded_len-len.ensures.valid c.address-address.ensures.valid)
