use Rattle.std.proofs.Common.{rules, List}
use Rattle.disk_memory.specs.Burning.{Burning}
use Rattle.disk_memory.proofs.Burnings.{torn_burnings_all}
use Rattle.disk_memory.proofs.pen.MemPen.crash_as.Goals as goal

pub returns-clause-settled : goal.returns-clause-settled
returns-clause-settled c =
    let settled : List Burning = c.args.self.now.settled.items in
    let waiting : List Burning = c.args.self.now.waiting.items in
    let torn = c.args.torn.now in
    search (rules, c.in_ok-tear_all.ensures, c.in_ok-pen.ensures, torn_burnings_all torn waiting)
