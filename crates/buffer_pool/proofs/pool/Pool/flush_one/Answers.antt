use Rattle.std.proofs.Common.{ap, arith, length}
use Rattle.buffer_pool.proofs.Holding.{fewer}
use Rattle.page_journal.specs.Journal.{unhomed_pages}
use Rattle.buffer_pool.proofs.pool.Pool.flush_one.Goals as goal

pub returns-clause-fewer : goal.returns-clause-fewer
returns-clause-fewer g c =
    let old = unhomed_pages c.args.self.now.journal in
    omega (arith, fewer old c.in-Some.n c.in-Some.ensures.listed, ap length c.in_ok-flush.ensures.homed)
