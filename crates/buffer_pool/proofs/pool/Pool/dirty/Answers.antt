use Rattle.page_journal.specs.Journal.{unhomed_pages}
use Rattle.buffer_pool.proofs.Waiting.{among_listed}
use Rattle.buffer_pool.proofs.pool.Pool.dirty.Goals as goal

pub returns-clause-waiting : goal.returns-clause-waiting
returns-clause-waiting g c n there = among_listed n (unhomed_pages c.args.self.now.journal) (c.args.self.now.dirty n there)
