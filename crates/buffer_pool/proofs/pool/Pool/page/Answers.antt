use Rattle.buffer_pool.proofs.Holding.{peek_shown}
use Rattle.buffer_pool.proofs.pool.Pool.page.Goals as goal

pub returns-in-None-clause-shown : goal.returns-in-None-clause-shown
returns-in-None-clause-shown g c pages m = peek_shown c.args.self.now.cached c.args.n pages c.peek.result m.held.cached c.peek.ensures
