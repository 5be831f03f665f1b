use Rattle.buffer_pool.proofs.Holding.{taken_shown, dropped_shown}
use Rattle.buffer_pool.proofs.held.take_page.Goals as goal

pub returns-clause-holds : goal.returns-clause-holds
returns-clause-holds c map lt h = record {
  committed = taken_shown c.args.committed.now c.take_in.new.pages c.args.n c.args.page map lt h.committed c.take_in.ensures.has;
  cached = dropped_shown c.args.n c.args.cached.now c.drop_page.new.pages c.args.page map c.drop_page.ensures.dropped h.cached;
}
