use Rattle.once_store.proofs.Kept.{peeked, not_peeked}
use Rattle.once_store.proofs.reader.ShelfReader.block.Goals as goal

pub returns-clause-some : goal.returns-clause-some
returns-clause-some g c = peeked c.args.n c.args.self.now.kept.entries c.peek.result c.peek.ensures

pub returns-clause-none : goal.returns-clause-none
returns-clause-none g c = not_peeked c.args.n c.args.self.now.kept.entries c.peek.result c.peek.ensures
