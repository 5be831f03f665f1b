use Rattle.std.proofs.Common.{rules}
use Rattle.once_store.proofs.shelf.Shelf.append.Goals as goal

pub returns-clause-lasts : goal.returns-clause-lasts
returns-clause-lasts g c = λ h left kept. kept c.skip_tried.new.next c.args.block.now (search rules)
