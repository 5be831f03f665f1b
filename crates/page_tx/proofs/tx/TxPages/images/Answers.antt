use Rattle.std.proofs.Common.{ap, arith, length}
use Rattle.page_tx.proofs.Laying.{length_pages_of}
use Rattle.page_tx.proofs.tx.TxPages.images.Goals as goal

pub returns : goal.returns
returns g c = let l = length_pages_of c.args.self.now.images.items in let v = ap length c.deref-held.ensures.value in omega (arith, l, v)
