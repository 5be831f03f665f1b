use Rattle.std.proofs.Common.{sym, subst}
use Rattle.buffer_pool.specs.Pool.{Maps}
use Rattle.disk_archive.proofs.mapping.map_pages.Goals as goal

pub returns-in-Ok-clause-maps : goal.returns-in-Ok-clause-maps
returns-in-Ok-clause-maps g c pages keeps = subst (λ p. Maps g.E.EraseDisk p pages) (sym c.new-in-Ok.ensures.pool) (c.in-Ok.ensures.made pages keeps)
