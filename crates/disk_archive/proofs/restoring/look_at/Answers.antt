use Rattle.std.proofs.Common.{subst, sym}
use Rattle.buffer_pool.specs.Pool.{Maps}
use Rattle.disk_archive.proofs.restoring.look_at.Goals as goal

pub returns-in-Ok-clause-maps : goal.returns-in-Ok-clause-maps
returns-in-Ok-clause-maps g c pages keeps = subst (λ p. Maps g.E.EraseDisk p pages) (sym c.into_pool.ensures.pool) (c.in-Ok.ensures.maps pages keeps)
