use Rattle.std.proofs.Common.{refl, subst}
use Rattle.shared_archive.specs.Held.{HeldRepresents}
use Rattle.shared_archive.proofs.Renewing.{stays_held}
use Rattle.shared_archive.proofs.held.Held.mark.Goals as goal

pub returns-in-Open-clause-done : goal.returns-in-Open-clause-done
returns-in-Open-clause-done g c p k = c.mark.ensures.done p (subst (λ h. HeldRepresents h p) c.in-Open.is k)

pub returns-in-Shut-clause-done : goal.returns-in-Shut-clause-done
returns-in-Shut-clause-done g c p k = (p, stays_held c.args.self.now p k, k, (tt, refl))
