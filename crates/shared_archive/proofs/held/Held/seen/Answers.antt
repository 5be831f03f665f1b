use Rattle.std.proofs.Common.{IfOk, subst, sym}
use Rattle.query_threads.specs.Looks.{AreTheSettled}
use Rattle.shared_archive.specs.Held.{HeldRepresents, disk_in}
use Rattle.shared_archive.proofs.held.Held.seen.Goals as goal

pub returns-in-Open-clause-represents : goal.returns-in-Open-clause-represents
returns-in-Open-clause-represents g c p k = c.seen.ensures.represents p (subst (λ h. HeldRepresents h p) c.in-Open.is k)

pub returns-in-Open-clause-honest : goal.returns-in-Open-clause-honest
returns-in-Open-clause-honest g c p k = subst (λ h. IfOk c.seen.result (λ s. g.O.OnceDisk.honest_seen (disk_in h) s)) (sym c.in-Open.is) (c.seen.ensures.honest p (subst (λ h. HeldRepresents h p) c.in-Open.is k))

pub returns-in-Open-clause-known : goal.returns-in-Open-clause-known
returns-in-Open-clause-known g c p k = subst (λ h. IfOk c.seen.result (λ s. AreTheSettled (g.O.OnceDisk.block_count (disk_in h)) (g.O.OnceDisk.known s) p.blocks)) (sym c.in-Open.is) (c.seen.ensures.known p (subst (λ h. HeldRepresents h p) c.in-Open.is k))

pub returns-in-Open-clause-sound : goal.returns-in-Open-clause-sound
returns-in-Open-clause-sound g c p k = c.seen.ensures.sound p (subst (λ h. HeldRepresents h p) c.in-Open.is k)
