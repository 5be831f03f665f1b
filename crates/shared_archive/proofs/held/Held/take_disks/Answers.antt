use Rattle.std.proofs.Common.{subst, sym}
use Rattle.shared_archive.specs.Held.{HeldRepresents, LacksPast}
use Rattle.shared_archive.proofs.Renewing.{rest_of}
use Rattle.shared_archive.proofs.held.Held.take_disks.Goals as goal

pub returns-in_ok-shut-in-Open-clause-taken : goal.returns-in_ok-shut-in-Open-clause-taken
returns-in_ok-shut-in-Open-clause-taken g c p k =
    let a = c.in-Open.archive in
    let held = subst (λ h. HeldRepresents h p) c.in-Open.is k in
    let d = c.shut_with.ensures.disks in
    subst (λ h. LacksPast h c.shut_with.result p) (sym c.shut_with.ensures.shut)
    (record { remembers = c.in_ok-shut-in-Open.ensures.remembers p held; rest = rest_of a p held c.shut_with.result d.0 d.1 d.2 c.in_ok-shut-in-Open.shut.ring (sym c.in_ok-shut-in-Open.ensures.ring) })
