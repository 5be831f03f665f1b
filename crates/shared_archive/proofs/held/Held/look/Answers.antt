use Rattle.std.proofs.Common.{◌≡◌, subst}
use Rattle.once_store.specs.Readers.{reader_disk}
use Rattle.shared_archive.specs.Held.{HeldRepresents, disk_in}
use Rattle.shared_archive.proofs.held.Held.look.Goals as goal

pub returns-in-Open-clause-represents : goal.returns-in-Open-clause-represents
returns-in-Open-clause-represents g c p k = c.look.ensures.represents p (subst (λ h. HeldRepresents h p) c.in-Open.is k)

pub returns-in-Open-clause-settled : goal.returns-in-Open-clause-settled
returns-in-Open-clause-settled g c p k = c.look.ensures.settled p (subst (λ h. HeldRepresents h p) c.in-Open.is k)

pub returns-in-Open-clause-walked : goal.returns-in-Open-clause-walked
returns-in-Open-clause-walked g c p k disk = c.look.ensures.walked p (subst (λ h. HeldRepresents h p) c.in-Open.is k) (subst (λ h. reader_disk c.args.reader.now ≡ disk_in h) c.in-Open.is disk)

pub returns-in-Open-clause-answer : goal.returns-in-Open-clause-answer
returns-in-Open-clause-answer g c p k disk = c.look.ensures.answer p (subst (λ h. HeldRepresents h p) c.in-Open.is k) (subst (λ h. reader_disk c.args.reader.now ≡ disk_in h) c.in-Open.is disk)

pub returns-in-Open-clause-kept : goal.returns-in-Open-clause-kept
returns-in-Open-clause-kept g c p k disk = c.look.ensures.kept p (subst (λ h. HeldRepresents h p) c.in-Open.is k) (subst (λ h. reader_disk c.args.reader.now ≡ disk_in h) c.in-Open.is disk)

pub returns-in-Open-clause-reported : goal.returns-in-Open-clause-reported
returns-in-Open-clause-reported g c p k disk = c.look.ensures.reported p (subst (λ h. HeldRepresents h p) c.in-Open.is k) (subst (λ h. reader_disk c.args.reader.now ≡ disk_in h) c.in-Open.is disk)
