use Rattle.std.proofs.Common.{◌∙◌, refl, subst, sym}
use Rattle.shared_archive.specs.Held.{HeldRepresents}
use Rattle.shared_archive.proofs.Renewing.{are_disk, are_erase, are_pen, reopens_by, stays_held}
use Rattle.shared_archive.proofs.held.Held.reopen.Goals as goal

pub returns-in-Ok-clause-opens : goal.returns-in-Ok-clause-opens
returns-in-Ok-clause-opens g c =
    let a = c.args.self.now in
    let d = c.in-Ok.disks in
    reopens_by a c.take_disks.new.self c.open_renewed.new.self d c.open_renewed.result _ _ (are_erase a d c.in-Ok.ensures.disks) (are_pen a d c.in-Ok.ensures.disks) (λ x k. c.in-Ok.ensures.taken x k) c.open_renewed.ensures.opens c.open_renewed.ensures.trouble

pub returns-in-Ok-clause-disk : goal.returns-in-Ok-clause-disk
returns-in-Ok-clause-disk g c = c.open_renewed.ensures.disk ∙ are_disk c.args.self.now c.in-Ok.disks c.in-Ok.ensures.disks

pub returns-in-Err-clause-done : goal.returns-in-Err-clause-done
returns-in-Err-clause-done g c p k = (p, stays_held c.args.self.now p k, subst (λ h. HeldRepresents h p) (sym c.in-Err.ensures.same) k, refl)
