use Rattle.std.proofs.Common.{⊎_elim}
use Rattle.route_meaning.proofs.api.Beginning.{Begins-refl}
use Rattle.disk_archive.specs.Archives.{site_of}
use Rattle.disk_archive.specs.Sites.{LeftRepresents, LeftEither, LeftFrom}
use Rattle.disk_archive.proofs.Lasting.{down_still, held_err}
use Rattle.disk_archive.proofs.Steps.{crashes_weaker, lasts_steps}
use Rattle.disk_archive.proofs.archive.Archive.flush_step.Goals as goal

pub returns-clause-holds : goal.returns-clause-holds
returns-clause-holds g c h held = held_err c.args.self.now c.try_flush.new.self h c.try_flush.ensures.honest.1 c.try_flush.ensures.idle (c.try_flush.ensures.goes_on h) held

pub returns-clause-crash : goal.returns-clause-crash
returns-clause-crash g c h k =
    let a = c.args.self.now in
    crashes_weaker a c.try_flush.new.self (LeftEither (site_of a) h h) (LeftRepresents (site_of a) h) (λ left either. ⊎_elim (λ was. was) (λ is. is) either) (c.try_flush.ensures.crash h k)

pub returns-clause-lasts : goal.returns-clause-lasts
returns-clause-lasts g c =
    let a = c.args.self.now in
    let z = c.try_flush.new.self in
    lasts_steps a z g.met.E.EraseDisk.sound c.try_flush.ensures.honest.0 c.try_flush.ensures.idle
    (λ h k. (h, Begins-refl h, c.try_flush.ensures.goes_on h k))
    (λ h k. crashes_weaker a z (LeftEither (site_of a) h h) (LeftFrom (site_of a) h) (λ left either. (h, Begins-refl h, ⊎_elim (λ was. was) (λ is. is) either)) (c.try_flush.ensures.crash h k))

pub returns-clause-quiet : goal.returns-clause-quiet
returns-clause-quiet g c other = c.try_flush.ensures.device.quiet other

pub returns-clause-counted : goal.returns-clause-counted
returns-clause-counted g c reported = c.try_flush.ensures.device.counted reported

pub returns-clause-idle : goal.returns-clause-idle
returns-clause-idle g c down = down_still c.args.self.now _ down (c.try_flush.ensures.idle down)
