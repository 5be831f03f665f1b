use Rattle.std.proofs.Common.{⊎_elim, inl}
use Rattle.route_meaning.proofs.api.Beginning.{Begins-refl}
use Rattle.disk_archive.specs.Archives.{site_of}
use Rattle.disk_archive.specs.Sites.{LeftRepresents, LeftEither, LeftFrom}
use Rattle.disk_archive.proofs.Counts.{counted_of}
use Rattle.disk_archive.proofs.Lasting.{down_still, held_clock, held_err}
use Rattle.disk_archive.proofs.Steps.{crashes_weaker, lasts_steps}
use Rattle.disk_archive.proofs.archive.Archive.check.Goals as goal

pub returns-clause-counted : goal.returns-clause-counted
returns-clause-counted g c = counted_of c.args.self.now c.try_check.result c.try_check.ensures.usable c.try_check.ensures.counted

pub returns-clause-holds : goal.returns-clause-holds
returns-clause-holds g c h held = held_err c.args.self.now c.try_check.new.self h c.try_check.ensures.honest.1 c.try_check.ensures.idle (λ k. inl (c.try_check.ensures.represents h k)) held

pub returns-clause-crash : goal.returns-clause-crash
returns-clause-crash g c h k =
    let a = c.args.self.now in
    crashes_weaker a c.try_check.new.self (LeftEither (site_of a) h h) (LeftRepresents (site_of a) h) (λ left either. ⊎_elim (λ was. was) (λ is. is) either) (c.try_check.ensures.crash h k)

pub returns-clause-lasts : goal.returns-clause-lasts
returns-clause-lasts g c =
    let a = c.args.self.now in
    let z = c.try_check.new.self in
    lasts_steps a z g.met.E.EraseDisk.sound c.try_check.ensures.honest.0 c.try_check.ensures.idle
    (λ h k. (h, Begins-refl h, inl (c.try_check.ensures.represents h k)))
    (λ h k. crashes_weaker a z (LeftEither (site_of a) h h) (LeftFrom (site_of a) h) (λ left either. (h, Begins-refl h, ⊎_elim (λ was. was) (λ is. is) either)) (c.try_check.ensures.crash h k))

pub returns-clause-idle : goal.returns-clause-idle
returns-clause-idle g c down = down_still c.args.self.now _ down (c.try_check.ensures.idle down)

pub returns-clause-still : goal.returns-clause-still
returns-clause-still g c honest h held = held_clock c.args.self.now _ h c.try_check.ensures.idle (c.try_check.ensures.still h) (held honest)
