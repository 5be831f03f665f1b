use Rattle.std.proofs.Common.{◌<◌, ⊎_elim, inl}
use Rattle.route_meaning.proofs.api.Beginning.{Begins-refl}
use Rattle.disk_archive.specs.Archives.{site_of}
use Rattle.disk_archive.specs.Sites.{LeftRepresents, LeftEither, LeftFrom}
use Rattle.interleaving_core.specs.Does.{last_moment}
use Rattle.interleaving_core.specs.Headline.{IsAnswered}
use Rattle.route_meaning.specs.History.{applied, settled}
use Rattle.disk_archive.proofs.Asking.{answered_of, below_of, watermark_of}
use Rattle.disk_archive.proofs.Lasting.{down_still, held_clock, held_err}
use Rattle.disk_archive.proofs.Steps.{crashes_weaker, lasts_steps}
use Rattle.disk_archive.proofs.archive.Archive.answer.Goals as goal

pub returns-clause-holds : goal.returns-clause-holds
returns-clause-holds g c h held = held_err c.args.self.now c.try_answer.new.self h c.try_answer.ensures.honest.1 c.try_answer.ensures.idle (λ k. inl (c.try_answer.ensures.represents h k)) held

pub returns-clause-crash : goal.returns-clause-crash
returns-clause-crash g c h k =
    let a = c.args.self.now in
    crashes_weaker a c.try_answer.new.self (LeftEither (site_of a) h h) (LeftRepresents (site_of a) h) (λ left either. ⊎_elim (λ was. was) (λ is. is) either) (c.try_answer.ensures.crash h k)

pub returns-clause-lasts : goal.returns-clause-lasts
returns-clause-lasts g c =
    let a = c.args.self.now in
    let z = c.try_answer.new.self in
    lasts_steps a z g.met.E.EraseDisk.sound c.try_answer.ensures.honest.0 c.try_answer.ensures.idle
    (λ h k. (h, Begins-refl h, inl (c.try_answer.ensures.represents h k)))
    (λ h k. crashes_weaker a z (LeftEither (site_of a) h h) (LeftFrom (site_of a) h) (λ left either. (h, Begins-refl h, ⊎_elim (λ was. was) (λ is. is) either)) (c.try_answer.ensures.crash h k))

pub returns-clause-answered : goal.returns-clause-answered
returns-clause-answered g c = answered_of c.args.self.now c.try_answer.result (λ answer h. IsAnswered (applied h) c.args.query answer) c.try_answer.ensures.usable c.try_answer.ensures.answered

pub returns-clause-below : goal.returns-clause-below
returns-clause-below g c = below_of c.args.self.now c.try_answer.result (λ h. last_moment c.args.query < settled h) c.try_answer.ensures.usable c.try_answer.ensures.below

pub returns-clause-above : goal.returns-clause-above
returns-clause-above g c = watermark_of c.args.self.now c.try_answer.result (last_moment c.args.query) c.try_answer.ensures.reported c.try_answer.ensures.above c.try_answer.ensures.watermark

pub returns-clause-idle : goal.returns-clause-idle
returns-clause-idle g c down = down_still c.args.self.now _ down (c.try_answer.ensures.idle down)

pub returns-clause-still : goal.returns-clause-still
returns-clause-still g c honest h held = held_clock c.args.self.now _ h c.try_answer.ensures.idle (c.try_answer.ensures.still h) (held honest)
