use Rattle.std.proofs.Common.{◌<◌, ⊎_elim, inl}
use Rattle.route_meaning.proofs.api.Beginning.{Begins-refl}
use Rattle.disk_archive.specs.Archives.{once_of, once_state, site_of}
use Rattle.disk_archive.specs.Sites.{LeftRepresents, LeftEither, LeftFrom}
use Rattle.interleaving_core.specs.Does.{last_moment}
use Rattle.route_meaning.specs.History.{History, settled}
use Rattle.disk_archive.specs.Cursors.{IsGathered, asks}
use Rattle.disk_archive.specs.Descents.{Descends}
use Rattle.disk_archive.specs.declared.descending.Descent.{Descent}
use Rattle.disk_archive.proofs.Turning.{gathered_of}
use Rattle.disk_archive.proofs.Asking.{answered_of, below_of, watermark_of}
use Rattle.disk_archive.proofs.Lasting.{down_still, held_clock, held_err}
use Rattle.disk_archive.proofs.Steps.{crashes_weaker, lasts_steps}
use Rattle.disk_archive.proofs.archive.Archive.descend.Goals as goal

pub returns-clause-holds : goal.returns-clause-holds
returns-clause-holds g c h held = held_err c.args.self.now c.try_descend.new.self h c.try_descend.ensures.honest.1 c.try_descend.ensures.idle (λ k. inl (c.try_descend.ensures.represents h k)) held

pub returns-clause-crash : goal.returns-clause-crash
returns-clause-crash g c h k =
    let a = c.args.self.now in
    crashes_weaker a c.try_descend.new.self (LeftEither (site_of a) h h) (LeftRepresents (site_of a) h) (λ left either. ⊎_elim (λ was. was) (λ is. is) either) (c.try_descend.ensures.crash h k)

pub returns-clause-lasts : goal.returns-clause-lasts
returns-clause-lasts g c =
    let a = c.args.self.now in
    let z = c.try_descend.new.self in
    lasts_steps a z g.met.E.EraseDisk.sound c.try_descend.ensures.honest.0 c.try_descend.ensures.idle
    (λ h k. (h, Begins-refl h, inl (c.try_descend.ensures.represents h k)))
    (λ h k. crashes_weaker a z (LeftEither (site_of a) h h) (LeftFrom (site_of a) h) (λ left either. (h, Begins-refl h, ⊎_elim (λ was. was) (λ is. is) either)) (c.try_descend.ensures.crash h k))

pub returns-clause-descends : goal.returns-clause-descends
returns-clause-descends g c =
    let a = c.args.self.now in
    let reported : Descent → History → Type 0 = λ descent h. IsGathered c.args.cursor.now h → Descends (g.O.OnceDisk.block_count (once_of a)) (once_state a).settled h c.args.cursor.now c.try_descend.new.cursor descent in
    answered_of a c.try_descend.result reported c.try_descend.ensures.usable c.try_descend.ensures.descends

pub returns-clause-gathered : goal.returns-clause-gathered
returns-clause-gathered g c honest h held gathered = gathered_of c.args.self.now c.args.cursor.now c.try_descend.new.cursor h c.try_descend.ensures.unmoved c.try_descend.ensures.gathered honest held gathered

pub returns-clause-below : goal.returns-clause-below
returns-clause-below g c = below_of c.args.self.now c.try_descend.result (λ h. last_moment (asks c.args.cursor.now) < settled h) c.try_descend.ensures.usable c.try_descend.ensures.below

pub returns-clause-above : goal.returns-clause-above
returns-clause-above g c = watermark_of c.args.self.now c.try_descend.result (last_moment (asks c.args.cursor.now)) c.try_descend.ensures.reported c.try_descend.ensures.above c.try_descend.ensures.watermark

pub returns-clause-quiet : goal.returns-clause-quiet
returns-clause-quiet g c other = c.try_descend.ensures.device.quiet other

pub returns-clause-counted : goal.returns-clause-counted
returns-clause-counted g c reported = c.try_descend.ensures.device.counted reported

pub returns-clause-idle : goal.returns-clause-idle
returns-clause-idle g c down = down_still c.args.self.now _ down (c.try_descend.ensures.idle down)

pub returns-clause-still : goal.returns-clause-still
returns-clause-still g c honest h held = held_clock c.args.self.now _ h c.try_descend.ensures.idle (c.try_descend.ensures.still h) (held honest)
