use Rattle.std.proofs.Common.{◌<◌, ⊎_elim, inl, IfSome}
use Rattle.std.specs.Prelude.{IfNone}
use Rattle.route_meaning.proofs.api.Beginning.{Begins-refl}
use Rattle.disk_archive.specs.Archives.{site_of}
use Rattle.disk_archive.specs.Cursors.{IsWalked}
use Rattle.disk_archive.specs.Reading.{ReadsFrom}
use Rattle.disk_archive.specs.Sites.{LeftRepresents, LeftEither, LeftFrom}
use Rattle.route_meaning.specs.Changed.{IsChangedAnswer}
use Rattle.route_meaning.specs.History.{applied, settled}
use Rattle.disk_archive.proofs.Asking.{answered_of, below_of, watermark_of, reads_idle}
use Rattle.disk_archive.proofs.Lasting.{down_still, held_clock, held_err}
use Rattle.disk_archive.proofs.Steps.{crashes_weaker, lasts_steps}
use Rattle.disk_archive.proofs.archive.Archive.changed_look.Goals as goal

pub returns-clause-leaves : goal.returns-clause-leaves
returns-clause-leaves g c =
    let a = c.args.self.now in
    let z = c.try_changed_look.new.self in
    let e = c.try_changed_look.ensures in
    record {
      holds = λ h held. held_err a z h e.honest.1 e.idle (λ k. inl (e.represents h k)) held;
      crash = λ h k. crashes_weaker a z (LeftEither (site_of a) h h) (LeftRepresents (site_of a) h) (λ left either. ⊎_elim (λ was. was) (λ is. is) either) (e.crash h k);
      lasts = lasts_steps a z g.met.E.EraseDisk.sound e.honest.0 e.idle
          (λ h k. (h, Begins-refl h, inl (e.represents h k)))
          (λ h k. crashes_weaker a z (LeftEither (site_of a) h h) (LeftFrom (site_of a) h) (λ left either. (h, Begins-refl h, ⊎_elim (λ was. was) (λ is. is) either)) (e.crash h k));
      still = λ honest h held. held_clock a z h e.idle (e.still h) (held honest);
      idle = λ down. (let same = down_still a z down (e.idle down) in (same.0, same.1));
      down = e.down;
      honest = e.honest;
      settings = e.settings;
      disk = e.disk;
      blocks = e.blocks;
    }

pub returns-clause-walked : goal.returns-clause-walked
returns-clause-walked g c = answered_of c.args.self.now c.try_changed_look.result (λ found h. ReadsFrom c.args.self.now c.args.reader.now → IsWalked c.args.cursor.now h → IfNone found (IsWalked c.try_changed_look.new.cursor h)) c.try_changed_look.ensures.usable c.try_changed_look.ensures.walked

pub returns-clause-answer : goal.returns-clause-answer
returns-clause-answer g c = answered_of c.args.self.now c.try_changed_look.result (λ found h. ReadsFrom c.args.self.now c.args.reader.now → IsWalked c.args.cursor.now h → IfSome found (λ answer. IsChangedAnswer (applied h) c.args.cursor.now.question answer.spots.items answer.more)) c.try_changed_look.ensures.usable c.try_changed_look.ensures.answer

pub returns-clause-below : goal.returns-clause-below
returns-clause-below g c = below_of c.args.self.now c.try_changed_look.result (λ h. c.args.cursor.now.question.to < settled h) c.try_changed_look.ensures.usable c.try_changed_look.ensures.below

pub returns-clause-above : goal.returns-clause-above
returns-clause-above g c = watermark_of c.args.self.now c.try_changed_look.result (c.args.cursor.now.question.to) c.try_changed_look.ensures.reported c.try_changed_look.ensures.above c.try_changed_look.ensures.watermark

pub returns-clause-reads : goal.returns-clause-reads
returns-clause-reads g c honest h held from =
    ⊎_elim (λ k. c.try_changed_look.ensures.reads h k from)
    (λ w. reads_idle c.args.self.now c.try_changed_look.new.self c.args.reader.now c.try_changed_look.new.reader (c.try_changed_look.ensures.idle w.unusable) (c.try_changed_look.ensures.unread w.unusable) from)
    (held honest)
