use Rattle.std.proofs.Common.{inl, inr, ⊎_elim, ap, sym, ◌∙◌, true≢false}
use Rattle.page_journal.specs.Journal.{disk_of}
use Rattle.interleaving_core.specs.Steps.{given}
use Rattle.interleaving_core.proofs.api.Right.{begins_given}
use Rattle.disk_archive.specs.declared.error.AdmitError.TheVariants as admits
use Rattle.disk_archive.proofs.Limiting.{not_both}
use Rattle.disk_archive.proofs.Outcomes.{err_then, from_result, ok_both, if_ok_as}
use Rattle.disk_archive.proofs.Lasting.{down_still, held_clock, held_ok, held_err, lasts_of}
use Rattle.disk_archive.proofs.archive.Archive.admit.Goals as goal

pub returns-clause-ok : goal.returns-clause-ok
returns-clause-ok g c =
    let a = c.args.self.now in
    let z = c.try_admit.new.self in
    ok_both c.try_admit.result _ _ _ c.try_admit.ensures.usable c.try_admit.ensures.ok
    (λ usable step h held. held_ok a z h (given h c.args.collector c.args.batch.now) c.try_admit.ensures.honest.1 usable (step h) held)

pub returns-clause-err : goal.returns-clause-err
returns-clause-err g c =
    let a = c.args.self.now in
    let z = c.try_admit.new.self in
    err_then c.try_admit.result _ _ (λ step h held. held_err a z h c.try_admit.ensures.honest.1 c.try_admit.ensures.recovery (step h) held) c.try_admit.ensures.err

pub returns-clause-lasts : goal.returns-clause-lasts
returns-clause-lasts g c =
    let a = c.args.self.now in
    let z = c.try_admit.new.self in
    lasts_of a z (λ h. given h c.args.collector c.args.batch.now) (λ h. begins_given h c.args.collector c.args.batch.now) g.met.E.EraseDisk.sound c.try_admit.ensures.honest.0 c.try_admit.ensures.recovery
    (λ h k. from_result c.try_admit.result _ _ _ (λ ok. inl (ok h k)) (λ err. inr (err h k)) c.try_admit.ensures.ok c.try_admit.ensures.err)
    c.try_admit.ensures.crash

pub returns-clause-reply : goal.returns-clause-reply
returns-clause-reply g c honest h held i here = if_ok_as c.try_admit.result _ _ c.try_admit.ensures.usable
    (λ usable. ⊎_elim (λ k. c.try_admit.ensures.reply h k i here) (λ w. absurd (true≢false (sym w.unusable ∙ usable))) (held honest))

pub returns-clause-counter_full : goal.returns-clause-counter_full
returns-clause-counter_full g c honest h held = ⊎_elim
    (λ k. let e = c.try_admit.ensures.counter_full h k in (λ r. (k.maps.keeps.usable, (e.0 r).0, (e.0 r).1), λ is. e.1 (is.1, is.2)))
    (λ w. let r = c.try_admit.ensures.reported.1 w.unusable in (λ full. absurd (not_both c.try_admit.result admits.CounterFull r (λ e. cc) full), λ is. absurd (true≢false (sym w.unusable ∙ is.0))))
    (held honest)

pub returns-clause-intake_full : goal.returns-clause-intake_full
returns-clause-intake_full g c honest h held = ⊎_elim
    (λ k. let e = c.try_admit.ensures.intake_full h k in (λ r. (let full = e.0 r in (k.maps.keeps.usable, full.0, full.1, full.2)), λ is. e.1 (is.1, is.2, is.3)))
    (λ w. let r = c.try_admit.ensures.reported.1 w.unusable in (λ full. absurd (not_both c.try_admit.result admits.IntakeFull r (λ e. cc) full), λ is. absurd (true≢false (sym w.unusable ∙ is.0))))
    (held honest)

pub returns-clause-undamaged : goal.returns-clause-undamaged
returns-clause-undamaged g c honest h held page reported = ⊎_elim
    (λ k. c.try_admit.ensures.undamaged h k page reported)
    (λ w. absurd (not_both c.try_admit.result (admits.BadNode page) (c.try_admit.ensures.reported.1 w.unusable) (λ e. cc) reported))
    (held honest)

pub returns-clause-quiet : goal.returns-clause-quiet
returns-clause-quiet g c other = c.try_admit.ensures.device.quiet other

pub returns-clause-counted : goal.returns-clause-counted
returns-clause-counted g c reported = c.try_admit.ensures.device.counted reported

pub returns-clause-idle : goal.returns-clause-idle
returns-clause-idle g c down = down_still c.args.self.now _ down (c.try_admit.ensures.recovery down)

pub returns-clause-memory : goal.returns-clause-memory
returns-clause-memory g c honest h held reported = held_clock c.args.self.now _ h c.try_admit.ensures.recovery (λ k. c.try_admit.ensures.memory h k reported) (held honest)

pub returns-clause-empty : goal.returns-clause-empty
returns-clause-empty g c none = let e = c.try_admit.ensures.empty none in (ap disk_of e.0.journal, e.1)
