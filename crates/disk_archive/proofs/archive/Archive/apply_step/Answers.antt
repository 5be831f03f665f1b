use Rattle.std.proofs.Common.{◌≡◌, ⊎_elim, ap, refl, sym, ◌∙◌, arith}
use Rattle.page_journal.specs.Journal.{disk_of}
use Rattle.disk_archive.proofs.Outcomes.{err_then}
use Rattle.disk_archive.proofs.Lasting.{down_still, held_clock, held_err, lasts_by}
use Rattle.disk_archive.proofs.Applied.{applied_of, idle_of, idle_same, goes_of, never_bad, needs_recovery_of, none_blank, same_or_moved, both_same}
use Rattle.route_meaning.specs.History.{applied}
use Rattle.disk_archive.proofs.Counts.{changes_are}
use Rattle.disk_archive.specs.declared.apply_error.ApplyError.TheVariants as applies
use Rattle.disk_archive.proofs.Faults.{one_reported}
use Rattle.disk_archive.proofs.Lacking.{lacks_block, lacks_level, lacks_pages, room_at}
use Rattle.disk_archive.proofs.Limited.{counter_of, pages_of}
use Rattle.disk_archive.proofs.Reporting.{represented_of}
use Rattle.disk_archive.proofs.archive.Archive.apply_step.Goals as goal

pub returns-clause-applied : goal.returns-clause-applied
returns-clause-applied g c = applied_of c.args.self.now c.try_apply.new.self c.try_apply.result c.try_apply.ensures.usable c.try_apply.ensures.ok

pub returns-clause-idle : goal.returns-clause-idle
returns-clause-idle g c = idle_of c.args.self.now c.try_apply.new.self c.try_apply.result c.try_apply.ensures.usable c.try_apply.ensures.ok

pub returns-clause-idle_same : goal.returns-clause-idle_same
returns-clause-idle_same g c = idle_same c.args.self.now c.try_apply.new.self c.try_apply.result (both_same _ _ _ _ c.try_apply.ensures.erase c.try_apply.ensures.shelf.honest).1 c.try_apply.ensures.usable c.try_apply.ensures.ok

pub returns-clause-err : goal.returns-clause-err
returns-clause-err g c =
    let a = c.args.self.now in
    let z = c.try_apply.new.self in
    err_then c.try_apply.result _ _ (λ step h held. held_err a z h (both_same _ _ _ _ c.try_apply.ensures.erase c.try_apply.ensures.shelf.honest).1 c.try_apply.ensures.recovery (step h) held) c.try_apply.ensures.err

pub returns-clause-crash : goal.returns-clause-crash
returns-clause-crash g c h k = let x = c.try_apply.ensures.crash h k in (x.after, x.is, x.crashes)

pub returns-clause-lasts : goal.returns-clause-lasts
returns-clause-lasts g c =
    let a = c.args.self.now in
    let z = c.try_apply.new.self in
    lasts_by a z g.met.E.EraseDisk.sound (both_same _ _ _ _ c.try_apply.ensures.erase c.try_apply.ensures.shelf.honest).0 c.try_apply.ensures.recovery (goes_of a z c.try_apply.result c.try_apply.ensures.ok c.try_apply.ensures.err)
    (λ h k. let x = c.try_apply.ensures.crash h k in (x.after, same_or_moved h x.after k.head_represents.right x.is, x.crashes))

pub returns-clause-recovery : goal.returns-clause-recovery
returns-clause-recovery g c = (needs_recovery_of c.try_apply.result _ c.try_apply.ensures.refused, c.try_apply.ensures.reported)

pub returns-clause-honest : goal.returns-clause-honest
returns-clause-honest g c = both_same _ _ _ _ c.try_apply.ensures.erase c.try_apply.ensures.shelf.honest

pub returns-clause-sound : goal.returns-clause-sound
returns-clause-sound g c = never_bad c.args.self.now c.try_apply.result c.try_apply.ensures.reported c.try_apply.ensures.sound

pub returns-clause-still : goal.returns-clause-still
returns-clause-still g c e = ap disk_of (c.try_apply.ensures.still e).journal

pub returns-clause-unspent : goal.returns-clause-unspent
returns-clause-unspent g c e = (c.try_apply.ensures.still e).state

pub returns-clause-spends : goal.returns-clause-spends
returns-clause-spends g c honest = c.try_apply.ensures.shelf.spends honest.1

pub returns-clause-full : goal.returns-clause-full
returns-clause-full g c honest e = none_blank c.args.self.now c.try_apply.new.self c.try_apply.ensures.shelf.disk (c.try_apply.ensures.shelf.none_left honest.1 e)

pub returns-clause-disk : goal.returns-clause-disk
returns-clause-disk g c = c.try_apply.ensures.shelf.disk

pub returns-clause-grows : goal.returns-clause-grows
returns-clause-grows g c honest = c.try_apply.ensures.shelf.grows honest.1

pub returns-clause-counter_full : goal.returns-clause-counter_full
returns-clause-counter_full g c honest h held reported = sym ((represented_of c.args.self.now h (held honest)).1.numbered ∙ changes_are (applied h)) ∙ counter_of _ _ _ c.try_apply.result c.try_apply.ensures.limits reported

pub returns-clause-pages_full : goal.returns-clause-pages_full
returns-clause-pages_full g c reported = let few = pages_of _ _ _ c.try_apply.result c.try_apply.ensures.limits reported in omega (arith, few)

pub returns-clause-down_idle : goal.returns-clause-down_idle
returns-clause-down_idle g c down = down_still c.args.self.now _ down (c.try_apply.ensures.recovery down)

pub returns-clause-memory : goal.returns-clause-memory
returns-clause-memory g c honest h held reported = held_clock c.args.self.now _ h c.try_apply.ensures.recovery (λ k. c.try_apply.ensures.memory h k reported) (held honest)

pub returns-clause-pages_needed : goal.returns-clause-pages_needed
returns-clause-pages_needed g c honest h held reported = ⊎_elim
    (λ k. (k.pages, k.maps, lacks_pages _ k.pages _ _ c.try_apply.result (c.try_apply.ensures.lacks h k) reported))
    (λ w. absurd (let other : applies.NeedsRecovery ≡ applies.PagesFull = one_reported c.try_apply.result applies.NeedsRecovery applies.PagesFull (c.try_apply.ensures.reported w.unusable) reported in cc))
    (held honest)

pub returns-clause-level_needed : goal.returns-clause-level_needed
returns-clause-level_needed g c honest h held reported = ⊎_elim
    (λ k. (k.pages, k.maps, lacks_level _ k.pages _ _ c.try_apply.result (c.try_apply.ensures.lacks h k) reported))
    (λ w. absurd (let other : applies.NeedsRecovery ≡ applies.TooHigh = one_reported c.try_apply.result applies.NeedsRecovery applies.TooHigh (c.try_apply.ensures.reported w.unusable) reported in cc))
    (held honest)

pub returns-clause-block_needed : goal.returns-clause-block_needed
returns-clause-block_needed g c honest h held reported = ⊎_elim
    (λ k. (k.pages, k.maps, lacks_block _ k.pages _ _ c.try_apply.result (c.try_apply.ensures.lacks h k) reported))
    (λ w. absurd (let other : applies.NeedsRecovery ≡ applies.OnceFull = one_reported c.try_apply.result applies.NeedsRecovery applies.OnceFull (c.try_apply.ensures.reported w.unusable) reported in cc))
    (held honest)

pub returns-clause-room : goal.returns-clause-room
returns-clause-room g c reported honest h held = ⊎_elim
    (λ k. (k.pages, k.maps, room_at _ k.pages _ _ _ _ _ _ _ refl refl (k.head_represents.numbered ∙ changes_are (applied h)) (c.try_apply.ensures.room reported h k)))
    (λ w. absurd (cc (c.try_apply.ensures.reported w.unusable, reported)))
    (held honest)
