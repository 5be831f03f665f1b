use Rattle.std.proofs.Common.{inl, inr, ⊎_elim, ap, sym, ◌∙◌, true≢false}
use Rattle.page_journal.specs.Journal.{disk_of}
use Rattle.route_meaning.proofs.api.Beginning.{Begins-refl}
use Rattle.route_meaning.specs.History.{History}
use Rattle.interleaving_core.specs.Steps.{marked, IsMarkAbove}
use Rattle.interleaving_core.proofs.api.GoingOn.{begins_marked}
use Rattle.disk_archive.specs.Archives.{Represents, GoesOn, ContinuesFrom, site_of}
use Rattle.disk_archive.specs.Sites.{LeftFrom, LeftMarked}
use Rattle.disk_archive.proofs.Outcomes.{err_then, from_result, ok_both}
use Rattle.disk_archive.proofs.Lasting.{down_still, held_clock, held_ok, held_err}
use Rattle.disk_archive.proofs.Marks.{not_both}
use Rattle.disk_archive.proofs.Steps.{crashes_weaker, lasts_steps}
use Rattle.disk_archive.proofs.archive.Archive.mark.Goals as goal

pub returns-clause-ok : goal.returns-clause-ok
returns-clause-ok g c =
    let a = c.args.self.now in
    let z = c.try_mark.new.self in
    ok_both c.try_mark.result _ _ _ c.try_mark.ensures.usable c.try_mark.ensures.ok
    (λ usable step h held. held_ok a z h (marked h c.args.collector c.args.mark) c.try_mark.ensures.honest.1 usable (step h) held)

pub returns-clause-err : goal.returns-clause-err
returns-clause-err g c =
    let a = c.args.self.now in
    let z = c.try_mark.new.self in
    err_then c.try_mark.result _ _ (λ step h held. held_err a z h c.try_mark.ensures.honest.1 c.try_mark.ensures.idle (step h) held) c.try_mark.ensures.err

pub returns-clause-lasts : goal.returns-clause-lasts
returns-clause-lasts g c =
    let a = c.args.self.now in
    let z = c.try_mark.new.self in
    let n = c.args.collector in
    let m = c.args.mark in
    lasts_steps a z g.met.E.EraseDisk.sound c.try_mark.ensures.honest.0 c.try_mark.ensures.idle
    (λ h k. from_result c.try_mark.result ((IsMarkAbove h n m → ⊥) × ((g : History) → Represents a g → Represents z (marked g n m))) ((g : History) → Represents a g → GoesOn z g) (ContinuesFrom z h)
    (λ ok. (marked h n m, begins_marked h n m ok.0, inl (ok.1 h k)))
    (λ err. (h, Begins-refl h, err h k))
    (ok_both c.try_mark.result (IsMarkAbove h n m → ⊥) ((g : History) → Represents a g → Represents z (marked g n m)) ((IsMarkAbove h n m → ⊥) × ((g : History) → Represents a g → Represents z (marked g n m)))
    (c.try_mark.ensures.forward h k) c.try_mark.ensures.ok (λ below step. (below, step)))
    c.try_mark.ensures.err)
    (λ h k. crashes_weaker a z (LeftMarked (site_of a) h n m) (LeftFrom (site_of a) h)
    (λ left either. ⊎_elim (λ was. (h, Begins-refl h, was)) (λ is. (marked h n m, begins_marked h n m is.0, is.1)) either) (c.try_mark.ensures.crash h k))

pub returns-clause-mark_back : goal.returns-clause-mark_back
returns-clause-mark_back g c honest h held = ⊎_elim
    (λ k. let e = c.try_mark.ensures.mark_back h k in (λ r. (k.maps.keeps.usable, e.0 r), λ is. e.1 is.1))
    (λ w. let r = c.try_mark.ensures.recovery.1 w.unusable in (λ back. absurd (not_both c.try_mark.result r back), λ is. absurd (true≢false (sym w.unusable ∙ is.0))))
    (held honest)

pub returns-clause-present : goal.returns-clause-present
returns-clause-present g c honest usable h held i here same = ⊎_elim
    (λ k. let p = c.try_mark.ensures.present h k i here same in (p.0, ap (λ j. disk_of j) p.1.journal))
    (λ w. absurd (true≢false (sym w.unusable ∙ usable)))
    (held honest)

pub returns-clause-quiet : goal.returns-clause-quiet
returns-clause-quiet g c other = c.try_mark.ensures.device.quiet other

pub returns-clause-counted : goal.returns-clause-counted
returns-clause-counted g c reported = c.try_mark.ensures.device.counted reported

pub returns-clause-idle : goal.returns-clause-idle
returns-clause-idle g c down = down_still c.args.self.now _ down (c.try_mark.ensures.idle down)

pub returns-clause-memory : goal.returns-clause-memory
returns-clause-memory g c honest h held reported = held_clock c.args.self.now _ h c.try_mark.ensures.idle (λ k. c.try_mark.ensures.memory h k reported) (held honest)
