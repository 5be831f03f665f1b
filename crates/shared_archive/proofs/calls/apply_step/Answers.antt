use Rattle.std.proofs.Common.{ap, refl, subst, sym, Ok, Err}
use Rattle.disk_archive.specs.Archives.{once_of, once_state}
use Rattle.route_meaning.proofs.api.Beginning.{Begins-refl}
use Rattle.shared_archive.proofs.Blocks.{listed}
use Rattle.query_threads.specs.Troubles.{BlamesNone}
use Rattle.query_threads.specs.declared.refusal.Trouble.{Trouble}
use Rattle.shared_archive.proofs.Serving.{applying_blames_none, honest_of, more_blocks, moves_on, moves_some, on_more_blocks, right_of}
use Rattle.shared_archive.specs.Reported.{Reports}
use Rattle.shared_archive.proofs.Reporting.{apply_reports}
use Rattle.shared_archive.proofs.calls.apply_step.Goals as goal

pub returns-in-Ok-Applied-clause-done : goal.returns-in-Ok-Applied-clause-done
returns-in-Ok-Applied-clause-done g c = λ p k.
    let a = c.args.archive.now in
    let z = c.apply_step.new.self in
    let h = p.history in
    let honest = honest_of a p k in
    let m = c.in-Ok-Applied.ensures.applied c.in-Ok-Applied.field-0-is honest h (λ _. k.goes_on) in (
      record { history = m.0; blocks = listed (g.O.OnceDisk.block_count (once_of z)) (once_state z).settled },
      on_more_blocks a p k z m.0 c.apply_step.ensures.disk (c.apply_step.ensures.grows honest) (moves_on h m.0 (right_of a p k) m.1),
      more_blocks a p k z m.0 (m.2 (c.apply_step.ensures.honest.0 honest)),
      moves_some h m.0 m.1,
    )

pub returns-in-Ok-Idle-clause-done : goal.returns-in-Ok-Idle-clause-done
returns-in-Ok-Idle-clause-done g c = λ p k.
    let a = c.args.archive.now in
    let z = c.apply_step.new.self in
    let h = p.history in
    let honest = honest_of a p k in
    let e = c.in-Ok-Idle.ensures in (
      record { history = h; blocks = listed (g.O.OnceDisk.block_count (once_of z)) (once_state z).settled },
      on_more_blocks a p k z h c.apply_step.ensures.disk (c.apply_step.ensures.grows honest) (Begins-refl h),
      more_blocks a p k z h (e.idle_same (ap Ok c.in-Ok-Idle.field-0-is) h (λ _. k.goes_on) (c.apply_step.ensures.honest.0 honest)),
      ((e.idle honest h (λ _. k.goes_on)).0 c.in-Ok-Idle.field-0-is, refl),
    )

pub returns-in-Err-clause-done : goal.returns-in-Err-clause-done
returns-in-Err-clause-done g c = λ p k.
    let a = c.args.archive.now in
    let z = c.apply_step.new.self in
    let h = p.history in
    let honest = honest_of a p k in (
      record { history = h; blocks = listed (g.O.OnceDisk.block_count (once_of z)) (once_state z).settled },
      on_more_blocks a p k z h c.apply_step.ensures.disk (c.apply_step.ensures.grows honest) (Begins-refl h),
      more_blocks a p k z h (c.in-Err.ensures.err h (λ _. k.goes_on) (c.apply_step.ensures.honest.0 honest)),
      (
        subst (λ (t : Trouble). BlamesNone t) (sym c.apply_trouble.ensures.why)
            (applying_blames_none c.in-Err.refusal (λ page is. c.in-Err.ensures.sound honest h (λ _. k.goes_on) page (ap Err is))),
        refl,
      ),
    )

pub returns-in-Err-clause-trouble : goal.returns-in-Err-clause-trouble
returns-in-Err-clause-trouble g c =
    let a = c.args.archive.now in
    let e = c.in-Err.ensures in
    subst (λ (t : Trouble). Reports a t c.apply_step.new.self) (sym c.apply_trouble.ensures.why)
    (apply_reports a c.apply_step.new.self c.in-Err.refusal e.recovery e.failed e.falls (λ honest h holds is. e.counter_full honest h holds (ap Err is)) (λ is. e.pages_full (ap Err is))
    (λ honest pages has is. e.too_high honest pages has (ap Err is)) (λ honest is. e.full honest (ap Err is)) (λ honest h holds page is. e.sound honest h holds page (ap Err is)))
