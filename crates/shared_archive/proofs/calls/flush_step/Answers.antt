use Rattle.std.proofs.Common.{refl, subst, sym}
use Rattle.route_meaning.proofs.api.Beginning.{Begins-refl}
use Rattle.query_threads.specs.Troubles.{IsOutside}
use Rattle.query_threads.specs.declared.refusal.Trouble.{Trouble}
use Rattle.shared_archive.proofs.Serving.{flushing_is_outside, honest_of, on_same_blocks, same_blocks}
use Rattle.shared_archive.specs.Reported.{Reports}
use Rattle.shared_archive.proofs.Reporting.{flush_reports}
use Rattle.shared_archive.proofs.calls.flush_step.Goals as goal

pub returns-in-Ok-Flushed-clause-done : goal.returns-in-Ok-Flushed-clause-done
returns-in-Ok-Flushed-clause-done g c = λ p k.
    let a = c.args.archive.now in
    let z = c.flush_step.new.self in (
      record { history = p.history; blocks = p.blocks },
      on_same_blocks a p k p.history (Begins-refl p.history),
      same_blocks a p k z p.history c.flush_step.ensures.disk c.flush_step.ensures.blocks (c.flush_step.ensures.holds p.history (λ _. k.goes_on) (c.flush_step.ensures.honest.0 (honest_of a p k))),
      (tt, refl),
    )

pub returns-in-Ok-Clean-clause-done : goal.returns-in-Ok-Clean-clause-done
returns-in-Ok-Clean-clause-done g c = λ p k.
    let a = c.args.archive.now in
    let z = c.flush_step.new.self in (
      record { history = p.history; blocks = p.blocks },
      on_same_blocks a p k p.history (Begins-refl p.history),
      same_blocks a p k z p.history c.flush_step.ensures.disk c.flush_step.ensures.blocks (c.flush_step.ensures.holds p.history (λ _. k.goes_on) (c.flush_step.ensures.honest.0 (honest_of a p k))),
      (tt, refl),
    )

pub returns-in-Err-clause-done : goal.returns-in-Err-clause-done
returns-in-Err-clause-done g c = λ p k.
    let a = c.args.archive.now in
    let z = c.flush_step.new.self in (
      record { history = p.history; blocks = p.blocks },
      on_same_blocks a p k p.history (Begins-refl p.history),
      same_blocks a p k z p.history c.flush_step.ensures.disk c.flush_step.ensures.blocks (c.flush_step.ensures.holds p.history (λ _. k.goes_on) (c.flush_step.ensures.honest.0 (honest_of a p k))),
      (subst (λ (t : Trouble). IsOutside t) (sym c.flush_trouble.ensures.why) (flushing_is_outside c.in-Err.refusal), refl),
    )

pub returns-in-Err-clause-trouble : goal.returns-in-Err-clause-trouble
returns-in-Err-clause-trouble g c =
    let a = c.args.archive.now in
    let e = c.in-Err.ensures in
    subst (λ (t : Trouble). Reports a t c.flush_step.new.self) (sym c.flush_trouble.ensures.why) (flush_reports a c.flush_step.new.self c.in-Err.refusal e.recovery e.counted)

pub returns-in-Ok-Flushed-clause-flushes : goal.returns-in-Ok-Flushed-clause-flushes
returns-in-Ok-Flushed-clause-flushes g c = c.in-Ok-Flushed.ensures.flushed c.in-Ok-Flushed.field-0-is

pub returns-in-Ok-Clean-clause-flushes : goal.returns-in-Ok-Clean-clause-flushes
returns-in-Ok-Clean-clause-flushes g c =
    let e = c.in-Ok-Clean.ensures in
    let clean = e.clean c.in-Ok-Clean.field-0-is in
    (e.only.0 c.in-Ok-Clean.field-0-is, clean.0, clean.1)
