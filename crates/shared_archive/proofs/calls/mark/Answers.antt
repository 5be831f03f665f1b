use Rattle.std.proofs.Common.{length, refl, subst, sym, Err}
use Rattle.interleaving_core.specs.Steps.{marked}
use Rattle.interleaving_core.proofs.api.GoingOn.{begins_marked}
use Rattle.route_meaning.proofs.api.Beginning.{Begins-refl}
use Rattle.query_threads.specs.Steps.{DoesMark}
use Rattle.query_threads.specs.declared.refusal.MarkError.{MarkError as MarkRefusal}
use Rattle.disk_archive.specs.Archives.{is_down, settings_of}
use Rattle.shared_archive.proofs.Serving.{here, honest_of, not_marked, number_of, on_same_blocks, same_blocks}
use Rattle.query_threads.specs.Troubles.{OnMarkTrouble}
use Rattle.shared_archive.specs.Reported.{Reports}
use Rattle.shared_archive.proofs.Reporting.{mark_reports}
use Rattle.shared_archive.proofs.calls.mark.Goals as goal

pub returns-in-Ok-clause-done : goal.returns-in-Ok-clause-done
returns-in-Ok-clause-done g c = λ p k.
    let a = c.args.archive.now in
    let z = c.mark.new.self in
    let h = p.history in
    let honest = honest_of a p k in
    let e = c.in-Ok.ensures in
    let after = marked h c.args.collector c.args.mark in (
      record { history = after; blocks = p.blocks },
      on_same_blocks a p k after (begins_marked h c.args.collector c.args.mark (λ above. let bad = (e.mark_back honest h (λ _. k.goes_on)).1 (e.usable, above) in cc)),
      same_blocks a p k z after c.mark.ensures.disk c.mark.ensures.blocks (e.ok h (λ _. k.goes_on) (c.mark.ensures.honest.0 honest)),
      (here (settings_of a).collectors c.args.collector (length h.intakes) (number_of a p k) (λ past. let bad = e.no_collector.1 (e.usable, past) in cc), refl),
    )

pub returns-in-Err-clause-done : goal.returns-in-Err-clause-done
returns-in-Err-clause-done g c = λ p k.
    let a = c.args.archive.now in
    let z = c.mark.new.self in
    let h = p.history in
    let honest = honest_of a p k in
    let e = c.in-Err.ensures in (
      record { history = h; blocks = p.blocks },
      on_same_blocks a p k h (Begins-refl h),
      same_blocks a p k z h c.mark.ensures.disk c.mark.ensures.blocks (e.err h (λ _. k.goes_on) (c.mark.ensures.honest.0 honest)),
      subst (λ (r : MarkRefusal). DoesMark c.args.collector c.args.mark (Err r) h h) (sym c.mark_refusal.ensures.why)
          (not_marked (is_down a) (settings_of a).collectors h c.args.collector c.args.mark c.in-Err.refusal (number_of a p k) e.no_collector (e.mark_back honest h (λ _. k.goes_on))),
    )

pub returns-in-Err-clause-trouble : goal.returns-in-Err-clause-trouble
returns-in-Err-clause-trouble g c =
    let a = c.args.archive.now in
    let e = c.in-Err.ensures in
    subst (λ (r : MarkRefusal). OnMarkTrouble (λ t. Reports a t c.mark.new.self) r) (sym c.mark_refusal.ensures.why) (mark_reports a c.mark.new.self c.in-Err.refusal e.recovery e.counted e.falls)
