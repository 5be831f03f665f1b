use Rattle.std.proofs.Common.{◌≡◌, ℕ, IfErr, map, arith, rules, sym, ◌∙◌, subst}
use Rattle.intake.specs.Ring.{time_of}
use Rattle.intake.specs.Outlines.{ReportsTimes}
use Rattle.intake.proofs.Reporting.{reports_one, breaks_none, holds_reports}
use Rattle.intake.proofs.Untouched.{passed_on}
use Rattle.intake.proofs.ring.Ring.waiting_times.Goals as goal

pub returns-in_err-time-clause-breaks : goal.returns-in_err-time-clause-breaks
returns-in_err-time-clause-breaks g c page is start shown are =
    let i = c.loop-at.invariant in
    let reported : IfErr c.from_residual.result (λ e. e ≡ c.in_err-time.field-0.0) = search rules in
    let was = passed_on c.from_residual.result c.time_at.result c.in_err-time.field-0.0 page reported c.in_err-time.was is in (
      c.loop-at.at,
      c.time_at.ensures.breaks page was start shown c.loop-at.times.items (i.same.shown start shown are) (i.reported start shown are),
      c.time_at.ensures.page page was,
    )

pub returns-in_err-time-clause-none : goal.returns-in_err-time-clause-none
returns-in_err-time-clause-none g c page is start shown times are all =
    let i = c.loop-at.invariant in
    let reported : IfErr c.from_residual.result (λ e. e ≡ c.in_err-time.field-0.0) = search rules in
    let was = passed_on c.from_residual.result c.time_at.result c.in_err-time.field-0.0 page reported c.in_err-time.was is in
    breaks_none shown c.args.self.now c.loop-at.at times (c.time_at.ensures.breaks page was start shown c.loop-at.times.items (i.same.shown start shown are) (i.reported start shown are)) all

pub returns-in_err-time-clause-damaged : goal.returns-in_err-time-clause-damaged
returns-in_err-time-clause-damaged g c page is start shown waits are holds =
    let i = c.loop-at.invariant in
    let reported : IfErr c.from_residual.result (λ e. e ≡ c.in_err-time.field-0.0) = search rules in
    let was = passed_on c.from_residual.result c.time_at.result c.in_err-time.field-0.0 page reported c.in_err-time.was is in
    breaks_none shown c.args.self.now c.loop-at.at (map time_of waits) (c.time_at.ensures.breaks page was start shown c.loop-at.times.items (i.same.shown start shown are) (i.reported start shown are)) (holds_reports shown c.args.self.now waits holds)

pub returns-clause-reported : goal.returns-clause-reported
returns-clause-reported g c start shown are =
    let few = c.loop-at.invariant.few in
    let all : c.loop-at.at ≡ c.args.self.now.used = omega (arith, few, c.loop-at-test.false) in
    subst (λ k. ReportsTimes shown c.args.self.now k c.loop-at.times.items) all (c.loop-at.invariant.reported start shown are)

pub returns-clause-times : goal.returns-clause-times
returns-clause-times g c start shown waits are holds =
    let few = c.loop-at.invariant.few in
    let ring = c.args.self.now in
    let all : c.loop-at.at ≡ ring.used = omega (arith, few, c.loop-at-test.false) in
    reports_one shown ring ring.used c.loop-at.times.items (map time_of waits) (subst (λ k. ReportsTimes shown ring k c.loop-at.times.items) all (c.loop-at.invariant.reported start shown are)) (holds_reports shown ring waits holds)
