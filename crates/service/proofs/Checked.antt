-- How a check ends.
use Rattle.std.proofs.Common.{◌≡◌, Bool, true, false, inl, inr, refl, sym, ◌∙◌, ap, subst}
use Rattle.route_meaning.specs.History.{History}
use Rattle.archive_calls.specs.Does.{IsUnchecked}
use Rattle.archive_calls.specs.declared.refusal.Trouble.{Trouble}
use Rattle.service.specs.Checks.{IsCheckEnd, ReportsCount, ReportsUnchecked}
use Rattle.service.specs.Faults.{of_trouble}
use Rattle.service.specs.Outputs.{OutputState}
use Rattle.service.specs.Refusals.{ReportsError, ReportsFailure}
use Rattle.service.specs.inner.Loading.{reported_as}
use Rattle.service.specs.declared.status.Status.{Status}
use Rattle.service.specs.declared.status.Status.TheVariants as statuses
use Rattle.service.proofs.Outputs.{still_failed}

counted_by : (out_failed err_failed : Bool) (h : History) (result : Status) (was now err_was err_now : OutputState)
    → now.failed ≡ out_failed → err_was.failed ≡ err_failed → was.failed ≡ false → result ≡ reported_as out_failed err_failed statuses.Done → ReportsFailure now.failed err_was err_now
    → ReportsCount h was now → IsCheckEnd h result was now err_was err_now
counted_by true err_failed h result was now err_was err_now o e sound is of_out t =
    subst (λ (s : Status). IsCheckEnd h s was now err_was err_now) (sym is) (inl o, inr (sound, inl (t, of_out)))
counted_by false true h result was now err_was err_now o e sound is of_out t =
    subst (λ (s : Status). IsCheckEnd h s was now err_was err_now) (sym is) (inr (still_failed now.failed true err_was err_now o e of_out), inr (sound, inl (t, of_out)))
counted_by false false h result was now err_was err_now o e sound is of_out t =
    subst (λ (s : Status). IsCheckEnd h s was now err_was err_now) (sym is) (t, o, still_failed now.failed false err_was err_now o e of_out, of_out.quiet o)

-- the changes were counted
pub counted : (h : History) (result : Status) (was now err_was err_now : OutputState)
    → was.failed ≡ false → result ≡ reported_as now.failed err_was.failed statuses.Done → ReportsFailure now.failed err_was err_now
    → ReportsCount h was now → IsCheckEnd h result was now err_was err_now
counted h result was now err_was err_now = counted_by now.failed err_was.failed h result was now err_was err_now refl refl

unchecked_by : (err_failed : Bool) (h : History) (result : Status) (was err_was err_now : OutputState)
    → err_now.failed ≡ err_failed → was.failed ≡ false → result ≡ reported_as false err_failed statuses.Refused
    → ReportsUnchecked h was was err_was err_now → IsCheckEnd h result was was err_was err_now
unchecked_by true h result was err_was err_now e sound is t =
    subst (λ (s : Status). IsCheckEnd h s was was err_was err_now) (sym is) (inr e, inr (sound, inr t))
unchecked_by false h result was err_was err_now e sound is t =
    subst (λ (s : Status). IsCheckEnd h s was was err_was err_now) (sym is) (t, sound, e)

-- they weren't, and standard error says why
pub unchecked : (h : History) (trouble : Trouble) (result : Status) (was err_was err_mid err_now : OutputState)
    → was.failed ≡ false → result ≡ reported_as was.failed err_mid.failed statuses.Refused → ReportsFailure was.failed err_mid err_now
    → IsUnchecked h trouble → ReportsError (of_trouble trouble) err_was err_mid → IsCheckEnd h result was was err_was err_now
unchecked h trouble result was err_was err_mid err_now sound is of_out why reports =
    let same : err_mid ≡ err_now = sym (of_out.quiet sound) in
    unchecked_by err_now.failed h result was err_was err_now refl sound
    (is ∙ (ap (λ (b : Bool). reported_as b err_mid.failed statuses.Refused) sound ∙ ap (λ (s : OutputState). reported_as false s.failed statuses.Refused) same))
    (record { trouble = trouble; why = why; unwritten = refl; reported = subst (λ (s : OutputState). ReportsError (of_trouble trouble) err_was s) same reports })
