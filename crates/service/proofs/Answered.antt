-- How a line is answered.
use Rattle.std.proofs.Common.{◌≡◌, ℕ, Bool, true, false, List, Result, Ok, Err, IfOk, IfErr, inl, inr, refl, sym, subst}
use Rattle.route_meaning.specs.History.{History}
use Rattle.service.specs.Faults.{of_unanswered}
use Rattle.service.specs.Outputs.{OutputState, Reports}
use Rattle.service.specs.Refusals.{refusal_line, ReportsFailure}
use Rattle.service.specs.Replies.{IsReplyTo, IsReplyText, IsRefused, IsAskEnd}
use Rattle.service.specs.Requests.{IsRequestLine}
use Rattle.service.specs.inner.Asking.{IsUnreplied}
use Rattle.service.specs.declared.request.Request.{Request}
use Rattle.service.specs.declared.request.Request.TheVariants.{Question, Changed, Watermark, Durable}
use Rattle.service.specs.inner.Loading.{reported_as}
use Rattle.service.specs.declared.faults.Unanswered.{Unanswered}
use Rattle.service.specs.declared.faults.Unanswered.TheVariants as whys
use Rattle.service.specs.declared.status.Status.{Status}
use Rattle.service.specs.declared.status.Status.TheVariants as statuses
use Rattle.service.proofs.Outputs.{still_failed}

answered_by : (out_failed err_failed : Bool) (h : History) (line text : List ℕ) (result : Status) (was now err_was err_now : OutputState)
    → now.failed ≡ out_failed → err_was.failed ≡ err_failed → was.failed ≡ false → result ≡ reported_as out_failed err_failed statuses.Done → ReportsFailure now.failed err_was err_now
    → IsReplyText h line text → Reports was now text → IsAskEnd h line result was now err_was err_now
answered_by true err_failed h line text result was now err_was err_now o e sound is of_out reply t =
    subst (λ (s : Status). IsAskEnd h line s was now err_was err_now) (sym is) (inl o, inr (sound, (text, inl reply, t), of_out))
answered_by false true h line text result was now err_was err_now o e sound is of_out reply t =
    subst (λ (s : Status). IsAskEnd h line s was now err_was err_now) (sym is) (inr (still_failed now.failed true err_was err_now o e of_out), inr (sound, (text, inl reply, t), of_out))
answered_by false false h line text result was now err_was err_now o e sound is of_out reply t =
    subst (λ (s : Status). IsAskEnd h line s was now err_was err_now) (sym is) (text, reply, t, o, still_failed now.failed false err_was err_now o e of_out, of_out.quiet o)

pub answered : (h : History) (line text : List ℕ) (result : Status) (was now err_was err_now : OutputState)
    → was.failed ≡ false → result ≡ reported_as now.failed err_was.failed statuses.Done → ReportsFailure now.failed err_was err_now
    → IsReplyText h line text → Reports was now text → IsAskEnd h line result was now err_was err_now
answered h line text result was now err_was err_now = answered_by now.failed err_was.failed h line text result was now err_was err_now refl refl

refused_by : (out_failed err_failed : Bool) (h : History) (line : List ℕ) (why : Unanswered) (result : Status) (was now err_was err_now : OutputState)
    → now.failed ≡ out_failed → err_was.failed ≡ err_failed → was.failed ≡ false → result ≡ reported_as out_failed err_failed statuses.Refused → ReportsFailure now.failed err_was err_now
    → IsRefused h line why → Reports was now (refusal_line (of_unanswered why)) → IsAskEnd h line result was now err_was err_now
refused_by true err_failed h line why result was now err_was err_now o e sound is of_out r t =
    subst (λ (s : Status). IsAskEnd h line s was now err_was err_now) (sym is) (inl o, inr (sound, (refusal_line (of_unanswered why), inr (why, r, refl), t), of_out))
refused_by false true h line why result was now err_was err_now o e sound is of_out r t =
    subst (λ (s : Status). IsAskEnd h line s was now err_was err_now) (sym is)
    (inr (still_failed now.failed true err_was err_now o e of_out), inr (sound, (refusal_line (of_unanswered why), inr (why, r, refl), t), of_out))
refused_by false false h line why result was now err_was err_now o e sound is of_out r t =
    subst (λ (s : Status). IsAskEnd h line s was now err_was err_now) (sym is) (why, r, t, o, still_failed now.failed false err_was err_now o e of_out, of_out.quiet o)

pub refused : (h : History) (line : List ℕ) (why : Unanswered) (result : Status) (was now err_was err_now : OutputState)
    → was.failed ≡ false → result ≡ reported_as now.failed err_was.failed statuses.Refused → ReportsFailure now.failed err_was err_now
    → IsRefused h line why → Reports was now (refusal_line (of_unanswered why)) → IsAskEnd h line result was now err_was err_now
refused h line why result was now err_was err_now = refused_by now.failed err_was.failed h line why result was now err_was err_now refl refl

-- ---- the reply to a line is that to its request

pub replied : {T : Type 0} (h : History) (line : List ℕ) (request : Request) (r : Result T Unanswered) (octets : T → List ℕ) → IsRequestLine line request
    → IfOk r (λ text. IsReplyTo h request (octets text)) → IfOk r (λ text. IsReplyText h line (octets text))
replied h line request (Ok text) octets asked k = record { request = request; asked = asked; replied = k }
replied h line request (Err why) octets asked k = tt

refused_as : (h : History) (line : List ℕ) (request : Request) (why : Unanswered) → IsRequestLine line request → IsUnreplied h request why → IsRefused h line why
refused_as h line (Question query) whys.BadRequest asked k = absurd k
refused_as h line (Question query) (whys.AboveWatermark watermark) asked k = record { request = Question query; asked = asked; above = k.0; watermark_is = k.1 }
refused_as h line (Question query) whys.NoCollector asked k = absurd k
refused_as h line (Question query) (whys.Trouble trouble) asked k = tt
refused_as h line (Changed q) whys.BadRequest asked k = absurd k
refused_as h line (Changed q) (whys.AboveWatermark watermark) asked k = record { request = Changed q; asked = asked; above = k.0; watermark_is = k.1 }
refused_as h line (Changed q) whys.NoCollector asked k = absurd k
refused_as h line (Changed q) (whys.Trouble trouble) asked k = tt
refused_as h line Watermark whys.BadRequest asked k = absurd k
refused_as h line Watermark (whys.AboveWatermark watermark) asked k = absurd k
refused_as h line Watermark whys.NoCollector asked k = absurd k
refused_as h line Watermark (whys.Trouble trouble) asked k = tt
refused_as h line (Durable collector) whys.BadRequest asked k = absurd k
refused_as h line (Durable collector) (whys.AboveWatermark watermark) asked k = absurd k
refused_as h line (Durable collector) whys.NoCollector asked k = record { collector = collector; asked = asked; none = k }
refused_as h line (Durable collector) (whys.Trouble trouble) asked k = tt

pub unreplied : {T : Type 0} (h : History) (line : List ℕ) (request : Request) (r : Result T Unanswered) → IsRequestLine line request
    → IfErr r (IsUnreplied h request) → IfErr r (IsRefused h line)
unreplied h line request (Ok text) asked k = tt
unreplied h line request (Err why) asked k = refused_as h line request why asked k
