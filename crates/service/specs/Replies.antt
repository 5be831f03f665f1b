-- What a history answers to a request line.
use Rattle.std.specs.Prelude.{◌≡◌, ◌⊎◌, true, false, ℕ, ◌<◌, ◌≤◌, List, Some, length, slice_get}
use Rattle.service.specs.Outputs.{OutputState, Reports}
use Rattle.route_meaning.specs.declared.question.ChangedAnswer.{ChangedAnswer}
use Rattle.route_meaning.specs.declared.question.ChangedQuestion.{ChangedQuestion}
use Rattle.route_meaning.specs.Changed.{IsChangedAnswer}
use Rattle.route_meaning.specs.History.{History, Intake, applied, settled}
use Rattle.interleaving_core.specs.declared.query.Query.{Query}
use Rattle.interleaving_core.specs.declared.query.Answer.{Answer}
use Rattle.interleaving_core.specs.Does.{last_moment}
use Rattle.interleaving_core.specs.Headline.{IsAnswered}
use Rattle.interleaving_core.specs.Steps.{IsCollector}
use Rattle.service.specs.AnswerLines.{skip_of, reply_text, changed_text, watermark_line, count_line}
use Rattle.service.specs.Refusals.{refusal_line, ReportsFailure}
use Rattle.service.specs.Requests.{IsRequestLine}
use Rattle.service.specs.Faults.{of_unanswered}
use Rattle.service.specs.declared.request.Request.{Request}
use Rattle.service.specs.declared.request.Request.TheVariants.{Question, Changed, Watermark, Durable}
use Rattle.service.specs.declared.status.Status.{Status}
use Rattle.service.specs.declared.status.Status.TheVariants as statuses
use Rattle.service.specs.declared.faults.Unanswered.{Unanswered}
use Rattle.service.specs.declared.faults.Unanswered.TheVariants as whys

-- the question's last moment is below the settled watermark, and this is the text of the answer over what is applied
pub record IsAnswerText (h : History) (query : Query) (text : List ℕ) : Type 0 where
  pub answer : Answer
  pub below : last_moment query < settled h
  pub answered : IsAnswered (applied h) query answer
  pub reported : text ≡ reply_text (skip_of query) answer

-- the span's last moment is below the settled watermark, and this is the text of the places that changed, over what is applied
pub record IsChangedText (h : History) (q : ChangedQuestion) (text : List ℕ) : Type 0 where
  pub answer : ChangedAnswer
  pub below : q.to < settled h
  pub answered : IsChangedAnswer (applied h) q answer.spots.items answer.more
  pub reported : text ≡ changed_text answer

-- there is a collector of this number, and this many of its records are admitted
pub record IsDurable (h : History) (collector count : ℕ) : Type 0 where
  pub intake : Intake
  pub here : slice_get h.intakes collector ≡ Some intake
  pub count_is : count ≡ length intake.admitted

-- this is the line of their count
pub record IsCountText (h : History) (collector : ℕ) (text : List ℕ) : Type 0 where
  pub count : ℕ
  pub durable : IsDurable h collector count
  pub reported : text ≡ count_line count

-- this is the text of the reply to the request
abbrev pub IsReplyTo : History → Request → List ℕ → Type 0
IsReplyTo h (Question query) text = IsAnswerText h query text
IsReplyTo h (Changed q) text = IsChangedText h q text
IsReplyTo h Watermark text = text ≡ watermark_line (settled h)
IsReplyTo h (Durable collector) text = IsCountText h collector text

-- the line is a request, and this is the text of the reply to it
pub record IsReplyText (h : History) (line text : List ℕ) : Type 0 where
  pub request : Request
  pub asked : IsRequestLine line request
  pub replied : IsReplyTo h request text

-- the request asks of a moment that isn't below the settled watermark
abbrev pub AsksAbove : History → Request → Type 0
AsksAbove h (Question query) = settled h ≤ last_moment query
AsksAbove h (Changed q) = settled h ≤ q.to
AsksAbove h Watermark = ⊥
AsksAbove h (Durable collector) = ⊥

-- the line asks of a moment that isn't below the settled watermark, which is this one
pub record IsUnsettled (h : History) (line : List ℕ) (watermark : ℕ) : Type 0 where
  pub request : Request
  pub asked : IsRequestLine line request
  pub above : AsksAbove h request
  pub watermark_is : watermark ≡ settled h

-- the line asks of a collector that isn't there
pub record IsOfNoCollector (h : History) (line : List ℕ) : Type 0 where
  pub collector : ℕ
  pub asked : IsRequestLine line (Durable collector)
  pub none : IsCollector h collector → ⊥

-- why there is no reply: the line is no request, its moment isn't settled, its collector isn't there, or the archive had another trouble
abbrev pub IsRefused : History → List ℕ → Unanswered → Type 0
IsRefused h line whys.BadRequest = (request : Request) → IsRequestLine line request → ⊥
IsRefused h line (whys.AboveWatermark watermark) = IsUnsettled h line watermark
IsRefused h line whys.NoCollector = IsOfNoCollector h line
IsRefused h line (whys.Trouble trouble) = Unit {0}

-- this is the text of a reply to the line, or the line of a refusal of it
abbrev pub IsReported : History → List ℕ → List ℕ → Type 0
IsReported h line text = IsReplyText h line text ⊎ ((why : Unanswered) × IsRefused h line why × (text ≡ refusal_line (of_unanswered why)))

-- How a line was answered, by the status. It is `Failed` if not all could be written: if that was so before, nothing is
-- done; else a front of what should have been written was, and standard error shows a write of it that failed.
abbrev pub IsAskEnd : History → List ℕ → Status → OutputState → OutputState → OutputState → OutputState → Type 0
IsAskEnd h line statuses.Done was now err_was err_now = (text : List ℕ) × IsReplyText h line text × Reports was now text × (now.failed ≡ false) × (err_now.failed ≡ false) × (err_now ≡ err_was)
IsAskEnd h line statuses.Refused was now err_was err_now = (why : Unanswered) × IsRefused h line why × Reports was now (refusal_line (of_unanswered why)) × (now.failed ≡ false) × (err_now.failed ≡ false) × (err_now ≡ err_was)
IsAskEnd h line statuses.Failed was now err_was err_now =
    ((now.failed ≡ true) ⊎ (err_now.failed ≡ true))
    × (((was.failed ≡ true) × (now ≡ was) × (err_now ≡ err_was))
    ⊎ ((was.failed ≡ false) × ((text : List ℕ) × IsReported h line text × Reports was now text) × ReportsFailure now.failed err_was err_now))
