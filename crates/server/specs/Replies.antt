-- What a shared archive replies to a request, over what a pass sees once it is replied. If nothing is promised of the archive, as of
-- one in files, no answer of it is claimed to be right.
use Rattle.std.specs.Prelude.{◌≡◌, ◌⊎◌, ⊤, ℕ, suc, ◌<◌, ◌≤◌, List}
use Rattle.route_meaning.specs.declared.question.ChangedAnswer.{ChangedAnswer}
use Rattle.route_meaning.specs.declared.question.ChangedQuestion.{ChangedQuestion}
use Rattle.route_meaning.specs.History.{settled}
use Rattle.interleaving_core.specs.declared.query.Query.{Query}
use Rattle.interleaving_core.specs.declared.query.Answer.{Answer}
use Rattle.interleaving_core.specs.Does.{last_moment}
use Rattle.board.specs.Views.{View, BeginsView, watermark_of, durable_of, with_seen}
use Rattle.service.specs.AnswerLines.{skip_of, reply_text, changed_text, watermark_line, count_line}
use Rattle.service.specs.Replies.{IsAnswerText, IsChangedText}
use Rattle.service.specs.declared.request.Request.{Request}
use Rattle.service.specs.declared.request.Request.TheVariants.{Question, Changed, Watermark, Durable}
use Rattle.service.specs.declared.faults.Unanswered.{Unanswered}
use Rattle.service.specs.declared.faults.Unanswered.TheVariants as whys

-- these are the lines of some answer to the question
pub record IsSomeAnswer (query : Query) (text : List ℕ) : Type 0 where
  pub answer : Answer
  pub reported : text ≡ reply_text (skip_of query) answer

-- they are the lines of some answer; of a promised archive, of the answer over what is applied in the past that the pass sees
pub record IsAnswerOver (promised : Type 0) (v : View) (query : Query) (text : List ℕ) : Type 0 where
  pub lines : IsSomeAnswer query text
  pub right : promised → IsAnswerText v.past.history query text

-- these are the lines of some places
pub record AreSomePlaces (text : List ℕ) : Type 0 where
  pub answer : ChangedAnswer
  pub reported : text ≡ changed_text answer

-- they are the lines of some places; of a promised archive, of those that changed, over what is applied in the past that the pass sees
pub record IsChangedOver (promised : Type 0) (v : View) (q : ChangedQuestion) (text : List ℕ) : Type 0 where
  pub lines : AreSomePlaces text
  pub right : promised → IsChangedText v.past.history q text

-- This is the text of the reply: to a question, the lines of its answer; else the line of the number that was seen.
abbrev pub IsReplyOver : Type 0 → View → Request → List ℕ → Type 0
IsReplyOver promised v (Question query) text = IsAnswerOver promised v query text
IsReplyOver promised v (Changed q) text = IsChangedOver promised v q text
IsReplyOver promised v Watermark text = text ≡ watermark_line (watermark_of v)
IsReplyOver promised v (Durable collector) text = text ≡ count_line (durable_of v collector)

-- the collector that is asked about, if one is, is one of this many
abbrev pub NamesOneOf : ℕ → Request → Type 0
NamesOneOf collectors (Question query) = ⊤
NamesOneOf collectors (Changed q) = ⊤
NamesOneOf collectors Watermark = ⊤
NamesOneOf collectors (Durable collector) = collector < collectors

-- Why there is no reply, of an archive with this many collectors: the question's last moment isn't below the settled watermark, which is
-- returned; there is no such collector; or the archive reported another trouble.
abbrev pub IsRefusedOver : Type 0 → ℕ → View → Request → Unanswered → Type 0
IsRefusedOver promised collectors v (Question query) (whys.AboveWatermark reported) = promised → (reported ≡ settled v.past.history) × (settled v.past.history ≤ last_moment query)
IsRefusedOver promised collectors v (Changed q) (whys.AboveWatermark reported) = promised → (reported ≡ settled v.past.history) × (settled v.past.history ≤ q.to)
IsRefusedOver promised collectors v (Durable collector) whys.NoCollector = collectors ≤ collector
IsRefusedOver promised collectors v request (whys.Trouble trouble) = ⊤
IsRefusedOver promised collectors v request why = ⊥

-- What the pass sees then: to answer a question, its past goes on and no number falls; else one number is loaded, which hasn't fallen, or nothing is.
abbrev pub SeesBy : Request → View → View → Type 0
SeesBy (Question query) v w = BeginsView v w
SeesBy (Changed q) v w = BeginsView v w
SeesBy Watermark v w = (w ≡ with_seen v 0 (watermark_of w)) × (watermark_of v ≤ watermark_of w)
SeesBy (Durable collector) v w = (w ≡ v) ⊎ ((w ≡ with_seen v (suc collector) (durable_of w collector)) × (durable_of v collector ≤ durable_of w collector))

-- a question is refused as above the watermark only if it isn't below one that the pass has seen before
abbrev pub IsNotBelow : View → Request → Unanswered → Type 0
IsNotBelow v (Question query) (whys.AboveWatermark reported) = watermark_of v ≤ last_moment query
IsNotBelow v (Changed q) (whys.AboveWatermark reported) = watermark_of v ≤ q.to
IsNotBelow v request why = ⊤
