-- How the lines of a connection are answered by a shared archive, of which something is promised or not.
use Rattle.std.specs.Prelude.{◌≡◌, ◌⊎◌, ◌≤◌, ℕ, List}
use Rattle.board.specs.Views.{View, BeginsView, watermark_of, with_seen}
use Rattle.service.specs.AnswerLines.{watermark_line}
use Rattle.service.specs.Faults.{of_unanswered, of_load}
use Rattle.service.specs.Outputs.{OutputState, Reports}
use Rattle.service.specs.Refusals.{refusal_line}
use Rattle.service.specs.declared.faults.LoadStop.{LoadStop}
use Rattle.service.specs.declared.faults.Unanswered.{Unanswered}
use Rattle.service.specs.declared.refusal.Refusal.TheVariants as refusals
use Rattle.service.specs.declared.request.Request.{Request}
use Rattle.server.specs.declared.answering.Next.{Next}
use Rattle.server.specs.declared.answering.Next.TheVariants as nexts
use Rattle.server.specs.declared.command.Command.{Command}
use Rattle.server.specs.declared.command.Command.TheVariants as commands
use Rattle.server.specs.declared.port.Port.{Port}
use Rattle.server.specs.Lines.{ok_line}
use Rattle.server.specs.Marks.{MarksAndApplies, IsUnmarked}
use Rattle.server.specs.Ports.{AsksOn, ClosesAfter}
use Rattle.server.specs.Replies.{IsReplyOver, IsRefusedOver, IsNotBelow, SeesBy}

-- The line of why there is no reply is written, over what the pass sees then. No question is refused as above the watermark that is below
-- one which the pass has seen before.
pub record ReportsRefusal (promised : Type 0) (collectors : ℕ) (request : Request) (v w : View) (was now : OutputState) : Type 0 where
  pub why : Unanswered
  pub refused : IsRefusedOver promised collectors w request why
  pub not_below : promised → IsNotBelow v request why
  pub reports : Reports was now (refusal_line (of_unanswered why))

-- the text of a reply over what the pass sees then is written, or the line of a refusal
abbrev pub ReportsReply : Type 0 → ℕ → Request → View → View → OutputState → OutputState → Type 0
ReportsReply promised collectors request v w was now =
    ((text : List ℕ) × IsReplyOver promised w request text × Reports was now text) ⊎ ReportsRefusal promised collectors request v w was now

-- a request is answered
pub record AnswersRequest (promised : Type 0) (collectors : ℕ) (request : Request) (v w : View) (was now : OutputState) : Type 0 where
  pub sees : SeesBy request v w
  pub reports : ReportsReply promised collectors request v w was now

-- a mark was set and what may be applied was; then the watermark was loaded and its line written
pub record ReportsMarked (promised : Type 0) (collector mark : ℕ) (v w : View) (was now : OutputState) : Type 0 where
  pub then : View
  pub begins : BeginsView v then
  pub marked : promised → MarksAndApplies collector mark v then
  pub loaded : w ≡ with_seen then 0 (watermark_of w)
  pub rises : watermark_of then ≤ watermark_of w
  pub reports : Reports was now (watermark_line (watermark_of w))

-- a mark isn't set, or not all is applied then, and the line of why is written
pub record ReportsUnmarked (promised : Type 0) (collector mark : ℕ) (v w : View) (was now : OutputState) : Type 0 where
  pub why : LoadStop
  pub begins : BeginsView v w
  pub unmarked : promised → IsUnmarked collector mark v w why
  pub reports : Reports was now (refusal_line (of_load why))

-- a mark is set and the watermark written, or why it isn't set is written
abbrev pub AnswersMark : Type 0 → ℕ → ℕ → View → View → OutputState → OutputState → Type 0
AnswersMark promised collector mark v w was now = ReportsMarked promised collector mark v w was now ⊎ ReportsUnmarked promised collector mark v w was now

-- the line asks nothing on the port, and that is written, or there was no memory to read it
pub record ReportsNone (port : Port) (line : List ℕ) (v w : View) (was now : OutputState) : Type 0 where
  pub same : w ≡ v
  pub reports : (((command : Command) → AsksOn port line command → ⊥) × Reports was now (refusal_line refusals.BadRequest)) ⊎ Reports was now (refusal_line refusals.OutOfMemory)

-- the line is one of HTTP, it is refused as no request, and nothing changes
pub record RefusesHttp (port : Port) (line : List ℕ) (v w : View) (was now : OutputState) : Type 0 where
  pub closes : ClosesAfter port line
  pub same : w ≡ v
  pub reports : Reports was now (refusal_line refusals.BadRequest)

-- How a line is answered after which the next one is read: a request, a mark, or a line that asks nothing.
abbrev pub AnswersOne : Type 0 → Port → ℕ → List ℕ → View → View → OutputState → OutputState → Type 0
AnswersOne promised port collectors line v w was now =
    ((request : Request) × AsksOn port line (commands.Request request) × AnswersRequest promised collectors request v w was now)
    ⊎ (((collector : ℕ) × (mark : ℕ) × AsksOn port line (commands.Mark collector mark) × AnswersMark promised collector mark v w was now)
    ⊎ ReportsNone port line v w was now)

-- How a line is answered that doesn't end the connection as one of HTTP, by what the connection does then: nothing is written before a feed, and
-- `ok` before an end.
abbrev pub AnswersRead : Type 0 → Port → ℕ → List ℕ → Next → View → View → OutputState → OutputState → Type 0
AnswersRead promised port collectors line nexts.Line v w was now = AnswersOne promised port collectors line v w was now
AnswersRead promised port collectors line (nexts.Feed collector limit) v w was now = AsksOn port line (commands.Feed collector limit) × (w ≡ v) × (now ≡ was)
AnswersRead promised port collectors line nexts.Quit v w was now = AsksOn port line commands.Quit × (w ≡ v) × Reports was now ok_line
AnswersRead promised port collectors line nexts.Stop v w was now = AsksOn port line commands.Stop × (w ≡ v) × Reports was now ok_line
AnswersRead promised port collectors line nexts.Close v w was now = ⊥

-- How a line is answered on a port: one of HTTP is refused, and the connection ends, if the port closes HTTP; any other by what it asks there.
abbrev pub AnswersLine : Type 0 → Port → ℕ → List ℕ → Next → View → View → OutputState → OutputState → Type 0
AnswersLine promised port collectors line next v w was now =
    ((next ≡ nexts.Close) × RefusesHttp port line v w was now)
    ⊎ ((ClosesAfter port line → ⊥) × AnswersRead promised port collectors line next v w was now)
