use Rattle.std.proofs.Common.{Err}
use Rattle.route_meaning.specs.History.{History}
use Rattle.route_meaning.specs.declared.question.ChangedQuestion.{ChangedQuestion}
use Rattle.archive_calls.specs.Does.{IsChangedAnswerOf}
use Rattle.archive_calls.specs.declared.refusal.AskError.{AskError}
use Rattle.archive_calls.specs.declared.refusal.AskError.TheVariants as asks
use Rattle.service.specs.inner.Asking.{of_ask, IsUnanswered}
use Rattle.service.proofs.replying.answer_changed.Goals as goal

reported_above : (h : History) (q : ChangedQuestion) (e : AskError) → IsChangedAnswerOf h q (Err e) → IsUnanswered h q.to (of_ask e)
reported_above h q (asks.AboveWatermark mark) above = (above.1, above.0)
reported_above h q (asks.Trouble trouble) above = tt

pub returns-in-Err-clause-refused : goal.returns-in-Err-clause-refused
returns-in-Err-clause-refused g c = λ h represented.
    rw c.unanswered.ensures.why (reported_above h c.args.question c.in-Err.refusal (c.in-Err.ensures.done h represented))

pub returns-in-Ok-changed_text-clause-answered : goal.returns-in-Ok-changed_text-clause-answered
returns-in-Ok-changed_text-clause-answered g c = λ h represented.
    let answered = c.in-Ok.ensures.done h represented in
    record {
      answer = c.in-Ok.answer;
      below = answered.0;
      answered = answered.1;
      reported = c.in-Ok-changed_text.ensures.text;
    }
