use Rattle.std.proofs.Common.{◌∙◌, ℕ, Err, ap}
use Rattle.route_meaning.specs.History.{History}
use Rattle.interleaving_core.specs.declared.query.Query.{Query}
use Rattle.interleaving_core.specs.Does.{last_moment}
use Rattle.archive_calls.specs.Does.{IsAnswerOf}
use Rattle.archive_calls.specs.declared.refusal.AskError.{AskError}
use Rattle.archive_calls.specs.declared.refusal.AskError.TheVariants as asks
use Rattle.service.specs.AnswerLines.{reply_text}
use Rattle.service.specs.inner.Asking.{of_ask, IsUnanswered}
use Rattle.service.proofs.replying.answer_question.Goals as goal

reported_above : (h : History) (query : Query) (e : AskError) → IsAnswerOf h query (Err e) → IsUnanswered h (last_moment query) (of_ask e)
reported_above h query (asks.AboveWatermark mark) above = (above.1, above.0)
reported_above h query (asks.Trouble trouble) above = tt

pub returns-in-Err-clause-refused : goal.returns-in-Err-clause-refused
returns-in-Err-clause-refused g c = λ h represented.
    rw c.unanswered.ensures.why (reported_above h c.args.query c.in-Err.refusal (c.in-Err.ensures.done h represented))

pub returns-in-Ok-answer_text-clause-answered : goal.returns-in-Ok-answer_text-clause-answered
returns-in-Ok-answer_text-clause-answered g c = λ h represented.
    let reported = c.in-Ok.ensures.done h represented in
    record {
      answer = c.in-Ok.answer;
      below = reported.0;
      answered = reported.1;
      reported = c.in-Ok-answer_text.ensures.text ∙ ap (λ (skip : ℕ). reply_text skip c.in-Ok.answer) c.skip_of-skip.ensures.skip;
    }
