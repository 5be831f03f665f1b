use Rattle.std.proofs.Common.{◌∙◌, ℕ, ap}
use Rattle.service.specs.AnswerLines.{reply_text}
use Rattle.server.proofs.replying.answer_question.Goals as goal

pub returns-in-Ok-answer_text-clause-answered : goal.returns-in-Ok-answer_text-clause-answered
returns-in-Ok-answer_text-clause-answered g c =
    let reported = c.in-Ok-answer_text.ensures.text ∙ ap (λ (skip : ℕ). reply_text skip c.in-Ok.answer) c.skip_of-skip.ensures.skip in
    record {
      lines = record { answer = c.in-Ok.answer; reported = reported };
      right = λ named. record {
        answer = c.in-Ok.answer;
        below = c.in-Ok.ensures.settled named;
        answered = c.in-Ok.ensures.answer named;
        reported = reported;
      };
    }
