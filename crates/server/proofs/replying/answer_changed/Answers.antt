use Rattle.server.proofs.replying.answer_changed.Goals as goal

pub returns-in-Ok-changed_text-clause-answered : goal.returns-in-Ok-changed_text-clause-answered
returns-in-Ok-changed_text-clause-answered g c = record {
  lines = record { answer = c.in-Ok.answer; reported = c.in-Ok-changed_text.ensures.text };
  right = λ named. record {
    answer = c.in-Ok.answer;
    below = c.in-Ok.ensures.settled named;
    answered = c.in-Ok.ensures.answer named;
    reported = c.in-Ok-changed_text.ensures.text;
  };
}
