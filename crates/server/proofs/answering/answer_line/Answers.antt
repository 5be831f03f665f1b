use Rattle.std.proofs.Common.{◌∙◌, inl, inr, refl, sym, true≢false}
use Rattle.server.proofs.answering.answer_line.Goals as goal

pub returns-then-closes_after-clause-answers : goal.returns-then-closes_after-clause-answers
returns-then-closes_after-clause-answers g c = inl (refl, record { closes = c.closes_after.ensures.closes.0 c.if-closes_after.true; same = refl; reports = c.write_refusal.ensures.line })

pub returns-clause-answers : goal.returns-clause-answers
returns-clause-answers g c = inr ((λ closes. true≢false (sym (c.closes_after.ensures.closes.1 closes) ∙ c.if-closes_after.false)), c.answer_read.ensures.answers)
