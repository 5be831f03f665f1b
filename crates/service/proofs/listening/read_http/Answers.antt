use Rattle.std.proofs.Common.{inl, inr, sym, ◌∙◌}
use Rattle.std.proofs.lemmas.Bool.{false≢true}
use Rattle.service.proofs.ListenTexts.{always}
use Rattle.service.proofs.listening.read_http.Goals as goal

pub returns-in_err-http-clause-none : goal.returns-in_err-http-clause-none
returns-in_err-http-clause-none c = rw c.in-Some.is (always c.from_residual.result _ (inl c.in_err-http.ensures.none))

pub returns-then-are_same-clause-none : goal.returns-then-are_same-clause-none
returns-then-are_same-clause-none c = rw c.in-Some.is (inr (c.in_ok-http.http, c.in_ok-http.ensures.found, c.are_same.ensures.0 c.if-are_same.true))

pub returns-clause-found : goal.returns-clause-found
returns-clause-found c = rw c.in-Some.is (c.in_ok-http.ensures.found, λ same. false≢true (sym c.if-are_same.false ∙ c.are_same.ensures.1 same))
