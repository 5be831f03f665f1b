use Rattle.std.proofs.Common.{◌∙◌, List, ℕ, subst, sym}
use Rattle.std.proofs.lemmas.Result.{err_from_is_err_and}
use Rattle.service.specs.Requests.{AreNumberWords}
use Rattle.service.proofs.Words.{rest_of}
use Rattle.service.proofs.request.read_durable.Goals as goal

pub returns-in_err-collector-clause-none : goal.returns-in_err-collector-clause-none
returns-in_err-collector-clause-none c =
    let p = err_from_is_err_and c.from_residual.result c.from_residual.ensures.1 in
    rw p.1 (λ collector h.
    c.in_err-collector.ensures.none collector
    (subst (λ (t : List (List ℕ)). AreNumberWords 15 t collector) (sym (rest_of _ _ _ _ (sym c.in-Some.ensures.found ∙ h.are))) h.collector_is))
