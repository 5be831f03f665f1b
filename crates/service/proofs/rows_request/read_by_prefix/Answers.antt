use Rattle.std.proofs.Common.{List, ℕ, subst, sym}
use Rattle.std.proofs.lemmas.Result.{err_from_is_err_and}
use Rattle.route_text.specs.PrefixText.{IsPrefixText}
use Rattle.service.proofs.Words.{second_word}
use Rattle.service.proofs.rows_request.read_by_prefix.Goals as goal

pub returns-in_err-prefix-clause-none : goal.returns-in_err-prefix-clause-none
returns-in_err-prefix-clause-none c =
    let p = err_from_is_err_and c.from_residual.result c.from_residual.ensures.1 in
    rw p.1 (λ prefix after h.
    c.in_err-prefix.ensures.none prefix
    (subst (λ (t : List ℕ). IsPrefixText t prefix) (sym (second_word c.args.words.now c.in-Some.beyond.now c.in-Some-split_first.after.now _ h.text c.in-Some-split_first.text.now h.beyond c.in-Some.ensures.found c.in-Some-split_first.ensures.cases.0 h.are)) h.prefix_is))
