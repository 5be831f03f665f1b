use Rattle.std.proofs.Common.{List, ℕ, subst, sym}
use Rattle.std.proofs.lemmas.Result.{err_from_is_err_and}
use Rattle.route_text.specs.MomentText.{IsMomentText}
use Rattle.service.proofs.Words.{second_word}
use Rattle.service.proofs.rows_request.read_rows.Goals as goal

pub returns-in_err-moment-clause-none : goal.returns-in_err-moment-clause-none
returns-in_err-moment-clause-none c =
    let p = err_from_is_err_and c.from_residual.result c.from_residual.ensures.1 in
    rw p.1 (λ q h.
    c.in_err-moment.ensures.none q.moment
    (subst (λ (t : List ℕ). IsMomentText t q.moment) (sym (second_word c.args.words.now c.in-Some.beyond.now c.in-Some-split_first.asked.now _ h.moment c.in-Some-split_first.text.now h.asked c.in-Some.ensures.found c.in-Some-split_first.ensures.cases.0 h.are)) h.moment_is))
