use Rattle.std.proofs.Common.{◌∙◌, List, ℕ, subst, sym, arith}
use Rattle.std.proofs.lemmas.Result.{err_from_is_err_and}
use Rattle.route_text.specs.MomentText.{IsMarkText}
use Rattle.service.proofs.Words.{word_at, rest_of}
use Rattle.server.proofs.command_words.read_mark_words.Goals as goal

pub returns-in_err-mark-clause-none : goal.returns-in_err-mark-clause-none
returns-in_err-mark-clause-none c =
    let p = err_from_is_err_and c.from_residual-in_err-mark.result c.from_residual-in_err-mark.ensures.1 in
    rw p.1 (λ collector mark h.
    c.in_err-mark.ensures.none mark
    (subst (λ (t : List ℕ). IsMarkText t mark) (sym (word_at c.in-Some.beyond.now 1 _ _ (rest_of _ _ _ _ (sym c.in-Some.ensures.found ∙ h.are)) (omega arith))) h.mark_is))
