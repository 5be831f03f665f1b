use Rattle.std.proofs.Common.{◌∙◌, List, ℕ, length, subst, sym, ap, arith}
use Rattle.std.proofs.lemmas.Result.{err_from_is_err_and}
use Rattle.std.proofs.lemmas.Slice.{between_to_end}
use Rattle.route_text.specs.MomentText.{IsMomentText}
use Rattle.route_text.specs.PrefixText.{IsPrefixText}
use Rattle.service.specs.Requests.{AreSkipWords}
use Rattle.service.proofs.Words.{texts, word_at, words_after, rest_of}
use Rattle.service.proofs.events_request.read_events.Goals as goal

pub returns-in_err-from-clause-none : goal.returns-in_err-from-clause-none
returns-in_err-from-clause-none c =
    let p = err_from_is_err_and c.from_residual.result c.from_residual.ensures.1 in
    rw p.1 (λ q h.
    c.in_err-from.ensures.none q.from
    (subst (λ (t : List ℕ). IsMomentText t q.from) (sym (word_at c.in-Some.beyond.now 0 _ _ (rest_of _ _ _ _ (sym c.in-Some.ensures.found ∙ h.are)) (omega arith))) h.from_is))

pub returns-in_err-to-clause-none : goal.returns-in_err-to-clause-none
returns-in_err-to-clause-none c =
    let p = err_from_is_err_and c.from_residual-in_err-to.result c.from_residual-in_err-to.ensures.1 in
    rw p.1 (λ q h.
    c.in_err-to.ensures.none q.to
    (subst (λ (t : List ℕ). IsMomentText t q.to) (sym (word_at c.in-Some.beyond.now 1 _ _ (rest_of _ _ _ _ (sym c.in-Some.ensures.found ∙ h.are)) (omega arith))) h.to_is))

pub returns-in_err-prefix-clause-none : goal.returns-in_err-prefix-clause-none
returns-in_err-prefix-clause-none c =
    let p = err_from_is_err_and c.from_residual-in_err-prefix.result c.from_residual-in_err-prefix.ensures.1 in
    rw p.1 (λ q h.
    c.in_err-prefix.ensures.none q.prefix
    (subst (λ (t : List ℕ). IsPrefixText t q.prefix) (sym (word_at c.in-Some.beyond.now 5 _ _ (rest_of _ _ _ _ (sym c.in-Some.ensures.found ∙ h.are)) (omega arith))) h.prefix_is))

pub returns-in_err-skip-clause-none : goal.returns-in_err-skip-clause-none
returns-in_err-skip-clause-none c =
    let p = err_from_is_err_and c.from_residual-in_err-skip.result c.from_residual-in_err-skip.ensures.1 in
    let all = between_to_end c.in-Some.beyond.now 6 (length c.in-Some.beyond.now) (omega arith) in
    rw p.1 (λ q h.
    c.in_err-skip.ensures.none q.skip
    (subst (λ (t : List (List ℕ)). AreSkipWords t q.skip) (sym (ap texts all ∙ words_after c.in-Some.beyond.now 6 _ (rest_of _ _ _ _ (sym c.in-Some.ensures.found ∙ h.are)))) h.skip_is))
