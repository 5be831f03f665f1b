use Rattle.std.proofs.Common.{◌∙◌, List, ℕ, length, subst, sym, ap, arith}
use Rattle.std.proofs.lemmas.Result.{err_from_is_err_and}
use Rattle.std.proofs.lemmas.Slice.{between_to_end}
use Rattle.route_text.specs.MomentText.{IsMomentText}
use Rattle.route_text.specs.PrefixText.{IsPrefixText}
use Rattle.service.specs.Requests.{AreAfterWords}
use Rattle.service.proofs.Words.{texts, word_at, words_after, rest_of}
use Rattle.service.proofs.changed_request.read_changed.Goals as goal

pub returns-in_err-from-clause-none : goal.returns-in_err-from-clause-none
returns-in_err-from-clause-none c =
    let p = err_from_is_err_and c.from_residual.result c.from_residual.ensures.1 in
    rw p.1 (λ q h.
    c.in_err-from.ensures.none q.from
    (subst (λ (t : List ℕ). IsMomentText t q.from) (sym (word_at c.in-Some.beyond.now 0 _ _ (rest_of _ _ _ _ (sym c.in-Some.ensures.found ∙ h.are)) (omega arith))) h.from_is))

pub returns-in_err-to-clause-none : goal.returns-in_err-to-clause-none
returns-in_err-to-clause-none c =
    let p = err_from_is_err_and c.from_residual-in_err-to.result c.from_residual-in_err-to.ensures.1 in
    rw p.1 (λ q h.
    c.in_err-to.ensures.none q.to
    (subst (λ (t : List ℕ). IsMomentText t q.to) (sym (word_at c.in-Some.beyond.now 1 _ _ (rest_of _ _ _ _ (sym c.in-Some.ensures.found ∙ h.are)) (omega arith))) h.to_is))

pub returns-in_err-low-clause-none : goal.returns-in_err-low-clause-none
returns-in_err-low-clause-none c =
    let p = err_from_is_err_and c.from_residual-in_err-low.result c.from_residual-in_err-low.ensures.1 in
    rw p.1 (λ q h.
    c.in_err-low.ensures.none q.low
    (subst (λ (t : List ℕ). IsPrefixText t q.low) (sym (word_at c.in-Some.beyond.now 2 _ _ (rest_of _ _ _ _ (sym c.in-Some.ensures.found ∙ h.are)) (omega arith))) h.low_is))

pub returns-in_err-high-clause-none : goal.returns-in_err-high-clause-none
returns-in_err-high-clause-none c =
    let p = err_from_is_err_and c.from_residual-in_err-high.result c.from_residual-in_err-high.ensures.1 in
    rw p.1 (λ q h.
    c.in_err-high.ensures.none q.high
    (subst (λ (t : List ℕ). IsPrefixText t q.high) (sym (word_at c.in-Some.beyond.now 3 _ _ (rest_of _ _ _ _ (sym c.in-Some.ensures.found ∙ h.are)) (omega arith))) h.high_is))

pub returns-in_err-after-clause-none : goal.returns-in_err-after-clause-none
returns-in_err-after-clause-none c =
    let p = err_from_is_err_and c.from_residual-in_err-after.result c.from_residual-in_err-after.ensures.1 in
    let all = between_to_end c.in-Some.beyond.now 4 (length c.in-Some.beyond.now) (omega arith) in
    rw p.1 (λ q h.
    c.in_err-after.ensures.none q.after
    (subst (λ (t : List (List ℕ)). AreAfterWords t q.after) (sym (ap texts all ∙ words_after c.in-Some.beyond.now 4 _ (rest_of _ _ _ _ (sym c.in-Some.ensures.found ∙ h.are)))) h.after_is))
