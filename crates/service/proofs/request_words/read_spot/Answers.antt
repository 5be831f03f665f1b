use Rattle.std.proofs.Common.{List, ℕ, subst, sym, arith}
use Rattle.std.proofs.lemmas.Result.{err_from_is_err_and}
use Rattle.route_text.specs.PrefixText.{IsPrefixText}
use Rattle.service.proofs.Words.{word_at}
use Rattle.service.proofs.request_words.read_spot.Goals as goal

pub returns-in_err-prefix-clause-none : goal.returns-in_err-prefix-clause-none
returns-in_err-prefix-clause-none c =
    let p = err_from_is_err_and c.from_residual-in_err-prefix.result c.from_residual-in_err-prefix.ensures.1 in
    rw p.1 (λ spot h.
    c.in_err-prefix.ensures.none spot.prefix
    (subst (λ (t : List ℕ). IsPrefixText t spot.prefix) (sym (word_at c.args.words.now 3 _ _ h.are (omega arith))) h.prefix_is))
