use Rattle.std.proofs.Common.{◌≡◌, ◌∙◌, List, ℕ, ◌∷◌, Bor, Result, Ok, Err, OnErr, subst, sym, ap, ⊎_elim}
use Rattle.route_text.specs.declared.fault.BadText.{BadText}
use Rattle.service.specs.Requests.{AreNumberWords, AreSkipWords}
use Rattle.service.proofs.Words.{Words, texts, nothing, rest_of}
use Rattle.service.proofs.events_request.read_skip.Goals as goal

-- words of which those after the first are no number say no number of events
none : (words named : Words) (word : Bor (List ℕ)) (r : Result ℕ BadText) → words ≡ word ∷ named
    → OnErr r ((number : ℕ) → AreNumberWords 18446744073709551615 (texts named) number → ⊥) → OnErr r ((skip : ℕ) → AreSkipWords (texts words) skip → ⊥)
none words named word (Ok number) is h = tt
none words named word (Err why) is h = λ skip k.
    let e : texts words ≡ word.now ∷ texts named = ap texts is in
    ⊎_elim
    (λ empty. nothing word.now (texts named) (sym empty.0 ∙ e))
    (λ some. h skip (subst (λ (t : List (List ℕ)). AreNumberWords 18446744073709551615 t skip) (sym (rest_of _ _ _ _ (sym e ∙ some.1))) some.2))
    k

pub returns-clause-none : goal.returns-clause-none
returns-clause-none c = none c.args.words.now c.in-Some.named.now c.in-Some.word.now c.read_only_number.result c.in-Some.ensures.cases.0 c.read_only_number.ensures.none
