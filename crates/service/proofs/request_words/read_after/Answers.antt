use Rattle.std.proofs.Common.{◌≡◌, ◌∷◌, Bor, List, ℕ, Option, Some, None, ap, subst, sym}
use Rattle.std.proofs.lemmas.Result.{err_from_is_err_and}
use Rattle.route_meaning.specs.declared.question.Spot.{Spot}
use Rattle.service.specs.Requests.{AreSpotWords, AreAfterWords}
use Rattle.service.proofs.Words.{Words, texts}
use Rattle.service.proofs.request_words.read_after.Goals as goal

-- words of which those after the first name no spot are no `after PEER PREFIX`
none : (words named : Words) (word : Bor (List ℕ)) (after : Option Spot) → words ≡ word ∷ named → ((spot : Spot) → AreSpotWords (texts named) spot → ⊥) → AreAfterWords (texts words) after → ⊥
none words named word None is refused h = let empty = ap texts is in absurd cc
none words named word (Some spot) is refused h =
    let same : texts named ≡ h.0 = let e = ap texts is in let f = h.1 in cc in
    refused spot (subst (λ (t : List (List ℕ)). AreSpotWords t spot) (sym same) h.2)

pub returns-in_err-spot-clause-none : goal.returns-in_err-spot-clause-none
returns-in_err-spot-clause-none c =
    let p = err_from_is_err_and c.from_residual.result c.from_residual.ensures.1 in
    rw p.1 (λ after h. none c.args.words.now c.in-Some.named.now c.in-Some.word.now after c.in-Some.ensures.cases.0 c.in_err-spot.ensures.none h)
