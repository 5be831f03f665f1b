use Rattle.std.proofs.Common.{◌≡◌, List, ℕ, ◌∷◌, codes, Result, Ok, Err, OnErr, subst, sym, ◌∙◌}
use Rattle.route_meaning.specs.declared.question.Spot.{Spot}
use Rattle.route_text.specs.declared.fault.BadText.{BadText}
use Rattle.service.specs.Requests.{AreSpotWords, AreRouteWords}
use Rattle.service.proofs.Words.{rest_of}
use Rattle.service.proofs.rows_request.read_route.Goals as goal

-- where the words after `route` name no spot, all of them ask for no route
none : (words named : List (List ℕ)) (r : Result Spot BadText) → words ≡ codes "route" ∷ named
    → OnErr r ((spot : Spot) → AreSpotWords named spot → ⊥) → OnErr r ((spot : Spot) → AreRouteWords words spot → ⊥)
none words named (Ok spot) is h = tt
none words named (Err why) is h = λ spot k. h spot (subst (λ (t : List (List ℕ)). AreSpotWords t spot) (sym (rest_of _ _ _ _ (sym is ∙ k.are))) k.spot_is)

pub returns-in-Some-clause-none : goal.returns-in-Some-clause-none
returns-in-Some-clause-none c = none _ _ c.read_spot.result c.in-Some.ensures.found c.read_spot.ensures.none
