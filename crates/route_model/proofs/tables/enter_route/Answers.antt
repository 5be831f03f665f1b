use Rattle.std.proofs.Common.{List, ℕ, length, not, map, refl, ap, ◌∙◌, arith, Bor}
use Rattle.std.proofs.lemmas.List.{length-map}
use Rattle.route_model.proofs.Indexed.{lent_entered, lent_there}
use Rattle.route_model.proofs.TableRows.{place_some}
use Rattle.route_model.proofs.tables.enter_route.Goals as goal

pub returns-then-route_place-len-clause-entered : goal.returns-then-route_place-len-clause-entered
returns-then-route_place-len-clause-entered c =
    let keys : List (Bor (List ℕ)) = c.args.rows.now.keys in
    let now : Bor (List ℕ) → List ℕ = λ r. r.now in
    let here = place_some (map now keys) c.args.octets.now (omega (arith, c.if-route_place-len.true, c.route_place.ensures, c.len.ensures.len, length-map keys now)) in
    rw here refl

pub returns-then-route_place-len-clause-new : goal.returns-then-route_place-len-clause-new
returns-then-route_place-len-clause-new c =
    let keys : List (Bor (List ℕ)) = c.args.rows.now.keys in
    let now : Bor (List ℕ) → List ℕ = λ r. r.now in
    let here = place_some (map now keys) c.args.octets.now (omega (arith, c.if-route_place-len.true, c.route_place.ensures, c.len.ensures.len, length-map keys now)) in
    rw here refl

pub returns-clause-entered : goal.returns-clause-entered
returns-clause-entered c = ap (map (λ (r : Bor (List ℕ)). r.now)) c.in_ok-insert.ensures.keys ∙ lent_entered c.args.octets c.args.rows.now.keys

pub returns-clause-new : goal.returns-clause-new
returns-clause-new c = c.in_ok-insert.ensures.added ∙ ap not (lent_there c.args.octets c.args.rows.now.keys)
