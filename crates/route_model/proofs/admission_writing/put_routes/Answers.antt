use Rattle.std.proofs.Common.{List, ℕ, ◌++◌, length, map, sym, ap, ◌∙◌, Bor}
use Rattle.std.specs.List.{flat_map}
use Rattle.std.specs.Int.{w16, to_be_bytes}
use Rattle.std.proofs.lemmas.List.{length-map}
use Rattle.std.proofs.lemmas.List.Folds.{flat_map-map}
use Rattle.route_model.specs.Admission.{sized}
use Rattle.route_model.proofs.Written.{count_then}
use Rattle.route_model.proofs.admission_writing.put_routes.Goals as goal

pub returns : goal.returns
returns c =
    let now : Bor (List ℕ) → List ℕ = λ r. r.now in
    let keys : List (Bor (List ℕ)) = c.args.rows.now.keys in
    let rows : List (List ℕ) = map now keys in
    count_then c.args.out.now.items (to_be_bytes w16 (length rows)) (flat_map sized rows) c.put_u16.new.out.items c.put_route_rows.new.out.items
    (c.in_ok-put_u16.ensures ∙ ap (λ (n : ℕ). c.args.out.now.items ++ to_be_bytes w16 n) (c.len.ensures.len ∙ sym (length-map keys now)))
    (c.in_ok-put_route_rows.ensures ∙ ap (λ (t : List ℕ). c.put_u16.new.out.items ++ t) (ap (flat_map (λ (r : Bor (List ℕ)). sized r.now)) c.as_slice.ensures.keys ∙ sym (flat_map-map sized now keys)))
