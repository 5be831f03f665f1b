use Rattle.std.proofs.Common.{List, ℕ, map, ap, ◌∙◌, Bor}
use Rattle.route_model.specs.Tables.{place_of}
use Rattle.route_model.proofs.Indexed.{lent_place}
use Rattle.route_model.proofs.tables.route_place.Goals as goal

pub returns : goal.returns
returns c = rw (c.unwrap_or.ensures, c.get_index_of.ensures.index, c.len-2.ensures.len) (lent_place c.args.row c.args.rows.now.keys)

pub returns-then-len-le-FEW_ROWS : goal.returns-then-len-le-FEW_ROWS
returns-then-len-le-FEW_ROWS c = c.scan_routes.ensures ∙ ap (λ (t : List (Bor (List ℕ))). place_of (map (λ (r : Bor (List ℕ)). r.now) t) c.args.row.now) c.as_slice.ensures.keys
