use Rattle.std.proofs.Common.{List, ℕ, ap, ◌∙◌}
use Rattle.route_model.specs.Tables.{place_of}
use Rattle.route_model.proofs.Indexed.{octets_place}
use Rattle.route_model.proofs.tables.peer_place.Goals as goal

pub returns : goal.returns
returns c = rw (c.unwrap_or.ensures, c.get_index_of.ensures.index, c.len-2.ensures.len) (octets_place c.args.row c.args.rows.now.keys)

pub returns-then-len-le-FEW_ROWS : goal.returns-then-len-le-FEW_ROWS
returns-then-len-le-FEW_ROWS c = c.scan_peers.ensures ∙ ap (λ (t : List (List ℕ)). place_of t c.args.row) c.as_slice.ensures.keys
