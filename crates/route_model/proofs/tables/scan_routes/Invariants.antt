use Rattle.std.proofs.Common.{◌≡◌, ◌+◌, drop, map}
use Rattle.route_model.specs.Tables.{place_of}
use Rattle.route_model.proofs.tables.scan_routes.Given as goal

abbrev pub invariant-loop-r : goal.invariant-loop-r
invariant-loop-r l = (l.place ≡ l.r-index) × (place_of (map (λ r. r.now) l.rows) l.row ≡ l.r-index + place_of (map (λ r. r.now) (drop l.r-index l.rows)) l.row)
