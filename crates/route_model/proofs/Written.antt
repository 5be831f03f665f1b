-- An admission's octets, written piece by piece.
use Rattle.std.proofs.Common.{◌≡◌, ℕ, List, [], ◌++◌, length, ap, ◌∙◌, append_assoc}
use Rattle.std.specs.List.{flat_map}
use Rattle.std.specs.Int.{w16, w64, to_be_bytes}
use Rattle.route_model.specs.declared.change.Change.{Change}
use Rattle.route_model.specs.Admission.{change_octets, sized, counted, peer_rows, route_rows, admission_octets}

-- a count, and what is counted
pub count_then : (out count rows mid new : List ℕ) → mid ≡ out ++ count → new ≡ mid ++ rows → new ≡ out ++ (count ++ rows)
count_then out count rows mid new a b = b ∙ ap (λ (t : List ℕ). t ++ rows) a ∙ append_assoc out count rows

pub written : (time : ℕ) (cs : List Change) (peers routes : List (List ℕ)) (begun timed after_peers after_routes after_count all : List ℕ) → peers ≡ peer_rows cs → routes ≡ route_rows cs → begun ≡ []
    → timed ≡ begun ++ to_be_bytes w64 time
    → after_peers ≡ timed ++ counted (λ row. row) peers
    → after_routes ≡ after_peers ++ counted sized routes
    → after_count ≡ after_routes ++ to_be_bytes w16 (length cs)
    → all ≡ after_count ++ flat_map (change_octets peers routes) cs
    → all ≡ admission_octets (record { time = time; changes = cs })
unfolding admission_octets
written time cs peers routes begun timed after_peers after_routes after_count all p r e0 e1 e2 e3 e4 e5 =
    rw (e5, e4, e3, e2, e1, e0, p, r)
    (append_assoc (to_be_bytes w64 time ++ counted (λ row. row) (peer_rows cs) ++ counted sized (route_rows cs)) (to_be_bytes w16 (length cs)) (flat_map (change_octets (peer_rows cs) (route_rows cs)) cs))
