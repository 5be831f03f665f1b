use Rattle.std.proofs.Common.{◌≡◌, List, ℕ, ◌++◌, map, ap, ◌∙◌, Bor}
use Rattle.std.specs.Int.{w64, to_be_bytes}
use Rattle.route_model.proofs.Written.{written}
use Rattle.route_model.proofs.admission_writing.encode.Goals as goal

pub returns : goal.returns
returns c =
    let routes : List (List ℕ) = map (λ (r : Bor (List ℕ)). r.now) c.in_ok-routes.routes.keys in
    let timed : c.extend_from_slice.new.self.items ≡ c.in_ok-out.out.items ++ to_be_bytes w64 c.args.time = c.in_ok-extend_from_slice.ensures.items ∙ ap (λ (t : List ℕ). c.in_ok-out.out.items ++ t) c.to_be_bytes.ensures in
    written c.args.time c.args.changes.now c.in_ok-peers.peers.keys routes c.in_ok-out.out.items c.extend_from_slice.new.self.items c.put_peers.new.out.items c.put_routes.new.out.items c.put_u16.new.out.items c.put_changes.new.out.items
    c.in_ok-peers.ensures c.in_ok-routes.ensures c.in_ok-out.ensures.items timed c.in_ok-put_peers.ensures c.in_ok-put_routes.ensures c.in_ok-put_u16.ensures c.in_ok-put_changes.ensures
