use Rattle.std.proofs.Common.{List, ℕ, ◌++◌, length, ap, ◌∙◌}
use Rattle.std.specs.List.{flat_map}
use Rattle.std.specs.Int.{w16, to_be_bytes}
use Rattle.route_model.proofs.Written.{count_then}
use Rattle.route_model.proofs.admission_writing.put_peers.Goals as goal

pub returns : goal.returns
returns c =
    let rows : List (List ℕ) = c.args.rows.now.keys in
    count_then c.args.out.now.items (to_be_bytes w16 (length rows)) (flat_map (λ (r : List ℕ). r) rows) c.put_u16.new.out.items c.put_peer_rows.new.out.items
    (c.in_ok-put_u16.ensures ∙ ap (λ (n : ℕ). c.args.out.now.items ++ to_be_bytes w16 n) c.len.ensures.len)
    (c.in_ok-put_peer_rows.ensures ∙ ap (λ (t : List (List ℕ)). c.put_u16.new.out.items ++ flat_map (λ (r : List ℕ). r) t) c.as_slice.ensures.keys)
