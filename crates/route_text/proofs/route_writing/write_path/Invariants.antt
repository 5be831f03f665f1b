use Rattle.std.proofs.Common.{◌≡◌, ◌++◌, ◌∷◌, take, string_bytes, flat_map}
use Rattle.route_text.specs.RouteText.{segment_text}
use Rattle.route_text.proofs.route_writing.write_path.Given as goal

abbrev pub invariant-loop-segment : goal.invariant-loop-segment
invariant-loop-segment l = string_bytes l.out ≡ string_bytes l.initial.out ++ flat_map (λ s. 32 ∷ segment_text s) (take l.segment-index l.others)
