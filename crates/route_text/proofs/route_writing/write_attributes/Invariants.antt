use Rattle.std.proofs.Common.{◌≡◌, ◌++◌, ◌∷◌, take, string_bytes, flat_map}
use Rattle.route_text.specs.RouteText.{attribute_text}
use Rattle.route_text.proofs.route_writing.write_attributes.Given as goal

abbrev pub invariant-loop-attribute : goal.invariant-loop-attribute
invariant-loop-attribute l = string_bytes l.out ≡ string_bytes l.initial.out ++ flat_map (λ a. 32 ∷ attribute_text a) (take l.attribute-index l.others)
