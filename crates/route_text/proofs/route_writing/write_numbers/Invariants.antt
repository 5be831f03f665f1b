use Rattle.std.proofs.Common.{◌≡◌, ◌++◌, ◌∷◌, take, string_bytes, decimal, flat_map}
use Rattle.route_text.proofs.route_writing.write_numbers.Given as goal

abbrev pub invariant-loop-number : goal.invariant-loop-number
invariant-loop-number l = string_bytes l.out ≡ string_bytes l.initial.out ++ flat_map (λ n. l.separator ∷ decimal n) (take l.number-index l.others)
