use Rattle.std.proofs.Common.{◌≡◌, ℕ, zero, suc, replicate, ◌∙◌, refl, arith}
use Rattle.route_model.specs.Keys.{number_of}
use Rattle.tsb_tree.proofs.tree.first_key.Goals as goal

zeros-number : (n : ℕ) → number_of (replicate n 0) ≡ 0
unfolding number_of
zeros-number zero = refl
zeros-number (suc n) = let rest = zeros-number n in omega (arith, rest)

pub returns : goal.returns
returns c = record { first = c.from_octets.ensures.key ∙ zeros-number 40 }
