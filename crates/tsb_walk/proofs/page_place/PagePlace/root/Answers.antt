use Rattle.std.proofs.Common.{ℕ, ◌∙◌, ap, refl}
use Rattle.version_model.specs.Ranges.{key_end}
use Rattle.route_model.specs.Keys.{number_of}
use Rattle.tsb_walk.proofs.page_place.PagePlace.root.Goals as goal

pub returns-clause-keys : goal.returns-clause-keys
unfolding number_of
returns-clause-keys c = ap (λ (n : ℕ). record { low = n; high = key_end }) (c.from_octets.ensures.key ∙ refl)
