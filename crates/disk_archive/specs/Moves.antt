-- Changes that are applied, one after another.
use Rattle.std.specs.Prelude.{ℕ}
use Rattle.route_meaning.specs.History.{History}
use Rattle.interleaving_core.specs.Steps.{Applies, AppliesMore}

-- the next change is applied, and maybe more of them
pub record Moves (h g : History) : Type 0 where
  pub first : History
  pub next : Applies h first
  pub more : ℕ
  pub others : AppliesMore more first g
