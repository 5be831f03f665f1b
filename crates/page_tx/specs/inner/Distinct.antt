-- That no number occurs twice is one fact.
use Rattle.std.specs.Prelude.{ℕ, List, [], ◌∷◌, ◌≢◌}
use Rattle.std.specs.List.{AllByRecursion-prop}
use Rattle.std.proofs.Props.{props}
use Rattle.page_journal.specs.Recovers.{AreDistinct}
use mathlib.Core.HLevel.{×_prop, Unit-prop}

pub distinct-prop : (ns : List ℕ) → IsProp (AreDistinct ns)
distinct-prop [] = Unit-prop
distinct-prop (n ∷ ns) = ×_prop (AllByRecursion-prop (λ other. n ≢ other) (λ other. Prim.hlevel props) ns) (distinct-prop ns)
