-- The past of an archive of which something is promised, or of one of which nothing is.
use Rattle.std.proofs.Common.{◌≡◌, ◌∙◌, ◌⊎◌, ℕ, ◌≤◌, true, false, length, Option, sym}
use Rattle.std.specs.Prelude.{IsSome, IsNone, is_some}
use Rattle.std.proofs.lemmas.Bool.{cases_Bool}
use Rattle.route_meaning.specs.History.{IsHistory}
use Rattle.route_meaning.proofs.api.Beginning.{Begins-refl}
use Rattle.board.specs.Past.{Past, GoesOnAs}
use Rattle.query_threads.specs.inner.Unpromised.{ReachesAll}
use Rattle.query_threads.proofs.Everything.{some_past}

-- something is promised, or nothing
pub promised : {D : Type 0} (o : Option D) → IsSome o ⊎ IsNone o
promised o = cases_Bool (is_some o)

-- not both
pub never : {D : Type 0} (o : Option D) → IsSome o → IsNone o → ⊥
never o some none = let both : true ≡ false = sym some ∙ none in absurd cc

-- a past stays as it is
pub stays_as : (p : Past) → IsHistory p.history → GoesOnAs p p
stays_as p right = record { right = right; begins = Begins-refl p.history; blocks = λ n octets b. b }

-- what the writing seat begins with, where nothing is promised
pub begins_with : (k : ℕ) → 1 ≤ k → (p : Past) × ReachesAll p.history × (length p.history.intakes ≡ k)
begins_with = some_past
