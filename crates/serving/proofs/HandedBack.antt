-- An archive that is handed back.
use Rattle.std.proofs.Common.{◌≡◌, List, [], ◌∷◌, ◌++◌, Result, Ok, Err, ◌∙◌, ap, subst}
use Rattle.std.specs.Prelude.{IsOk, is_ok, if◌then◌else◌}
use Rattle.std.specs.List.{AllByRecursion}
use Rattle.board.specs.Past.{Past, GoesOnAs}
use Rattle.board.specs.Views.{View, IsFrontOf}

-- a pass was pushed on none, for which there was room
pub pushed : {X E : Type 0} (reported : Result X E) (old new : List View) (v : View) → new ≡ (if is_ok reported then old ++ v ∷ [] else old) → IsOk reported → old ≡ [] → new ≡ v ∷ []
pushed (Ok x) old new v is ok none = is ∙ ap (λ (vs : List View). vs ++ v ∷ []) none
pushed (Err e) old new v is ok none = absurd cc

-- the past that this pass alone knew goes on
pub goes_on_from : (p : Past) (views : List View) (v : View) → views ≡ v ∷ [] → AllByRecursion (IsFrontOf p) views → GoesOnAs v.past p
goes_on_from p views v is all = let one = subst (λ (vs : List View). AllByRecursion (IsFrontOf p) vs) is all in one.0.past
