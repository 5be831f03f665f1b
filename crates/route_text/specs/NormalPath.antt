-- The one form of a path that is read from a text.
use Rattle.std.specs.Prelude.{◌≡◌, List, [], ◌∷◌, length}
use Rattle.route_model.specs.declared.path.Segment.{Segment}
use Rattle.route_model.specs.declared.path.Segment.TheVariants.{Set, Sequence}

-- a sequence stands before another one only if it is full: it has 255 numbers
abbrev pub MayPrecede : Segment → Segment → Type 0
MayPrecede (Sequence numbers) (Sequence others) = length numbers ≡ 255
MayPrecede (Sequence numbers) (Set others) = Unit {0}
MayPrecede (Set numbers) next = Unit {0}

-- numbers in a row stand in one sequence, as far as it holds them
abbrev pub IsNormalPath : List Segment → Type 0
IsNormalPath [] = Unit {0}
IsNormalPath (s ∷ []) = Unit {0}
IsNormalPath (s ∷ t ∷ path) = MayPrecede s t × IsNormalPath (t ∷ path)
