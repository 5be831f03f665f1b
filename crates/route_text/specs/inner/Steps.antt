-- A path as the words of its text. No public contract cites these.
use Rattle.std.specs.Prelude.{ℕ, ◌<◌, ◌≤◌, ◌^◌, List, [], ◌∷◌, ◌++◌, length, map, codes, decimal}
use Rattle.std.specs.List.{AllByRecursion, flat_map}
use Rattle.route_model.specs.Encoding.{AreNumbers, IsSegment}
use Rattle.route_model.specs.declared.path.Segment.{Segment}
use Rattle.route_model.specs.declared.path.Segment.TheVariants as segments
use Rattle.route_text.specs.declared.step.Step.{Step}
use Rattle.route_text.specs.declared.step.Step.TheVariants.{Number, Set}
use Rattle.route_text.specs.NormalPath.{IsNormalPath}
use Rattle.route_text.specs.RouteText.{numbers_text}

-- the word of a step
abbrev pub step_text : Step → List ℕ
step_text (Number n) = decimal n
step_text (Set numbers) = codes "{" ++ numbers_text 44 numbers ++ codes "}"

-- a number of four octets, or 1 to 255 of them
abbrev pub IsStep : Step → Type 0
IsStep (Number n) = n < 2 ^ 32
IsStep (Set numbers) = AreNumbers numbers

-- a sequence has a step for each number, a set is one
abbrev pub segment_steps : Segment → List Step
segment_steps (segments.Set numbers) = Set numbers ∷ []
segment_steps (segments.Sequence numbers) = map Number numbers

-- the steps of a path
abbrev pub steps : List Segment → List Step
steps path = flat_map segment_steps path

-- the numbers after the last segment, as a sequence
abbrev pub run : List ℕ → List Segment
run [] = []
run (n ∷ numbers) = segments.Sequence (n ∷ numbers) ∷ []

-- closed segments, after which a further sequence may follow, and at most 255 numbers that aren't in a segment yet
pub record IsBuilt (closed : List Segment) (open_ : List ℕ) : Type 0 where
  pub normal : IsNormalPath (closed ++ segments.Sequence [] ∷ [])
  pub valid : AllByRecursion IsSegment closed
  pub room : length open_ ≤ 255
  pub numbers : AllByRecursion (λ n. n < 2 ^ 32) open_
