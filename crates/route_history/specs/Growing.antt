-- What a store stands for after a call that may have settled more blocks.
use Rattle.std.specs.Prelude.{ℕ, ◌<◌, ◌++◌, ◌∷◌, [], List, Option}
use Rattle.std.specs.List.{AllByRecursion}
use Rattle.version_model.specs.Versions.{Version}
use Rattle.version_model.specs.Blocks.{BlockNode, Grows}
use Rattle.route_history.specs.Kept.{Timed, IsVersion}

-- by these blocks, or more, the store stands for the versions
pub record RepresentsGrown (represents_all : (ℕ → Option BlockNode) → List Version → Type 0) (blocks : ℕ → Option BlockNode) (all : List Version) : Type 0 where
  pub grown : ℕ → Option BlockNode
  pub grows : Grows blocks grown
  pub are : represents_all grown all

-- each version is before the stamp
abbrev pub AreBefore : ℕ → List Version → Type 0
AreBefore stamp all = AllByRecursion (λ v. v.stamp < stamp) all

-- the store stands for one version more, which is that of the change with number n
pub record HasApplied (represents_all : (ℕ → Option BlockNode) → List Version → Type 0) (blocks : ℕ → Option BlockNode) (all : List Version) (n : ℕ) (t : Timed) : Type 0 where
  pub version : Version
  pub is : IsVersion n t version
  pub grown : RepresentsGrown represents_all blocks (all ++ version ∷ [])
