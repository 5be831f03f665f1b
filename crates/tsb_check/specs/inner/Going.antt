-- How far a count has come.
use Rattle.std.specs.Prelude.{◌≡◌, ℕ, ◌+◌, List, Option}
use Rattle.std.specs.List.{AllByRecursion}
use Rattle.version_model.specs.declared.part.Place.{Place}
use Rattle.tsb_check.specs.Counted.{AreCounted, IsReached, reported}

-- What was counted so far, and what the places that are left count, is a count of all.
pub record CountsOn (known : ℕ → Option (List ℕ)) (count : ℕ) (places left : List Place) (n : ℕ) : Type 0 where
  pub total : ℕ
  pub is : n ≡ reported total
  pub on : (m : ℕ) → AreCounted known count left m → AreCounted known count places (total + m)

-- The places that are left are reached, and the count goes on over them.
pub record GoesOn (known : ℕ → Option (List ℕ)) (count : ℕ) (places left : List Place) (n : ℕ) : Type 0 where
  pub reached : AllByRecursion (IsReached known count places) left
  pub counts : CountsOn known count places left n
