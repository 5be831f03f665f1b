-- The law of a write-once disk, of the one over files.
use Rattle.std.proofs.Common.{◌≡◌, ℕ, List, Bool, true, false, ◌&&◌, not, Some, refl}
use Rattle.disk_models.specs.Once.{IsOnceSound}
use Rattle.disk_files.specs.declared.state.PenState.{PenState}
use Rattle.disk_files.specs.Burnt.{block_at, block_if, is_listed, is_lost, is_marked, once_state_of}

-- one test more
block_weaker : (a b : Bool) (block other : List ℕ) → block_if (a && b) block ≡ Some other → block_if a block ≡ Some other
block_weaker true true block other is = is
block_weaker true false block other is = absurd cc
block_weaker false b block other is = is

-- where there is a block the test is true
block_there : (a b : Bool) (block other : List ℕ) → block_if (a && b) block ≡ Some other → a ≡ true
block_there true b block other is = refl
block_there false b block other is = absurd cc

-- (a lemma) the state is sound
pub files_are_sound : (map blocks : ℕ → ℕ) (waiting : List ℕ) (state : PenState) → IsOnceSound (once_state_of map blocks waiting state)
files_are_sound map blocks waiting state = record {
  burnt = λ n block is. block_weaker (is_marked map n && not (is_lost state waiting n)) (not (is_listed waiting n)) (block_at blocks n) block is;
  tried = λ n block is. block_there (is_marked map n) (not (is_lost state waiting n)) (block_at blocks n) block is;
}
