-- What a pass has seen before a call and after it.
use Rattle.std.specs.Prelude.{◌≡◌, ◌⊎◌, ℕ, List, Option, Some, IfSome, IsSome}
use Rattle.route_meaning.specs.History.{History}
use Rattle.board.specs.Past.{Past, GoesOnAs}
use Rattle.board.specs.Views.{View, IsFrontOf, IsCaughtUp, BeginsView}
use Rattle.query_threads.specs.Looks.{AreTheSettled}

-- The call was made on a past that the view before begins. It took that past's history to the one of the view after, as the
-- relation says, and the numbers seen then are at least those of that history.
pub record Sees (does : History → History → Type 0) (old new : View) : Type 0 where
  pub at : Past
  pub front : IsFrontOf at old
  pub goes_on : GoesOnAs at new.past
  pub done : does at.history new.past.history
  pub begins : BeginsView old new
  pub caught_up : IsCaughtUp new

-- the view is as it was, or goes on from it
abbrev pub Since : View → View → Type 0
Since old new = (new ≡ old) ⊎ BeginsView old new

-- What a call returned, or did, holds of an archive as it was and as the call left it. Where a disk is named, the archive was on it and
-- represented a past that the view before begins; it represents that of the view after, which goes on from there.
pub record ComesOf {A D : Type 0} (disk : Option D) (disk_of : A → D) (represents : A → Past → Type 0) (does : A → A → Type 0) (old new : View) : Type 0 where
  pub was : A
  pub is : A
  pub done : does was is
  pub on : IsSome disk → disk ≡ Some (disk_of was)
  pub before : IsSome disk → (p : Past) × represents was p × IsFrontOf p old × GoesOnAs p new.past
  pub after : IsSome disk → represents is new.past

-- Reading blocks with a look failed, by the look as it was and as it is then. Where a disk is named, the look was one at it, and found
-- exactly these blocks settled before.
pub record IsMissed {S D : Type 0} (disk : Option D) (honest : D → S → Type 0) (count : D → ℕ) (known : S → ℕ → Option (List ℕ)) (blocks : List (ℕ × List ℕ)) (misses : S → S → Type 0) : Type 0 where
  pub was : S
  pub is : S
  pub missed : misses was is
  pub of : IfSome disk (λ d. honest d was × AreTheSettled (count d) (known was) blocks)
