-- What a step of applying needs, and what it lacks.
use Rattle.std.specs.Prelude.{◌≡◌, ◌<◌, ◌⊎◌, ℕ, List, [], ◌∷◌, length}
use Rattle.route_model.specs.Admission.{Admitted}
use Rattle.route_meaning.specs.Merged.{Placed}
use Rattle.route_meaning.specs.History.{History, applied, waiting}
use Rattle.version_model.specs.Versions.{Version}
use Rattle.route_history.specs.Kept.{AreVersions, timed}
use Rattle.tsb_tree.specs.NoRoom.{AtRoot}
use Rattle.tsb_tree.specs.Needs.{NeedsLevel, NeedsPages}
use Rattle.tsb_tree.specs.Opened.{IsShownRoot}
use Rattle.tsb_tree.specs.Outlived.{LeadsToOutdated}
use Rattle.archive_pages.specs.Changes.{next_change}

-- This is the version of the history's next change: of the first admission that waits, the change after those that are applied.
pub record IsNextVersion (h : History) (v : Version) : Type 0 where
  pub first : Placed Admitted
  pub later : List (Placed Admitted)
  pub here : waiting h ≡ first ∷ later
  pub version : AreVersions (length (timed (applied h))) (next_change h.some first) (v ∷ [])

-- To take the version of which this holds, the tree with this root on these pages needs more pages that were never used than are left.
pub record LacksPages (is : Version → Type 0) (pages : List (List ℕ)) (left root : ℕ) : Type 0 where
  pub version : Version
  pub its : is version
  pub level : ℕ
  pub needed : ℕ
  pub needs : AtRoot (λ place. NeedsPages pages version place needed) root level
  pub above : left < needed

-- To take the version of which this holds, the tree with this root on these pages, which is as high as it may be, needs a level more.
pub record LacksLevel (is : Version → Type 0) (pages : List (List ℕ)) (root : ℕ) : Type 0 where
  pub version : Version
  pub its : is version
  pub highest : IsShownRoot pages root 7
  pub needs : AtRoot (NeedsLevel pages version) root 7

-- To take the version of which this holds, the tree with this root on these pages has to split a full leaf by time, which moves versions
-- into a block.
pub record NeedsBlock (is : Version → Type 0) (pages : List (List ℕ)) (root : ℕ) : Type 0 where
  pub version : Version
  pub its : is version
  pub level : ℕ
  pub needs : AtRoot (LeadsToOutdated pages version) root level

-- To take the version, the tree with this root on these pages lacks nothing: neither pages, of which `left` were never used, nor a level; and
-- it doesn't need a block if none is blank.
pub record LacksNone (v : Version) (pages : List (List ℕ)) (left root : ℕ) (none_blank : Type 0) : Type 0 where
  pub enough : LacksPages (λ w. w ≡ v) pages left root → ⊥
  pub below : LacksLevel (λ w. w ≡ v) pages root → ⊥
  pub block : NeedsBlock (λ w. w ≡ v) pages root → none_blank → ⊥

-- one of the versions of which this holds, if there is one, lacks nothing: a change has one, but for the end of a session, at which any
-- value will do
abbrev pub OneLacksNone : (Version → Type 0) → List (List ℕ) → ℕ → ℕ → Type 0 → Type 0
OneLacksNone is pages left root none_blank = ((v : Version) → is v → ⊥) ⊎ ((v : Version) × is v × LacksNone v pages left root none_blank)

-- What is there when the next change is applied, after `count` others: one more can be counted, and its version, if it has one, lacks
-- neither pages nor a level, nor a block that it needs.
pub record HasRoom (is : Version → Type 0) (pages : List (List ℕ)) (left root count : ℕ) (none_blank : Type 0) : Type 0 where
  pub counted : count < 18446744073709551615
  pub version : OneLacksNone is pages left root none_blank
