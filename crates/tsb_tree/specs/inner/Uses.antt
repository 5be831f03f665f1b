-- How many pages that were never used a change uses: exactly those that are needed.
use Rattle.std.specs.Prelude.{◌≡◌, ℕ, ◌+◌, ◌<◌, ◌≤◌, ◌⊎◌, List, Option, Some, None}
use Rattle.tsb_walk.specs.declared.page_place.PagePlace.{PagePlace}
use Rattle.version_model.specs.declared.child.Child.{Child}
use Rattle.version_model.specs.Versions.{Version}
use Rattle.tsb_tree.specs.Needs.{BecomesTwo, StaysOne}

-- From `next` to `unused` those pages are used that a column needs whose leaf has this many octets: none, or two of a new half where they
-- are more than two thirds of a page.
abbrev pub UsesForLeaf : ℕ → ℕ → ℕ → Option Child → Type 0
UsesForLeaf size next unused None = (size ≤ 10821) × (unused ≡ next)
UsesForLeaf size next unused (Some new) = (10821 < size) × (unused ≡ next + 2)

-- those that a key node of this many children needs, which takes the new half of one: none, or one of a new half where it has no room
abbrev pub UsesForHalf : ℕ → ℕ → ℕ → Option Child → Type 0
UsesForHalf children next unused None = (children < 338) × (unused ≡ next)
UsesForHalf children next unused (Some new) = (children ≡ 338) × (unused ≡ next + 1)

-- those that the node at a place needs, which takes the version
abbrev pub UsesPages : List (List ℕ) → Version → PagePlace → ℕ → ℕ → Option Child → Type 0
UsesPages shown v place next unused None = (n : ℕ) × StaysOne shown v place n × (unused ≡ next + n)
UsesPages shown v place next unused (Some new) = (n : ℕ) × BecomesTwo shown v place n × (unused ≡ next + n)

-- fewer pages are left, from `next` on below `homes`, than the node at a place needs
abbrev pub LacksPages : List (List ℕ) → Version → PagePlace → ℕ → ℕ → Type 0
LacksPages shown v place homes next = (n : ℕ) × (StaysOne shown v place n ⊎ BecomesTwo shown v place n) × (homes < next + n)
