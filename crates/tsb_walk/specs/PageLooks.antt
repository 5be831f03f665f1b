-- Which pages are reported as bad by lookups that begin at current pages.
use Rattle.std.specs.Prelude.{◌≡◌, ℕ, ◌<◌, ◌≤◌, List}
use Rattle.tsb_walk.specs.declared.page_place.PagePlace.{PagePlace}
use Rattle.tsb_walk.specs.Shown.{RepresentsNode, keys_at}
use Rattle.tsb_walk.specs.PageWays.{PageWay, ComesToColumn, IsNoKeyNode, IsNoColumn, IsNoLeaf}
use Rattle.version_model.specs.declared.part.Part.{Part}
use Rattle.version_model.specs.Pages.{ColumnNode}

-- if the page of the place represents a column of its keys, its current leaf starts there, is on this page, and has the stamp
abbrev pub HasCurrent : List (List ℕ) → PagePlace → ℕ → ℕ → ℕ → Type 0
HasCurrent shown column stamp start page =
    (parts : List Part) (begun current : ℕ) → RepresentsNode shown column.page (ColumnNode (keys_at column) parts begun current) → (start ≡ begun) × (page ≡ current) × (begun ≤ stamp)

-- The path of the key comes to the page, which isn't what it has to be there: a key node of its level and keys; the column; or the column's
-- current leaf, if the stamp is in it.
pub data IsBadLook (shown : List (List ℕ)) (root : PagePlace) (key stamp : ℕ) : ℕ → Type 0 where
  bad_key_node : (last : PagePlace) → PageWay shown key root last → 1 < last.level → IsNoKeyNode shown last → IsBadLook shown root key stamp last.page
  bad_column : (last : PagePlace) → PageWay shown key root last → last.level ≡ 1 → IsNoColumn shown last → IsBadLook shown root key stamp last.page
  bad_leaf : (column : PagePlace) (start page : ℕ) → ComesToColumn shown root key column → HasCurrent shown column stamp start page → IsNoLeaf shown column start page → IsBadLook shown root key stamp page
