-- What the pages represent that are shown, and the places of pages in a tree.
use Rattle.std.specs.Prelude.{◌≡◌, ℕ, ◌<◌, ◌≤◌, List, Option, Some, slice_get}
use Rattle.tsb_walk.specs.declared.page_place.PagePlace.{PagePlace}
use Rattle.version_model.specs.Versions.{Version}
use Rattle.version_model.specs.Ranges.{high_or}
use Rattle.version_model.specs.Pages.{Keys, PageNode, Store, NodeRepresentsIn}
use Rattle.tsb_node.specs.Views.{PageRepresents}

-- the page is one of those that are shown, and its octets represent this
pub record RepresentsNode (shown : List (List ℕ)) (page : ℕ) (node : PageNode) : Type 0 where
  pub octets : List ℕ
  pub at : slice_get shown page ≡ Some octets
  pub represents_node : PageRepresents octets node

-- each page that represents a node is shown, and its octets represent that node
abbrev pub RepresentNodes : List (List ℕ) → (ℕ → Option PageNode) → Type 0
RepresentNodes shown nodes = (page : ℕ) (node : PageNode) → nodes page ≡ Some node → RepresentsNode shown page node

-- the keys that a page has to have
abbrev pub keys_at : PagePlace → Keys
keys_at place = record { low = place.low; high = high_or place.high }

-- the key is one that the page has to have
pub record HasKey (place : PagePlace) (key : ℕ) : Type 0 where
  pub low : place.low ≤ key
  pub high : key < high_or place.high

-- the page represents versions, by what the pages represent that are shown
pub record RepresentsShown (shown : List (List ℕ)) (s : Store) (all : List Version) (place : PagePlace) : Type 0 where
  pub are_shown : RepresentNodes shown s.nodes
  pub represents_all : NodeRepresentsIn s all place.level (keys_at place) place.page
