-- A key node: the lowest keys and the pages of its children.
use Rattle.std.specs.Prelude.{◌≡◌, ℕ, ◌*◌, ◌<◌, ◌≤◌, ◌^◌, List, ◌++◌, length, map, None, IfSome}
use Rattle.std.specs.List.{flat_map, AllByRecursion}
use Rattle.tsb_node.specs.Numbers.{octets_of}
use Rattle.tsb_node.specs.Scaling.{IsKnownUnit}
use Rattle.tsb_node.specs.Nodes.{IsBounds, AreInOrder, body, IsInPage}
use Rattle.version_model.specs.declared.bounds.Bounds.{Bounds}
use Rattle.tsb_node.specs.Columns.{BeginsAt, AreAscending}
use Rattle.version_model.specs.declared.child.Child.{Child}

-- a key node: its level, its keys, and its children
pub record KeyNodeInPage : Type 0 where
  pub level : ℕ
  pub bounds : Bounds
  pub children : List Child

-- a child in octets: its lowest key, and its page
unfoldable pub child_octets : Child → List ℕ
child_octets c = octets_of 40 c.low ++ octets_of 8 c.page

-- the lowest keys of children
abbrev pub lows_of : List Child → List ℕ
lows_of children = map (λ c. c.low) children

-- a key of 40 octets below the high one, and a page's number of eight
pub record IsChildEntry (b : Bounds) (c : Child) : Type 0 where
  pub low : c.low < 256 ^ 40
  pub high : IfSome b.high (λ n. c.low < n)
  pub page : c.page < 256 ^ 8

-- the children follow one another from the lowest key on, at all stamps, if bounds and children are such
pub record IsKeyNodeWith (AreBounds : Bounds → Type 0) (IsOneOf : Bounds → Child → Type 0) (k : KeyNodeInPage) : Type 0 where
  pub lowest : 2 ≤ k.level
  pub highest : k.level ≤ 7
  pub bounds : AreBounds k.bounds
  pub from_first : k.bounds.start ≡ 0
  pub each : AllByRecursion (IsOneOf k.bounds) k.children
  pub first : BeginsAt k.bounds.low (lows_of k.children)
  pub rising : AreAscending (lows_of k.children)
  pub fits : 48 * length k.children ≤ 16232

-- a key node: children of its keys
abbrev pub IsKeyNode : KeyNodeInPage → Type 0
IsKeyNode k = IsKeyNodeWith IsBounds IsChildEntry k

-- what a writer requires of a key node, besides its types
abbrev pub CanBeKeyNode : KeyNodeInPage → Type 0
CanBeKeyNode k = IsKeyNodeWith AreInOrder (λ b c. IfSome b.high (λ n. c.low < n)) k

-- the octets of a key node but for the last 32, of a unit: a node of kind 3
abbrev pub key_node_body : ℕ → KeyNodeInPage → List ℕ
key_node_body unit k = body unit 3 k.level (length k.children) k.bounds (flat_map child_octets k.children)

-- the octets are the page of the key node, of some unit
pub record IsWrittenKeyNodePage (node : KeyNodeInPage) (octets : List ℕ) : Type 0 where
  pub unit : ℕ
  pub valid : IsKeyNode node
  pub page : IsInPage node.bounds (key_node_body unit node) octets

-- the octets are the page of the key node, which is the same in each unit
pub record IsKeyNodePage (node : KeyNodeInPage) (octets : List ℕ) : Type 0 where
  pub page : IsWrittenKeyNodePage node octets
  pub known : IsKnownUnit page.unit
  pub valid : IsKeyNode node
  pub current : node.bounds.end ≡ None
