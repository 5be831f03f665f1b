-- A leaf: the versions of its keys.
use Rattle.std.specs.Prelude.{◌≡◌, ℕ, ◌<◌, ◌≤◌, ◌^◌, List, [], ◌∷◌, ◌++◌, length, map, Option, Some, None, IfSome, IsSome}
use Rattle.std.specs.List.{flat_map, AllByRecursion}
use Rattle.route_model.specs.Octets.{AreOctets}
use Rattle.tsb_node.specs.Numbers.{octets_of}
use Rattle.version_model.specs.Versions.{Version, IsRising}
use Rattle.tsb_node.specs.Scaling.{scaled_bounds, scaled_version, IsInMoments}
use Rattle.tsb_node.specs.Nodes.{IsBounds, AreInOrder, body, IsInPage, IsInBlock}
use Rattle.version_model.specs.declared.bounds.Bounds.{Bounds}

-- a leaf: its keys and stamps, and its versions
pub record LeafNode : Type 0 where
  pub bounds : Bounds
  pub versions : List Version

-- 1 for a value, 0 for an end
abbrev pub tag : Option (List ℕ) → ℕ
tag None = 0
tag (Some value) = 1

-- the octets of a value; an end has none
abbrev pub value_encoded : Option (List ℕ) → List ℕ
value_encoded None = []
value_encoded (Some value) = value

-- a version in octets: key, stamp, tag, length, value
unfoldable pub entry : Version → List ℕ
entry v = octets_of 40 v.key ++ octets_of 16 v.stamp ++ (tag v.value ∷ []) ++ octets_of 2 (length (value_encoded v.value)) ++ value_encoded v.value

-- a version of one of these keys, with a value of at most 3,072 octets: what a writer requires of a version, besides its types
pub record IsShortOf (b : Bounds) (v : Version) : Type 0 where
  pub low : b.low ≤ v.key
  pub high : IfSome b.high (λ n. v.key < n)
  pub size : length (value_encoded v.value) ≤ 3072

-- the same, with a key of 40 octets, a stamp of 16, and a value of octets
pub record IsVersionOf (b : Bounds) (v : Version) : Type 0 where
  pub short : IsShortOf b v
  pub key : v.key < 256 ^ 40
  pub stamp : v.stamp < 256 ^ 16
  pub octets : AreOctets (value_encoded v.value)

-- the octets of all entries
unfoldable pub entries : List Version → List ℕ
entries versions = flat_map entry versions

-- versions in the order of their stamps, in at most 16,232 octets, if bounds and versions are such
pub record IsLeafWith (AreBounds : Bounds → Type 0) (IsOneOf : Bounds → Version → Type 0) (leaf : LeafNode) : Type 0 where
  pub bounds : AreBounds leaf.bounds
  pub each : AllByRecursion (IsOneOf leaf.bounds) leaf.versions
  pub rising : IsRising leaf.versions
  pub fits : length (entries leaf.versions) ≤ 16232

-- a leaf: versions of its keys
abbrev pub IsLeaf : LeafNode → Type 0
IsLeaf leaf = IsLeafWith IsBounds IsVersionOf leaf

-- what a writer requires of a leaf, besides its types
abbrev pub CanBeLeaf : LeafNode → Type 0
CanBeLeaf leaf = IsLeafWith AreInOrder IsShortOf leaf

-- the octets of a leaf but for the last 32, its times in a unit: a node of kind 1 and level 0
abbrev pub leaf_body : ℕ → LeafNode → List ℕ
leaf_body unit leaf = body unit 1 0 (length leaf.versions) leaf.bounds (entries leaf.versions)

-- the octets are the page of the leaf, its times in some unit
pub record IsWrittenLeafPage (leaf : LeafNode) (octets : List ℕ) : Type 0 where
  pub unit : ℕ
  pub valid : IsLeaf leaf
  pub page : IsInPage leaf.bounds (leaf_body unit leaf) octets

-- the octets are the block of the leaf, its times in some unit
pub record IsWrittenLeafBlock (leaf : LeafNode) (octets : List ℕ) : Type 0 where
  pub unit : ℕ
  pub valid : IsLeaf leaf
  pub block : IsInBlock leaf.bounds (leaf_body unit leaf) octets

-- the octets begin as a page or a block of the leaf does, its times in some unit
pub record BeginsAsWrittenLeaf (leaf : LeafNode) (octets : List ℕ) : Type 0 where
  pub unit : ℕ
  pub valid : IsLeaf leaf
  pub last : List ℕ
  pub encoded : octets ≡ leaf_body unit leaf ++ last

-- the leaf whose times are k times those of this one
abbrev pub scaled_leaf : ℕ → LeafNode → LeafNode
scaled_leaf k leaf = record { bounds = scaled_bounds k leaf.bounds; versions = map (scaled_version k) leaf.versions }

-- the octets are the page of the leaf
pub record IsLeafPage (leaf : LeafNode) (octets : List ℕ) : Type 0 where
  pub as_written : LeafNode
  pub page : IsWrittenLeafPage as_written octets
  pub moments : IsInMoments scaled_leaf page.unit as_written leaf
  pub valid : IsLeaf leaf
  pub current : leaf.bounds.end ≡ None

-- the octets are the block of the leaf
pub record IsLeafBlock (leaf : LeafNode) (octets : List ℕ) : Type 0 where
  pub as_written : LeafNode
  pub block : IsWrittenLeafBlock as_written octets
  pub moments : IsInMoments scaled_leaf block.unit as_written leaf
  pub valid : IsLeaf leaf
  pub ended : IsSome leaf.bounds.end

-- the octets begin as a page or a block of the leaf does
pub record BeginsAsLeaf (leaf : LeafNode) (octets : List ℕ) : Type 0 where
  pub as_written : LeafNode
  pub begins : BeginsAsWrittenLeaf as_written octets
  pub moments : IsInMoments scaled_leaf begins.unit as_written leaf
  pub valid : IsLeaf leaf
