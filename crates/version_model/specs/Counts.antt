-- How versions are counted when every node of a tree is read, so that each counts once.
use Rattle.std.specs.Prelude.{◌≡◌, ℕ, suc, ◌+◌, ◌<◌, ◌≤◌, ◌⊎◌, ◌&&◌, Bool, List, [], ◌∷◌, length, filter, Option, Some, slice_get, nat_le, nat_lt}
use Rattle.version_model.specs.declared.part.Part.{Part}
use Rattle.version_model.specs.declared.part.PartKind.TheVariants.{LeafBlock, ColumnBlock}
use Rattle.version_model.specs.declared.child.Child.{Child}
use Rattle.version_model.specs.Versions.{Version, IsRising}
use Rattle.version_model.specs.Ranges.{Range, stamp_end}
use Rattle.version_model.specs.Blocks.{BlockNode, OldLeaf, OldColumn, AreParts, IsWider, range_at}
use Rattle.version_model.specs.Pages.{Keys, PageNode, CurrentLeaf, ColumnNode, KeyNode, AreChildren, child_keys, past_range, current_range}

-- is it of the range, by its key and by its stamp?
abbrev pub is_within : Range → Version → Bool
is_within r v = (nat_le r.low v.key && nat_lt v.key r.high) && (nat_le r.start v.stamp && nat_lt v.stamp r.end)

-- how many of the versions are of the range
abbrev pub count_in : List Version → Range → ℕ
count_in versions r = length (filter (is_within r) versions)

-- the sum of numbers
abbrev pub sum_of : List ℕ → ℕ
sum_of [] = 0
sum_of (n ∷ ns) = n + sum_of ns

-- Every block of a part represents a node that may stand there, and n is how many versions of the range they have: a leaf its own that are
-- of the range, so that no copy from before the start counts; a column those of its parts.
pub data PartCounts (blocks : ℕ → Option BlockNode) : Range → Part → ℕ → Type 0 where
  leaf_counts : (r : Range) (part : Part) (wide : Range) (versions : List Version) → part.kind ≡ LeafBlock → blocks part.block ≡ Some (OldLeaf wide versions) → IsWider wide r → IsRising versions
      → PartCounts blocks r part (count_in versions r)
  parts_count : (r : Range) (part : Part) (wide : Range) (parts : List Part) (ns : List ℕ) → part.kind ≡ ColumnBlock → blocks part.block ≡ Some (OldColumn wide parts) → IsWider wide r → AreParts r parts part.block
      → length ns ≡ length parts
      → ((i : ℕ) (inner : Part) (n : ℕ) → slice_get parts i ≡ Some inner → slice_get ns i ≡ Some n → PartCounts blocks (range_at r parts i inner) inner n)
      → PartCounts blocks r part (sum_of ns)

-- The same of a page: a column has the versions of its parts and of its current leaf, a key node those of its children.
pub data NodeCounts (nodes : ℕ → Option PageNode) (limit : ℕ) (blocks : ℕ → Option BlockNode) (next : ℕ) : ℕ → Keys → ℕ → ℕ → Type 0 where
  column_counts : (k : Keys) (page : ℕ) (parts : List Part) (current start : ℕ) (versions : List Version) (ns : List ℕ) → page < limit → current < limit → start ≤ stamp_end
      → nodes page ≡ Some (ColumnNode k parts start current) → nodes current ≡ Some (CurrentLeaf k start versions) → IsRising versions
      → ((parts ≡ []) × (start ≡ 0)) ⊎ AreParts (past_range k start) parts next
      → length ns ≡ length parts
      → ((i : ℕ) (inner : Part) (n : ℕ) → slice_get parts i ≡ Some inner → slice_get ns i ≡ Some n → PartCounts blocks (range_at (past_range k start) parts i inner) inner n)
      → NodeCounts nodes limit blocks next 1 k page (sum_of ns + count_in versions (current_range k start))
  children_count : (level : ℕ) (k : Keys) (page : ℕ) (children : List Child) (ns : List ℕ) → page < limit → nodes page ≡ Some (KeyNode (suc level) k children) → AreChildren k children
      → length ns ≡ length children
      → ((i : ℕ) (child : Child) (n : ℕ) → slice_get children i ≡ Some child → slice_get ns i ≡ Some n → NodeCounts nodes limit blocks next level (child_keys k children i child) child.page n)
      → NodeCounts nodes limit blocks next (suc level) k page (sum_of ns)

-- some keys at all stamps
abbrev pub all_stamps : Keys → Range
all_stamps k = record { low = k.low; high = k.high; start = 0; end = stamp_end }
