-- Columns whose leaf, or whose past, becomes a block.
use Rattle.std.specs.Prelude.{◌≡◌, ℕ, ◌≤◌, List, [], ◌∷◌, ◌++◌, length, Option, Some}
use Rattle.version_model.specs.declared.bounds.Bounds.{Bounds}
use Rattle.version_model.specs.declared.part.Part.{Part}
use Rattle.version_model.specs.declared.part.PartKind.TheVariants.{LeafBlock, ColumnBlock}
use Rattle.version_model.specs.Versions.{Version}
use Rattle.version_model.specs.Ranges.{until}
use Rattle.version_model.specs.LeafVersions.{LeafRepresents}
use Rattle.version_model.specs.Blocks.{BlockNode, OldLeaf, OldColumn}
use Rattle.version_model.specs.Pages.{Keys, PartsRepresent, past_range, current_range}
use Rattle.tsb_node.specs.Nodes.{AreInOrder}
use Rattle.tsb_node.specs.Columns.{AreAscending, BeginsAt, starts_of}

-- a column's parts and its current leaf have the versions of its keys: the leaf those from its start on, the parts those before
pub record ColumnHas (blocks : ℕ → Option BlockNode) (next : ℕ) (all : List Version) (keys : Keys) (start : ℕ) (parts : List Part) (leaf : List Version) : Type 0 where
  pub shows : LeafRepresents all (current_range keys start) leaf
  pub past : PartsRepresent blocks next all keys start parts

-- the leaf of these keys that begins at `start`, as it was until a later stamp, in a block
abbrev pub old_leaf : Keys → ℕ → ℕ → List Version → BlockNode
old_leaf keys start at leaf = OldLeaf (until (current_range keys start) at) leaf

-- the part of a column's past that is the leaf in this block
abbrev pub leaf_part : ℕ → ℕ → Part
leaf_part start block = record { start = start; kind = LeafBlock; block = block }

-- all parts of the past of these keys, up to a stamp, in a block
abbrev pub old_column : Keys → ℕ → List Part → BlockNode
old_column keys at parts = OldColumn (past_range keys at) parts

-- the part of a column's past that is the column in this block: the whole past
abbrev pub column_part : ℕ → Part
column_part block = record { start = 0; kind = ColumnBlock; block = block }

-- bounds with an end
abbrev pub up_to : Bounds → ℕ → Bounds
up_to b at = record { low = b.low; high = b.high; start = b.start; end = Some at }

-- parts that can become one block: at least one, 649 at most, which follow one another from stamp 0 on up to a stamp
pub record AreWholePast (b : Bounds) (parts : List Part) (at : ℕ) : Type 0 where
  pub bounds : AreInOrder (up_to b at)
  pub from_first : b.start ≡ 0
  pub first : BeginsAt 0 (starts_of parts)
  pub rising : AreAscending (starts_of parts ++ at ∷ [])
  pub few : length parts ≤ 649
