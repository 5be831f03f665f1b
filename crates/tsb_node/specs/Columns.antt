-- A column: the parts of its past, and in a page its current leaf.
use Rattle.std.specs.Prelude.{◌≡◌, ℕ, ◌+◌, ◌*◌, ◌<◌, ◌≤◌, ◌^◌, List, [], ◌∷◌, ◌++◌, length, map, None, IfSome, IsSome}
use Rattle.std.specs.List.{flat_map, AllByRecursion}
use Rattle.tsb_node.specs.Numbers.{octets_of}
use Rattle.tsb_node.specs.Scaling.{scaled, scaled_bounds, IsInMoments}
use Rattle.tsb_node.specs.Nodes.{IsBounds, AreInOrder, body, IsInPage, IsInBlock}
use Rattle.version_model.specs.declared.bounds.Bounds.{Bounds}
use Rattle.version_model.specs.declared.part.PartKind.{PartKind}
use Rattle.version_model.specs.declared.part.PartKind.TheVariants.{LeafBlock, ColumnBlock}
use Rattle.version_model.specs.declared.part.Part.{Part}
use Rattle.tsb_node.specs.declared.column.Current.{Current}

-- a column in a page: the parts of its past, and its current leaf
pub record ColumnInPage : Type 0 where
  pub bounds : Bounds
  pub parts : List Part
  pub current : Current

-- a column in a block: the parts alone
pub record ColumnInBlock : Type 0 where
  pub bounds : Bounds
  pub parts : List Part

-- 1 for a leaf block, 2 for a column block
abbrev pub part_kind : PartKind → ℕ
part_kind LeafBlock = 1
part_kind ColumnBlock = 2

-- a place in a column: start stamp, kind, number
abbrev pub place_octets : ℕ → ℕ → ℕ → List ℕ
place_octets start kind number = octets_of 16 start ++ (kind ∷ []) ++ octets_of 8 number

-- a part in octets
unfoldable pub part_octets : Part → List ℕ
part_octets p = place_octets p.start (part_kind p.kind) p.block

-- the current leaf in octets: kind 0, and its page
unfoldable pub current_octets : Current → List ℕ
current_octets c = place_octets c.start 0 c.page

-- each number is below those that follow
abbrev pub AreAscending : List ℕ → Type 0
AreAscending [] = Unit {0}
AreAscending (n ∷ rest) = AllByRecursion (λ later. n < later) rest × AreAscending rest

-- the list begins with this number
abbrev pub BeginsAt : ℕ → List ℕ → Type 0
BeginsAt start [] = ⊥
BeginsAt start (n ∷ rest) = n ≡ start

-- the stamps where parts start
abbrev pub starts_of : List Part → List ℕ
starts_of parts = map (λ p. p.start) parts

-- a stamp of 16 octets, and a block's number of eight
pub record IsPartEntry (p : Part) : Type 0 where
  pub start : p.start < 256 ^ 16
  pub block : p.block < 256 ^ 8

-- from stamp 0 on the parts follow one another, then the current leaf: at most 649 entries
pub record PartsFollow (c : ColumnInPage) : Type 0 where
  pub from_first : c.bounds.start ≡ 0
  pub first : BeginsAt c.bounds.start (starts_of c.parts ++ c.current.start ∷ [])
  pub rising : AreAscending (starts_of c.parts ++ c.current.start ∷ [])
  pub fits : 25 * (length c.parts + 1) ≤ 16232

-- from the start on the parts follow one another, all before the end: at most 649
pub record OldPartsFollow (c : ColumnInBlock) : Type 0 where
  pub first : BeginsAt c.bounds.start (starts_of c.parts)
  pub rising : AreAscending (starts_of c.parts)
  pub before_end : IfSome c.bounds.end (λ end. AllByRecursion (λ p. p.start < end) c.parts)
  pub fits : 25 * length c.parts ≤ 16232

-- a column in a page, whose numbers have their octets
pub record IsColumn (c : ColumnInPage) : Type 0 where
  pub bounds : IsBounds c.bounds
  pub each : AllByRecursion IsPartEntry c.parts
  pub current_start : c.current.start < 256 ^ 16
  pub current_page : c.current.page < 256 ^ 8
  pub follow : PartsFollow c

-- a column in a block, whose numbers have their octets
pub record IsOldColumn (c : ColumnInBlock) : Type 0 where
  pub bounds : IsBounds c.bounds
  pub each : AllByRecursion IsPartEntry c.parts
  pub follow : OldPartsFollow c

-- what a writer requires of a column, besides its types
pub record CanBeColumn (c : ColumnInPage) : Type 0 where
  pub bounds : AreInOrder c.bounds
  pub follow : PartsFollow c

-- what a writer requires of a column that goes into a block, besides its types
pub record CanBeOldColumn (c : ColumnInBlock) : Type 0 where
  pub bounds : AreInOrder c.bounds
  pub follow : OldPartsFollow c

-- the octets of a column's page but for the last 32, its times in a unit: a node of kind 2 and level 1, the current leaf after the parts
abbrev pub column_body : ℕ → ColumnInPage → List ℕ
column_body unit c = body unit 2 1 (length c.parts + 1) c.bounds (flat_map part_octets c.parts ++ current_octets c.current)

-- the octets of a column's block but for the last 32, its times in a unit
abbrev pub old_column_body : ℕ → ColumnInBlock → List ℕ
old_column_body unit c = body unit 2 1 (length c.parts) c.bounds (flat_map part_octets c.parts)

-- the octets are the page of the column, its times in some unit
pub record IsWrittenColumnPage (column : ColumnInPage) (octets : List ℕ) : Type 0 where
  pub unit : ℕ
  pub valid : IsColumn column
  pub page : IsInPage column.bounds (column_body unit column) octets

-- the octets are the block of the column, its times in some unit
pub record IsWrittenColumnBlock (column : ColumnInBlock) (octets : List ℕ) : Type 0 where
  pub unit : ℕ
  pub valid : IsOldColumn column
  pub block : IsInBlock column.bounds (old_column_body unit column) octets

-- a part whose times are k times those of this one
abbrev pub scaled_part : ℕ → Part → Part
scaled_part k p = record { start = scaled k p.start; kind = p.kind; block = p.block }

-- the current part, likewise
abbrev pub scaled_current : ℕ → Current → Current
scaled_current k c = record { start = scaled k c.start; page = c.page }

-- a column of a page, likewise
abbrev pub scaled_column : ℕ → ColumnInPage → ColumnInPage
scaled_column k c = record { bounds = scaled_bounds k c.bounds; parts = map (scaled_part k) c.parts; current = scaled_current k c.current }

-- a column of a block, likewise
abbrev pub scaled_old_column : ℕ → ColumnInBlock → ColumnInBlock
scaled_old_column k c = record { bounds = scaled_bounds k c.bounds; parts = map (scaled_part k) c.parts }

-- the octets are the page of the column
pub record IsColumnPage (column : ColumnInPage) (octets : List ℕ) : Type 0 where
  pub as_written : ColumnInPage
  pub page : IsWrittenColumnPage as_written octets
  pub moments : IsInMoments scaled_column page.unit as_written column
  pub valid : IsColumn column
  pub current : column.bounds.end ≡ None

-- the octets are the block of the column
pub record IsColumnBlock (column : ColumnInBlock) (octets : List ℕ) : Type 0 where
  pub as_written : ColumnInBlock
  pub block : IsWrittenColumnBlock as_written octets
  pub moments : IsInMoments scaled_old_column block.unit as_written column
  pub valid : IsOldColumn column
  pub ended : IsSome column.bounds.end
