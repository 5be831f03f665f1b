-- Where a column has its versions at a stamp.
use Rattle.std.specs.Prelude.{◌≡◌, ℕ, suc, ◌≤◌, ◌<◌, List, ◌++◌, slice_get, Some}
use Rattle.version_model.specs.declared.part.Part.{Part}
use Rattle.tsb_node.specs.declared.column.Spot.{Spot}
use Rattle.tsb_node.specs.declared.column.Spot.TheVariants.{InPage, InBlock}
use Rattle.tsb_node.specs.declared.column.PartAt.{PartAt}
use Rattle.version_model.specs.Blocks.{start_or}
use Rattle.tsb_node.specs.Scaling.{IsInMoments}
use Rattle.tsb_node.specs.Columns.{ColumnInPage, ColumnInBlock, IsColumn, IsOldColumn, column_body, old_column_body, scaled_column, scaled_old_column}

-- the octets begin as the page of the column does, its times in some unit
pub record BeginsAsWrittenColumn (column : ColumnInPage) (octets : List ℕ) : Type 0 where
  pub unit : ℕ
  pub valid : IsColumn column
  pub last : List ℕ
  pub encoded : octets ≡ column_body unit column ++ last

-- the octets begin as the block of the column does, its times in some unit
pub record BeginsAsWrittenOldColumn (column : ColumnInBlock) (octets : List ℕ) : Type 0 where
  pub unit : ℕ
  pub valid : IsOldColumn column
  pub last : List ℕ
  pub encoded : octets ≡ old_column_body unit column ++ last

-- the octets begin as the page of the column does
pub record BeginsAsColumn (column : ColumnInPage) (octets : List ℕ) : Type 0 where
  pub as_written : ColumnInPage
  pub begins : BeginsAsWrittenColumn as_written octets
  pub moments : IsInMoments scaled_column begins.unit as_written column
  pub valid : IsColumn column

-- the octets begin as the block of the column does
pub record BeginsAsOldColumn (column : ColumnInBlock) (octets : List ℕ) : Type 0 where
  pub as_written : ColumnInBlock
  pub begins : BeginsAsWrittenOldColumn as_written octets
  pub moments : IsInMoments scaled_old_column begins.unit as_written column
  pub valid : IsOldColumn column

-- the part, with its stamps, in which the stamp lies, of parts that go on up to an end
pub record IsPartAt (parts : List Part) (end stamp : ℕ) (found : PartAt) : Type 0 where
  pub place : ℕ
  pub at : slice_get parts place ≡ Some found.part
  pub to_end : found.end ≡ start_or end (slice_get parts (suc place))
  pub start : found.part.start ≤ stamp
  pub before : stamp < found.end

-- the current leaf if the stamp isn't before its start, else the part in which it lies
abbrev pub IsSpot : ColumnInPage → ℕ → Spot → Type 0
IsSpot column stamp (InPage current) = (current ≡ column.current) × (column.current.start ≤ stamp)
IsSpot column stamp (InBlock found) = IsPartAt column.parts column.current.start stamp found
