-- The column that a header and the octets of its entries are, in moments.
use Rattle.std.specs.Prelude.{◌≡◌, ℕ, List}
use Rattle.route_model.specs.Units.{moments_in}
use Rattle.tsb_node.specs.declared.header.Header.{Header}
use Rattle.tsb_node.specs.Scaling.{IsKnownUnit}
use Rattle.tsb_node.specs.Columns.{ColumnInPage, ColumnInBlock, IsColumn, IsOldColumn, scaled_column, scaled_old_column}
use Rattle.tsb_node.specs.inner.PartReading.{IsColumnOf, IsOldColumnOf}

-- the header and the octets of the entries are those of a column in a page, which is this one in moments
pub record IsColumnFrom (h : Header) (entries : List ℕ) (column : ColumnInPage) : Type 0 where
  pub known : IsKnownUnit h.unit
  pub as_written : ColumnInPage
  pub of : IsColumnOf h entries as_written
  pub scaled_is : column ≡ scaled_column (moments_in known.unit) as_written
  pub valid : IsColumn column

-- the same of a column in a block
pub record IsOldColumnFrom (h : Header) (entries : List ℕ) (column : ColumnInBlock) : Type 0 where
  pub known : IsKnownUnit h.unit
  pub as_written : ColumnInBlock
  pub of : IsOldColumnOf h entries as_written
  pub scaled_is : column ≡ scaled_old_column (moments_in known.unit) as_written
  pub valid : IsOldColumn column
