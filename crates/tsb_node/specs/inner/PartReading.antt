-- What the octets of the entries of a column represent.
use Rattle.std.specs.Prelude.{◌≡◌, ℕ, suc, ◌+◌, ◌*◌, ◌^◌, ◌⊎◌, ◌≤◌, ◌<◌, List, ◌++◌, length, Option, IfSome}
use Rattle.std.specs.List.{flat_map}
use Rattle.version_model.specs.declared.part.Part.{Part}
use Rattle.tsb_node.specs.declared.column.Current.{Current}
use Rattle.tsb_node.specs.declared.header.Header.{Header}
use Rattle.tsb_node.specs.Columns.{ColumnInPage, ColumnInBlock, IsColumn, IsOldColumn, IsPartEntry, part_octets, current_octets}
use Rattle.tsb_node.specs.inner.Rows.{AreRows}
use Rattle.tsb_node.specs.inner.Fields.{number_in}

-- where the i-th entry starts
abbrev pub start_at : ℕ → List ℕ → ℕ
start_at i bytes = number_in 16 (25 * i) bytes

-- the place is that of the last entry before the first one that starts after the stamp, but for the very first
pub record IsPlaceBefore (count : ℕ) (bytes : List ℕ) (stamp at : ℕ) : Type 0 where
  pub place : ℕ
  pub at_place : at ≡ 25 * place
  pub below : place < count
  pub passed : (start_at place bytes ≤ stamp) ⊎ (place ≡ 0)
  pub next : suc place < count → stamp < start_at (suc place) bytes

-- a part that starts before the end, if there is one
pub record IsPartBefore (end : Option ℕ) (p : Part) : Type 0 where
  pub entry : IsPartEntry p
  pub before : IfSome end (λ n. p.start < n)

-- the octets are exactly these parts, `count` of them, which follow one another from a stamp on, all before the end
abbrev pub AreParts : ℕ → Option ℕ → ℕ → List ℕ → List Part → Type 0
AreParts start end count bytes parts = AreRows part_octets (IsPartBefore end) (λ p. p.start) start count bytes parts

-- a current leaf of a stamp of 16 octets, and a page's number of eight
pub record IsCurrentEntry (c : Current) : Type 0 where
  pub start : c.start < 256 ^ 16
  pub page : c.page < 256 ^ 8

-- what is before the current leaf of a column, whose header this is
pub record IsCurrentOf (h : Header) (entries : List ℕ) (current : Current) (front : List ℕ) : Type 0 where
  pub kind : h.kind ≡ 2
  pub level : h.level ≡ 1
  pub from_first : h.bounds.start ≡ 0
  pub some : 0 < h.count
  pub entry : IsCurrentEntry current
  pub encoded : entries ≡ front ++ current_octets current
  pub alone : length front ≡ 0 → current.start ≡ h.bounds.start

-- the header and the octets of the entries are those of a column in a page
pub record IsColumnOf (h : Header) (entries : List ℕ) (column : ColumnInPage) : Type 0 where
  pub kind : h.kind ≡ 2
  pub level : h.level ≡ 1
  pub bounds : column.bounds ≡ h.bounds
  pub count : h.count ≡ length column.parts + 1
  pub valid : IsColumn column
  pub encoded : entries ≡ flat_map part_octets column.parts ++ current_octets column.current

-- the header and the octets of the entries are those of a column in a block
pub record IsOldColumnOf (h : Header) (entries : List ℕ) (column : ColumnInBlock) : Type 0 where
  pub kind : h.kind ≡ 2
  pub level : h.level ≡ 1
  pub bounds : column.bounds ≡ h.bounds
  pub count : h.count ≡ length column.parts
  pub valid : IsOldColumn column
  pub encoded : entries ≡ flat_map part_octets column.parts
