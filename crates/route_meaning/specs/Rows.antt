-- The rows of a question of a moment, over admissions in one order.
use Rattle.std.specs.Prelude.{ℕ, List, [], ◌∷◌, ◌≡◌, ◌<◌, ◌≤◌, Bool, Option, Some, None, take, length, nat_lt, Contains}
use Rattle.std.specs.List.{AllByRecursion}
use Rattle.route_model.specs.declared.address.Address.{Address}
use Rattle.route_model.specs.declared.peer.Peer.{Peer}
use Rattle.route_model.specs.Address.{family}
use Rattle.route_model.specs.Prefix.{IpPrefix, cleared_address}
use Rattle.route_model.specs.Keys.{key_number}
use Rattle.route_model.specs.Admission.{Admitted}
use Rattle.route_meaning.specs.declared.question.Select.{Select}
use Rattle.route_meaning.specs.declared.question.Select.TheVariants.{Route as OneRoute, ByPrefix, Covering, PeerTable, All as Everything}
use Rattle.route_meaning.specs.declared.question.Spot.{Spot}
use Rattle.route_meaning.specs.declared.question.Row.{Row}
use Rattle.route_meaning.specs.declared.question.RowsQuestion.{RowsQuestion}
use Rattle.route_meaning.specs.Merged.{Placed}
use Rattle.route_meaning.specs.Holds.{Holds}

-- the prefix contains the address: it is of that family, and its address is the address with all bits past the length cleared
abbrev pub Covers : IpPrefix → Address → Type 0
Covers x address = (family x.address ≡ family address) × (cleared_address x.length address ≡ x.address)

-- the question selects the prefix of the peer
abbrev pub Selects : Select → Peer → IpPrefix → Type 0
Selects (OneRoute p x) peer prefix = (peer ≡ p) × (prefix ≡ x)
Selects (ByPrefix x) peer prefix = prefix ≡ x
Selects (Covering address) peer prefix = Covers prefix address
Selects (PeerTable p) peer prefix = peer ≡ p
Selects Everything peer prefix = Unit {0}

-- the place of a row: rows stand in the order of these numbers, which is by collector, family, address and AS number of the peer, then by family, address and length of the prefix
abbrev pub row_number : Row → ℕ
row_number row = key_number row.peer row.prefix

-- the place of a spot in the same order
abbrev pub spot_number : Spot → ℕ
spot_number spot = key_number spot.peer spot.prefix

-- the place is strictly above the spot, or there is none
abbrev pub IsAbove : Option Spot → ℕ → Type 0
IsAbove None n = Unit {0}
IsAbove (Some spot) n = spot_number spot < n

-- the place is not above the spot, or there is none
abbrev pub IsWithin : Option Spot → ℕ → Type 0
IsWithin None n = Unit {0}
IsWithin (Some spot) n = n ≤ spot_number spot

-- a range from above low up to high: low is not above high
abbrev pub IsRange : Option Spot → Option Spot → Type 0
IsRange None high = Unit {0}
IsRange (Some low) high = IsWithin high (spot_number low)

-- each row is below all that follow it
abbrev pub AreRising : List Row → Type 0
AreRising [] = Unit {0}
AreRising (row ∷ rows) = AllByRecursion (λ next. row_number row < row_number next) rows × AreRising rows

-- a row that holds at the moment, is selected, and lies above low and not above high
pub record IsRow (ps : List (Placed Admitted)) (moment : ℕ) (select : Select) (low high : Option Spot) (row : Row) : Type 0 where
  pub selected : Selects select row.peer row.prefix
  pub above : IsAbove low (row_number row)
  pub within : IsWithin high (row_number row)
  pub holds : Holds ps moment row.peer row.prefix row.route

-- all these rows and no others, in their order
pub record AreRows (ps : List (Placed Admitted)) (moment : ℕ) (select : Select) (low high : Option Spot) (rows : List Row) : Type 0 where
  pub rising : AreRising rows
  pub only : AllByRecursion (IsRow ps moment select low high) rows
  pub each : (row : Row) → IsRow ps moment select low high row → Contains rows row

-- the maximum number of rows in an answer
abbrev pub most_rows : ℕ
most_rows = 256

-- the answer: the first rows strictly above the spot that the question names, and whether more follow
pub record IsAnswer (ps : List (Placed Admitted)) (q : RowsQuestion) (rows : List Row) (more : Bool) : Type 0 where
  pub all : List Row
  pub are : AreRows ps q.moment q.select q.after None all
  pub first : rows ≡ take most_rows all
  pub rest : more ≡ nat_lt most_rows (length all)
