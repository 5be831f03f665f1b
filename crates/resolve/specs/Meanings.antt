-- What the records of a feed mean, one after another.
use Rattle.std.specs.Prelude.{◌≡◌, ℕ, List, length, take, Option, Some, Result, Err, slice_get}
use Rattle.route_model.specs.Admission.{Admitted}
use Rattle.mrt_records.specs.Values.{Reported}
use Rattle.mrt_records.specs.declared.neighbor.Neighbor.{Neighbor}
use Rattle.resolve.specs.Tables.{LastTable}
use Rattle.resolve.specs.Records.{Gives}
use Rattle.resolve.specs.declared.fault.ResolveFault.{ResolveFault}
use Rattle.resolve.specs.declared.fault.ResolveFault.TheVariants as faults
use Rattle.resolve.specs.declared.without_hop.WithoutHop.{WithoutHop}

-- the record that comes after these gives this under their last peer table, under this rule for entries without a next hop; out of memory is no meaning
pub record IsMeaning (rule : WithoutHop) (c : ℕ) (before : List Reported) (next : Reported) (result : Result (Option Admitted) ResolveFault) : Type 0 where
  pub table : Option (List Neighbor)
  pub last : LastTable before table
  pub gives : Gives rule c table next result
  pub lacking : result ≡ Err faults.OutOfMemory → ⊥

-- what the records of a feed of the collector c mean: one result for each
pub record Means (rule : WithoutHop) (c : ℕ) (records : List Reported) (results : List (Result (Option Admitted) ResolveFault)) : Type 0 where
  pub count : length results ≡ length records
  pub each : (n : ℕ) (next : Reported) (result : Result (Option Admitted) ResolveFault)
      → slice_get records n ≡ Some next → slice_get results n ≡ Some result → IsMeaning rule c (take n records) next result
