-- A feed that goes on where an earlier one of the same file ended: its first admissions, which were offered then, are dropped.
use Rattle.std.specs.Prelude.{◌≡◌, ℕ, zero, suc, Bool, true, false, List, [], ◌∷◌, Option, Some, None, Result, Ok, Err}
use Rattle.route_model.specs.Admission.{Admitted}
use Rattle.route_meaning.specs.History.{Intake}
use Rattle.mrt_records.specs.Values.{Reported}
use Rattle.resolve.specs.Meanings.{Means}
use Rattle.resolve.specs.declared.without_hop.WithoutHop.{WithoutHop}
use Rattle.resolve.specs.declared.fault.ResolveFault.{ResolveFault}

-- what is taken of a record that means this, if this many admissions are still dropped: an admission that is dropped counts as none
abbrev pub taken_at : ℕ → Result (Option Admitted) ResolveFault → Result (Option Admitted) ResolveFault
taken_at n (Err fault) = Err fault
taken_at n (Ok None) = Ok None
taken_at zero (Ok (Some a)) = Ok (Some a)
taken_at (suc n) (Ok (Some a)) = Ok None

-- how many are still dropped after it
abbrev pub left_after : ℕ → Result (Option Admitted) ResolveFault → ℕ
left_after n (Err fault) = n
left_after n (Ok None) = n
left_after zero (Ok (Some a)) = zero
left_after (suc n) (Ok (Some a)) = n

-- what is taken of records that mean this, if this many of their first admissions are dropped
abbrev pub without_first : ℕ → List (Result (Option Admitted) ResolveFault) → List (Result (Option Admitted) ResolveFault)
without_first n [] = []
without_first n (m ∷ meanings) = taken_at n m ∷ without_first (left_after n m) meanings

-- how many are still dropped after them
abbrev pub left_over : ℕ → List (Result (Option Admitted) ResolveFault) → ℕ
left_over n [] = n
left_over n (m ∷ meanings) = left_over (left_after n m) meanings

-- what is taken of these records of a feed, if this many of their first admissions are dropped
pub record MeansFrom (rule : WithoutHop) (c dropped : ℕ) (records : List Reported) (results : List (Result (Option Admitted) ResolveFault)) : Type 0 where
  pub meanings : List (Result (Option Admitted) ResolveFault)
  pub means : Means rule c records meanings
  pub taken : results ≡ without_first dropped meanings

-- how many admissions a feed drops that goes on after what was offered of a collector, or that doesn't
abbrev pub dropped_where : Bool → Intake → ℕ
dropped_where true i = i.offered
dropped_where false i = 0
