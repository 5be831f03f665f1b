-- How many entries of a feed's records are left out.
use Rattle.std.proofs.Common.{◌≡◌, ℕ, ◌+◌, List, [], ◌∷◌, ◌++◌, length, Option, Result, arith}
use Rattle.route_model.specs.Admission.{Admitted}
use Rattle.mrt_records.specs.Values.{Reported}
use Rattle.resolve.specs.Records.{counted, left_out}
use Rattle.resolve.specs.declared.fault.ResolveFault.{ResolveFault}
use Rattle.service.specs.FeedTexts.{capped}
use Rattle.service.specs.Feeds.{entries_lost}

lost_snoc : (records : List Reported) (meanings : List (Result (Option Admitted) ResolveFault)) (r : Reported) (m : Result (Option Admitted) ResolveFault) → length meanings ≡ length records
    → entries_lost (records ++ r ∷ []) (meanings ++ m ∷ []) ≡ entries_lost records meanings + left_out r m
lost_snoc [] [] r m same = omega arith
lost_snoc [] (y ∷ meanings) r m same = absurd (omega (arith, same))
lost_snoc (x ∷ records) [] r m same = absurd (omega (arith, same))
lost_snoc (x ∷ records) (y ∷ meanings) r m same =
    let ih = lost_snoc records meanings r m (omega (arith, same)) in
    omega (arith, ih)

-- with one more record
pub lost_more : (records : List Reported) (meanings : List (Result (Option Admitted) ResolveFault)) (r : Reported) (m : Result (Option Admitted) ResolveFault) (was now : ℕ) → length meanings ≡ length records
    → was ≡ capped (entries_lost records meanings) → now ≡ counted was (left_out r m) → now ≡ capped (entries_lost (records ++ r ∷ []) (meanings ++ m ∷ []))
lost_more records meanings r m was now same before more =
    let sum = lost_snoc records meanings r m same in
    omega (arith, sum, before, more)
