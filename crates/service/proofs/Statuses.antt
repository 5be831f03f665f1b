-- Exit statuses.
use Rattle.std.proofs.Common.{◌≡◌, ◌∙◌, ◌≤◌, ℕ, Bool, true, false, refl, sym, arith}
use Rattle.service.specs.Outputs.{OutputState}
use Rattle.service.specs.Running.{IsWrittenOut}
use Rattle.service.specs.Statuses.{code_of}
use Rattle.service.specs.declared.status.Status.{Status}
use Rattle.service.specs.declared.status.Status.TheVariants.{Done, Refused, Failed}

pub few : (s : Status) → code_of s ≤ 1
few Done = omega arith
few Refused = omega arith
few Failed = omega arith

-- a command whose exit status is 0 has done all
all_done : (s : Status) → code_of s ≡ 0 → s ≡ Done
all_done Done e = refl
all_done Refused e = absurd cc
all_done Failed e = absurd cc

-- and so has one after which all was written out with that exit status
pub done_where_0 : (ended : Status) (code : ℕ) (was now err_was err_now : OutputState) → IsWrittenOut ended code was now err_was err_now → code ≡ 0 → ended ≡ Done
done_where_0 ended code was now err_was err_now h none = by_failed now.failed refl
  where
    by_failed : (failed : Bool) → now.failed ≡ failed → ended ≡ Done
    by_failed true e = let one = h.failed e in absurd cc
    by_failed false e = all_done ended (sym (h.sound e) ∙ none)
