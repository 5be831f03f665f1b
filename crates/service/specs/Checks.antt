-- What is printed for a check of an archive.
use Rattle.std.specs.Prelude.{◌≡◌, ◌⊎◌, true, false, ℕ, List, ◌++◌, codes, decimal}
use Rattle.route_meaning.specs.History.{History, settled}
use Rattle.archive_calls.specs.Does.{IsUnchecked, applied_changes}
use Rattle.archive_calls.specs.declared.refusal.Trouble.{Trouble}
use Rattle.route_text.specs.MomentText.{moment_text}
use Rattle.service.specs.Faults.{of_trouble}
use Rattle.service.specs.Outputs.{OutputState, Reports}
use Rattle.service.specs.Refusals.{line_end, ReportsError, ReportsFailure}
use Rattle.service.specs.declared.status.Status.{Status}
use Rattle.service.specs.declared.status.Status.TheVariants as statuses

-- this many changes are applied, and this is the settled watermark
abbrev pub checked_line : ℕ → ℕ → List ℕ
checked_line changes settled = codes "ok|" ++ decimal changes ++ codes "|" ++ moment_text settled ++ line_end

-- how many changes of the history are applied was printed, and its settled watermark
abbrev pub ReportsCount : History → OutputState → OutputState → Type 0
ReportsCount h was now = Reports was now (checked_line (applied_changes h) (settled h))

-- standard error has why the changes aren't counted, and standard output nothing
pub record ReportsUnchecked (h : History) (was now err_was err_now : OutputState) : Type 0 where
  pub trouble : Trouble
  pub why : IsUnchecked h trouble
  pub unwritten : now ≡ was
  pub reported : ReportsError (of_trouble trouble) err_was err_now

-- How a check ended, by its status. It is `Failed` if not all could be written: if that was so before, nothing is done; else a
-- front of what should have been written was, and standard error shows a write to standard output that failed.
abbrev pub IsCheckEnd : History → Status → OutputState → OutputState → OutputState → OutputState → Type 0
IsCheckEnd h statuses.Done was now err_was err_now = ReportsCount h was now × (now.failed ≡ false) × (err_now.failed ≡ false) × (err_now ≡ err_was)
IsCheckEnd h statuses.Refused was now err_was err_now = ReportsUnchecked h was now err_was err_now × (now.failed ≡ false) × (err_now.failed ≡ false)
IsCheckEnd h statuses.Failed was now err_was err_now =
    ((now.failed ≡ true) ⊎ (err_now.failed ≡ true))
    × (((was.failed ≡ true) × (now ≡ was) × (err_now ≡ err_was))
    ⊎ ((was.failed ≡ false) × ((ReportsCount h was now × ReportsFailure now.failed err_was err_now) ⊎ ReportsUnchecked h was now err_was err_now)))
