-- Why a transaction isn't committed.
use Rattle.std.specs.Prelude.{◌≡◌, ⊤, Bool, true, false}
use Rattle.page_journal.specs.declared.error.UseError.{UseError}
use Rattle.page_journal.specs.declared.error.UseError.TheVariants as uses
use Rattle.disk_archive.specs.declared.error.AdmitError.{AdmitError}
use Rattle.disk_archive.specs.declared.error.AdmitError.TheVariants as admits

-- a refusal of the commit, as it is reported for a batch
abbrev pub admit_of_use : UseError → AdmitError
admit_of_use uses.Fault = admits.Fault
admit_of_use uses.NeedsRecovery = admits.NeedsRecovery

-- the reasons for which the pages after a batch aren't shown, over a journal that must be opened again or needn't
abbrev pub PlanRefusal : Bool → AdmitError → Type 0
PlanRefusal down admits.NeedsRecovery = down ≡ true
PlanRefusal down admits.NoCollector = ⊥
PlanRefusal down admits.BatchTooLarge = ⊥
PlanRefusal down admits.CounterFull = ⊥
PlanRefusal down admits.IntakeFull = ⊥
PlanRefusal down (admits.BadNode page) = page ≡ 0
PlanRefusal down admits.Fault = down ≡ false
PlanRefusal down admits.OutOfMemory = ⊤
