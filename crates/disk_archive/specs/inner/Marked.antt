-- How a mark is refused.
use Rattle.page_journal.specs.declared.error.UseError.{UseError}
use Rattle.page_journal.specs.declared.error.UseError.TheVariants as uses
use Rattle.disk_archive.specs.declared.mark_error.MarkError.{MarkError}
use Rattle.disk_archive.specs.declared.mark_error.MarkError.TheVariants as marks

-- a refusal of the commit, as it is reported for a mark
abbrev pub mark_of_use : UseError → MarkError
mark_of_use uses.Fault = marks.Fault
mark_of_use uses.NeedsRecovery = marks.NeedsRecovery
