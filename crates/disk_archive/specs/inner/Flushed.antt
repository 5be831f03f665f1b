-- How a step of flushing is refused.
use Rattle.disk_archive.specs.declared.flush_error.FlushError.{FlushError}
use Rattle.disk_archive.specs.declared.flush_error.FlushError.TheVariants as flushes
use Rattle.page_journal.specs.declared.error.UseError.{UseError}
use Rattle.page_journal.specs.declared.error.UseError.TheVariants as uses

-- a refusal of the pool, as it is reported for a step of flushing
abbrev pub flush_of_use : UseError → FlushError
flush_of_use uses.Fault = flushes.Fault
flush_of_use uses.NeedsRecovery = flushes.NeedsRecovery
