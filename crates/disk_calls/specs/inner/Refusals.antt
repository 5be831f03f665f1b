-- The refusals of an archive on disks, as those that feeds and questions know.
use Rattle.archive_calls.specs.declared.refusal.Trouble.{Trouble}
use Rattle.archive_calls.specs.declared.refusal.Trouble.TheVariants as troubles
use Rattle.archive_calls.specs.declared.refusal.AdmitError.{AdmitError as AdmitRefusal}
use Rattle.archive_calls.specs.declared.refusal.AdmitError.TheVariants as admit_refusals
use Rattle.archive_calls.specs.declared.refusal.MarkError.{MarkError as MarkRefusal}
use Rattle.archive_calls.specs.declared.refusal.MarkError.TheVariants as mark_refusals
use Rattle.archive_calls.specs.declared.refusal.AskError.{AskError as AskRefusal}
use Rattle.archive_calls.specs.declared.refusal.AskError.TheVariants as ask_refusals
use Rattle.disk_archive.specs.declared.error.AdmitError.{AdmitError}
use Rattle.disk_archive.specs.declared.error.AdmitError.TheVariants as admits
use Rattle.disk_archive.specs.declared.mark_error.MarkError.{MarkError}
use Rattle.disk_archive.specs.declared.mark_error.MarkError.TheVariants as marks
use Rattle.disk_archive.specs.declared.apply_error.ApplyError.{ApplyError}
use Rattle.disk_archive.specs.declared.apply_error.ApplyError.TheVariants as applies
use Rattle.disk_archive.specs.declared.flush_error.FlushError.{FlushError}
use Rattle.disk_archive.specs.declared.flush_error.FlushError.TheVariants as flushes
use Rattle.disk_archive.specs.declared.ask_error.AskError.{AskError}
use Rattle.disk_archive.specs.declared.ask_error.AskError.TheVariants as asks
use Rattle.disk_archive.specs.declared.check_error.CheckError.{CheckError}
use Rattle.disk_archive.specs.declared.check_error.CheckError.TheVariants as checks

-- why a batch isn't taken
abbrev pub of_admit : AdmitError → AdmitRefusal
of_admit admits.NeedsRecovery = admit_refusals.Trouble troubles.NeedsRecovery
of_admit admits.NoCollector = admit_refusals.NoCollector
of_admit admits.BatchTooLarge = admit_refusals.BatchTooLarge
of_admit admits.CounterFull = admit_refusals.CounterFull
of_admit admits.IntakeFull = admit_refusals.IntakeFull
of_admit (admits.BadNode page) = admit_refusals.Trouble (troubles.BadNode page)
of_admit admits.Fault = admit_refusals.Trouble troubles.Fault
of_admit admits.OutOfMemory = admit_refusals.Trouble troubles.OutOfMemory

-- why a mark isn't set
abbrev pub of_mark : MarkError → MarkRefusal
of_mark marks.NeedsRecovery = mark_refusals.Trouble troubles.NeedsRecovery
of_mark marks.NoCollector = mark_refusals.NoCollector
of_mark marks.MarkBack = mark_refusals.MarkBack
of_mark marks.Fault = mark_refusals.Trouble troubles.Fault
of_mark marks.OutOfMemory = mark_refusals.Trouble troubles.OutOfMemory

-- why nothing is applied
abbrev pub of_apply : ApplyError → Trouble
of_apply applies.NeedsRecovery = troubles.NeedsRecovery
of_apply applies.CounterFull = troubles.CounterFull
of_apply applies.TooHigh = troubles.TooHigh
of_apply applies.PagesFull = troubles.PagesFull
of_apply applies.OnceFull = troubles.OnceFull
of_apply (applies.BadNode page) = troubles.BadNode page
of_apply applies.Fault = troubles.Fault
of_apply applies.OutOfMemory = troubles.OutOfMemory

-- why no page goes home
abbrev pub of_flush : FlushError → Trouble
of_flush flushes.NeedsRecovery = troubles.NeedsRecovery
of_flush flushes.Fault = troubles.Fault

-- why a question isn't answered
abbrev pub of_ask : AskError → AskRefusal
of_ask asks.NeedsRecovery = ask_refusals.Trouble troubles.NeedsRecovery
of_ask (asks.AboveWatermark settled) = ask_refusals.AboveWatermark settled
of_ask (asks.BadNode page) = ask_refusals.Trouble (troubles.BadNode page)
of_ask (asks.Damaged block) = ask_refusals.Trouble (troubles.Damaged block)
of_ask asks.Fault = ask_refusals.Trouble troubles.Fault
of_ask asks.OutOfMemory = ask_refusals.Trouble troubles.OutOfMemory

-- why a check isn't done, or what it found
abbrev pub of_check : CheckError → Trouble
of_check checks.NeedsRecovery = troubles.NeedsRecovery
of_check (checks.BadNode page) = troubles.BadNode page
of_check (checks.Damaged block) = troubles.Damaged block
of_check checks.Fault = troubles.Fault
of_check checks.OutOfMemory = troubles.OutOfMemory
