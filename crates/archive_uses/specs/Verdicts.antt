-- How the calls of an archive end: by what they return, and whether the archive must be opened again after them.
use Rattle.std.specs.Prelude.{Bool, true, false, Result, Ok, Err}
use Rattle.interleaving_core.specs.declared.query.Answer.{Answer}
use Rattle.interleaving_core.specs.declared.reply.BatchReply.{BatchReply}
use Rattle.interleaving_core.specs.declared.reply.Reply.TheVariants.{Taken, Marked, NoCollector, MarkBack, Applied, Idle, Flushed, Done, AboveWatermark, NeedsRecovery}
use Rattle.disk_archive.specs.declared.error.AdmitError.{AdmitError}
use Rattle.disk_archive.specs.declared.error.AdmitError.TheVariants as admits
use Rattle.disk_archive.specs.declared.mark_error.MarkError.{MarkError}
use Rattle.disk_archive.specs.declared.mark_error.MarkError.TheVariants as marks
use Rattle.disk_archive.specs.declared.apply_error.ApplyError.{ApplyError}
use Rattle.disk_archive.specs.declared.apply_error.ApplyError.TheVariants as applies
use Rattle.disk_archive.specs.declared.applying.Step.{Step}
use Rattle.disk_archive.specs.declared.applying.Step.TheVariants as applied
use Rattle.disk_archive.specs.declared.flush_error.FlushError.{FlushError}
use Rattle.disk_archive.specs.declared.flush_error.FlushError.TheVariants as flushes
use Rattle.disk_archive.specs.declared.flushing.Flush.{Flush}
use Rattle.disk_archive.specs.declared.ask_error.AskError.{AskError}
use Rattle.disk_archive.specs.declared.ask_error.AskError.TheVariants as asks
use Rattle.disk_archive.specs.declared.descending.Descent.{Descent}
use Rattle.disk_archive.specs.declared.descending.Descent.TheVariants as descents
use Rattle.archive_uses.specs.Use.{Verdict}
use Rattle.archive_uses.specs.Use.Verdict.{replied, quiet, failed}

-- an error that the pure machine doesn't have
abbrev pub ended : Bool → Verdict
ended true = failed
ended false = quiet

-- of a batch
abbrev pub of_admit : Result BatchReply AdmitError → Bool → Verdict
of_admit (Ok reply) down = replied (Taken reply)
of_admit (Err admits.NoCollector) down = replied NoCollector
of_admit (Err admits.NeedsRecovery) down = replied NeedsRecovery
of_admit (Err admits.BatchTooLarge) down = ended down
of_admit (Err admits.CounterFull) down = ended down
of_admit (Err admits.IntakeFull) down = ended down
of_admit (Err (admits.BadNode page)) down = ended down
of_admit (Err admits.Fault) down = ended down
of_admit (Err admits.OutOfMemory) down = ended down

-- of a mark
abbrev pub of_mark : Result (Unit {0}) MarkError → Bool → Verdict
of_mark (Ok done) down = replied Marked
of_mark (Err marks.NoCollector) down = replied NoCollector
of_mark (Err marks.MarkBack) down = replied MarkBack
of_mark (Err marks.NeedsRecovery) down = replied NeedsRecovery
of_mark (Err marks.Fault) down = ended down
of_mark (Err marks.OutOfMemory) down = ended down

-- of a step of applying
abbrev pub of_apply : Result Step ApplyError → Bool → Verdict
of_apply (Ok applied.Applied) down = replied Applied
of_apply (Ok applied.Idle) down = replied Idle
of_apply (Err applies.NeedsRecovery) down = replied NeedsRecovery
of_apply (Err _) down = ended down

-- of a step of flushing
abbrev pub of_flush : Result Flush FlushError → Bool → Verdict
of_flush (Ok step) down = replied Flushed
of_flush (Err flushes.NeedsRecovery) down = replied NeedsRecovery
of_flush (Err flushes.Fault) down = ended down

-- of a question
abbrev pub of_ask : Result Answer AskError → Bool → Verdict
of_ask (Ok answer) down = replied (Done answer)
of_ask (Err (asks.AboveWatermark mark)) down = replied (AboveWatermark mark)
of_ask (Err asks.NeedsRecovery) down = replied NeedsRecovery
of_ask (Err _) down = ended down

-- of a turn of a question: one that isn't the last has no reply
abbrev pub of_turn : Result Descent AskError → Bool → Verdict
of_turn (Ok (descents.Done answer)) down = replied (Done answer)
of_turn (Ok descents.Again) down = quiet
of_turn (Ok (descents.Historical errand)) down = quiet
of_turn (Err (asks.AboveWatermark mark)) down = replied (AboveWatermark mark)
of_turn (Err asks.NeedsRecovery) down = replied NeedsRecovery
of_turn (Err _) down = ended down
