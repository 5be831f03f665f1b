-- What calls on a shared archive return, in the words of lines.
use Rattle.archive_calls.specs.declared.refusal.Trouble.{Trouble as Reported}
use Rattle.archive_calls.specs.declared.refusal.Trouble.TheVariants as reported
use Rattle.query_threads.specs.declared.refusal.Trouble.{Trouble}
use Rattle.query_threads.specs.declared.refusal.Trouble.TheVariants as troubles
use Rattle.query_threads.specs.declared.refusal.AskError.{AskError}
use Rattle.query_threads.specs.declared.refusal.AskError.TheVariants as asks
use Rattle.query_threads.specs.declared.refusal.MarkError.{MarkError}
use Rattle.query_threads.specs.declared.refusal.MarkError.TheVariants as marks
use Rattle.service.specs.declared.faults.LoadStop.{LoadStop}
use Rattle.service.specs.declared.faults.LoadStop.TheVariants as ends
use Rattle.service.specs.declared.faults.Unanswered.{Unanswered}
use Rattle.service.specs.declared.faults.Unanswered.TheVariants as whys

-- what a shared archive couldn't do
abbrev pub of_shared : Trouble → Reported
of_shared troubles.Fault = reported.Fault
of_shared troubles.NeedsRecovery = reported.NeedsRecovery
of_shared (troubles.DamagedPage page) = reported.BadNode page
of_shared (troubles.DamagedBlock block) = reported.Damaged block
of_shared troubles.CounterFull = reported.CounterFull
of_shared troubles.TooHigh = reported.TooHigh
of_shared troubles.PagesFull = reported.PagesFull
of_shared troubles.OnceFull = reported.OnceFull
of_shared troubles.OutOfMemory = reported.OutOfMemory

-- why a question isn't answered
abbrev pub of_ask : AskError → Unanswered
of_ask (asks.AboveWatermark settled) = whys.AboveWatermark settled
of_ask (asks.Trouble trouble) = whys.Trouble (of_shared trouble)

-- why a mark isn't set
abbrev pub of_mark : MarkError → LoadStop
of_mark marks.NoCollector = ends.NoCollector
of_mark marks.MarkBack = ends.MarkBack
of_mark (marks.Trouble trouble) = ends.Trouble (of_shared trouble)
