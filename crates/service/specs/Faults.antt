-- The refusals of each call and of the layers below, in the one list of refusals.
use Rattle.archive_calls.specs.declared.refusal.Trouble.{Trouble}
use Rattle.archive_calls.specs.declared.refusal.Trouble.TheVariants as troubles
use Rattle.resolve.specs.declared.fault.ResolveFault.{ResolveFault}
use Rattle.resolve.specs.declared.fault.ResolveFault.TheVariants as faults
use Rattle.service.specs.declared.faults.FeedCut.{FeedCut}
use Rattle.service.specs.declared.faults.FeedCut.TheVariants as cuts
use Rattle.service.specs.declared.faults.FeedStop.{FeedStop}
use Rattle.service.specs.declared.faults.FeedStop.TheVariants as stops
use Rattle.service.specs.declared.faults.LoadStop.{LoadStop}
use Rattle.service.specs.declared.faults.LoadStop.TheVariants as ends
use Rattle.service.specs.declared.faults.Unanswered.{Unanswered}
use Rattle.service.specs.declared.faults.Unanswered.TheVariants as unanswered
use Rattle.service.specs.declared.refusal.Refusal.{Refusal}
use Rattle.service.specs.declared.refusal.Refusal.TheVariants as refusals

-- what an archive couldn't do
abbrev pub of_trouble : Trouble → Refusal
of_trouble troubles.Fault = refusals.Fault
of_trouble troubles.NeedsRecovery = refusals.NeedsRecovery
of_trouble troubles.PagesFull = refusals.PagesFull
of_trouble troubles.OnceFull = refusals.OnceFull
of_trouble (troubles.Damaged block) = refusals.Damaged block
of_trouble (troubles.BadNode page) = refusals.BadNode page
of_trouble troubles.TooHigh = refusals.TooHigh
of_trouble troubles.CounterFull = refusals.CounterFull
of_trouble troubles.OutOfMemory = refusals.OutOfMemory

-- why a record gives no admission
abbrev pub of_record : ResolveFault → Refusal
of_record faults.Malformed = refusals.Malformed
of_record faults.RouteTooLarge = refusals.RouteTooLarge
of_record faults.NoPeerTable = refusals.NoPeerTable
of_record faults.BadPeerIndex = refusals.BadPeerIndex
of_record faults.AdmissionTooLarge = refusals.AdmissionTooLarge
of_record faults.OutOfMemory = refusals.OutOfMemory

-- why a feed is cut short
abbrev pub of_cut : FeedCut → Refusal
of_cut cuts.Truncated = refusals.Truncated
of_cut cuts.TooLong = refusals.TooLong

-- why a feed is given up
abbrev pub of_stop : FeedStop → Refusal
of_stop stops.NoCollector = refusals.NoCollector
of_stop stops.CounterFull = refusals.CounterFull
of_stop stops.IntakeFull = refusals.IntakeFull
of_stop (stops.Trouble trouble) = of_trouble trouble
of_stop stops.Outside = refusals.Outside

-- why a load ends outside its feed
abbrev pub of_load : LoadStop → Refusal
of_load ends.NoCollector = refusals.NoCollector
of_load ends.MarkBack = refusals.MarkBack
of_load (ends.Trouble trouble) = of_trouble trouble

-- why a line isn't answered
abbrev pub of_unanswered : Unanswered → Refusal
of_unanswered unanswered.BadRequest = refusals.BadRequest
of_unanswered (unanswered.AboveWatermark settled) = refusals.AboveWatermark settled
of_unanswered unanswered.NoCollector = refusals.NoCollector
of_unanswered (unanswered.Trouble trouble) = of_trouble trouble
