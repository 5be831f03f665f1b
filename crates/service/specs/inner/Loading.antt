-- What a load does after its feed. Contracts of private functions alone cite this file.
use Rattle.std.specs.Prelude.{◌≡◌, ◌⊎◌, Bool, true, false, ℕ, Option, Some, None}
use Rattle.route_meaning.specs.History.{History}
use Rattle.interleaving_core.specs.Steps.{IsCollector, IsMarkAbove}
use Rattle.service.specs.Represented.{Represented, HasIntakes}
use Rattle.service.specs.Loads.{marked_if}
use Rattle.archive_calls.specs.declared.refusal.Trouble.TheVariants as troubles
use Rattle.service.specs.declared.faults.FeedStop.TheVariants as reasons
use Rattle.service.specs.declared.faults.LoadStop.{LoadStop}
use Rattle.service.specs.declared.faults.LoadStop.TheVariants as stops
use Rattle.service.specs.declared.intake.End.{End}
use Rattle.service.specs.declared.intake.End.TheVariants as ends
use Rattle.service.specs.declared.status.Status.{Status}
use Rattle.service.specs.declared.status.Status.TheVariants as statuses

-- the mark that is set after a feed that ended so: only after one that ended well
abbrev pub mark_after : End → Option ℕ → Option ℕ
mark_after ends.Well mark = mark
mark_after ends.Cut mark = None
mark_after (ends.Refused why) mark = None

-- the status of a load whose feed ended so
abbrev pub status_after : End → Status
status_after ends.Well = statuses.Done
status_after ends.Cut = statuses.Refused
status_after (ends.Refused why) = statuses.Refused

-- the refusal that a load ends with outside its feed: a trouble for which the feed was given up comes before what follows from it
abbrev pub first_of : End → LoadStop → LoadStop
first_of (ends.Refused (reasons.Trouble trouble)) (stops.Trouble troubles.NeedsRecovery) = stops.Trouble trouble
first_of _ why = why

-- why a mark isn't set, or what may be applied isn't
abbrev pub HasNotSettled : ℕ → Option ℕ → History → Represented → LoadStop → Type 0
HasNotSettled c mark h archive stops.NoCollector = (IsCollector h c → ⊥) × HasIntakes h.intakes archive
HasNotSettled c mark h archive stops.MarkBack = (lower : ℕ) × (mark ≡ Some lower) × IsMarkAbove h c lower × HasIntakes h.intakes archive
HasNotSettled c mark h archive (stops.Trouble trouble) = (set : Option ℕ) × ((set ≡ mark) ⊎ (set ≡ None)) × HasIntakes (marked_if c set h).intakes archive

-- the status if a write to standard output failed, or one to standard error
abbrev pub reported_as : Bool → Bool → Status → Status
reported_as true err status = statuses.Failed
reported_as false true status = statuses.Failed
reported_as false false status = status
