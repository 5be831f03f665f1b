-- Marks that are set on a shared archive, and what is applied then.
use Rattle.std.specs.Prelude.{◌≡◌, ⊤, ℕ, Ok, Err}
use Rattle.board.specs.Views.{View, BeginsView}
use Rattle.query_threads.specs.Steps.{DoesMark, DoesApply}
use Rattle.query_threads.specs.Seeing.{Sees, Since}
use Rattle.query_threads.specs.declared.refusal.Step.TheVariants.{Idle}
use Rattle.query_threads.specs.declared.refusal.MarkError.TheVariants as marks
use Rattle.service.specs.declared.faults.LoadStop.{LoadStop}
use Rattle.service.specs.declared.faults.LoadStop.TheVariants as ends

-- what the pass sees goes on by steps of applying, the last of which found nothing that may be applied
pub record AppliesUntilIdle (old new : View) : Type 0 where
  pub last : View
  pub since : Since old last
  pub idle : Sees (DoesApply (Ok Idle)) last new

-- the mark of the collector was set, and then what may be applied was applied
pub record MarksAndApplies (collector mark : ℕ) (old new : View) : Type 0 where
  pub then : View
  pub marked : Sees (DoesMark collector mark (Ok tt)) old then
  pub applied : AppliesUntilIdle then new

-- why a mark isn't set and all applied: there is no such collector, or its mark is above, and nothing changes by that; or the archive
-- reported another trouble, with the mark set or not
abbrev pub IsUnmarked : ℕ → ℕ → View → View → LoadStop → Type 0
IsUnmarked collector mark old new ends.NoCollector = Sees (DoesMark collector mark (Err marks.NoCollector)) old new
IsUnmarked collector mark old new ends.MarkBack = Sees (DoesMark collector mark (Err marks.MarkBack)) old new
IsUnmarked collector mark old new (ends.Trouble trouble) = ⊤
