-- The steps of a history.
use Rattle.std.specs.Prelude.{ℕ, List, [], ◌∷◌, ◌++◌, ◌+◌, ◌≡◌, ◌<◌, ◌≤◌, ◌⊎◌, zero, suc, map, length, replicate, Some, slice_get}
use Rattle.std.specs.List.{AllByRecursion}
use Rattle.route_model.specs.Admission.{Admitted}
use Rattle.sequencer.specs.Late.{greatest, timely}
use Rattle.route_meaning.specs.Merged.{Placed}
use Rattle.route_meaning.specs.History.{Intake, History, waiting, IsBelowMarks}
use Rattle.route_meaning.specs.Holds.{admitted_time, time_of}

-- the history of this many collectors, none of which has given anything
abbrev pub empty : ℕ → History
empty collectors = record { intakes = replicate collectors (record { admitted = []; mark = 0; offered = 0 }); whole = 0; some = 0 }

-- the history has a collector of this number
abbrev pub IsCollector : History → ℕ → Type 0
IsCollector h c = c < length h.intakes

-- the collector's intake changed by f, and each other as it was
abbrev pub changed : ℕ → (Intake → Intake) → List Intake → List Intake
changed c f [] = []
changed zero f (i ∷ is) = f i ∷ is
changed (suc c) f (i ∷ is) = i ∷ changed c f is

-- the same admissions, with another mark
abbrev pub with_mark : ℕ → Intake → Intake
with_mark mark i = record { admitted = i.admitted; mark = mark; offered = i.offered }

-- the collector has this mark, and all else is the same
abbrev pub marked : History → ℕ → ℕ → History
marked h c mark = record { intakes = changed c (with_mark mark) h.intakes; whole = h.whole; some = h.some }

-- the collector's mark is above this one
pub record IsMarkAbove (h : History) (c mark : ℕ) : Type 0 where
  pub intake : Intake
  pub here : slice_get h.intakes c ≡ Some intake
  pub above : mark < intake.mark

-- with the admissions of the batch that aren't late, the greatest of the mark and the times of the batch, and all of the batch offered
abbrev pub with_batch : List Admitted → Intake → Intake
with_batch batch i = record { admitted = i.admitted ++ timely admitted_time i.mark [] batch; mark = greatest i.mark (map admitted_time batch); offered = i.offered + length batch }

-- the collector gave the batch, and all else is the same
abbrev pub given : History → ℕ → List Admitted → History
given h c batch = record { intakes = changed c (with_batch batch) h.intakes; whole = h.whole; some = h.some }

-- the numbers of admissions and changes applied are set, and all else is the same
abbrev pub moved : History → ℕ → ℕ → History
moved h whole some = record { intakes = h.intakes; whole = whole; some = some }

-- the first admission that waits is below every mark, and the place moved over its next change, or over it where no other change follows
pub record Applies (h g : History) : Type 0 where
  pub next : Placed Admitted
  pub later : List (Placed Admitted)
  pub here : waiting h ≡ next ∷ later
  pub below : IsBelowMarks h (time_of next)
  pub part : suc h.some < length next.item.changes → g ≡ moved h h.whole (suc h.some)
  pub whole : length next.item.changes ≤ suc h.some → g ≡ moved h (suc h.whole) 0

-- no admission that waits is below every mark
abbrev pub NothingToApply : History → Type 0
NothingToApply h = AllByRecursion (λ p. IsBelowMarks h (time_of p) → ⊥) (waiting h)

-- up to n changes are applied, as many while the first admission that waits is below every mark
abbrev pub AppliesMore : ℕ → History → History → Type 0
AppliesMore zero h g = g ≡ h
AppliesMore (suc n) h g = ((m : History) × Applies h m × AppliesMore n m g) ⊎ (NothingToApply h × (g ≡ h))
