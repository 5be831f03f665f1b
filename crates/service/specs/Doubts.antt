-- What is in doubt of a feed and of a mark.
use Rattle.std.specs.Prelude.{◌≡◌, ◌<◌, ◌⊎◌, ◌+◌, ◌*◌, ℕ, Bool, true, Option, Some, None}
use Rattle.service.specs.declared.feed_lines.FeedCounts.{FeedCounts}
use Rattle.service.specs.declared.doubts.TheConstants.{DAY}

-- nothing of a feed of these counts is kept, of whose admissions this many were dropped since they were kept before: records of it were skipped, and no other one has an admission
abbrev pub IsSkipped : FeedCounts → ℕ → Type 0
IsSkipped c dropped = (0 < c.skipped) × (c.admitted ≡ 0) × (dropped ≡ 0)

-- such a feed is in doubt: it has no record, or records of it came late and none was admitted, or more than one in a hundred was refused, or records were skipped and nothing of it is kept
abbrev pub IsDoubtful : FeedCounts → ℕ → Type 0
IsDoubtful c dropped = (c.records ≡ 0) ⊎ (((0 < c.late) × (c.admitted ≡ 0)) ⊎ ((c.records < 100 * c.refused) ⊎ IsSkipped c dropped))

-- the mark, if there is one, is in doubt if the collector's is this one: it lies more than a day after it
abbrev pub IsFar : Option ℕ → ℕ → Type 0
IsFar None present = ⊥
IsFar (Some mark) present = present + DAY < mark

-- A load is held back: it is strict, and its feed, of which this many admissions were dropped, came to its end with counts that are in doubt, or its mark is in doubt.
abbrev pub IsHeld : Bool → Option ℕ → Option FeedCounts → ℕ → ℕ → Type 0
IsHeld strict mark None dropped present = ⊥
IsHeld strict mark (Some counts) dropped present = (strict ≡ true) × (IsDoubtful counts dropped ⊎ IsFar mark present)
