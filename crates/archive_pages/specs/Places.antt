-- Where the parts of an archive lie among its home pages.
use Rattle.std.specs.Prelude.{◌≡◌, ◌<◌, ◌≤◌, ℕ, ◌+◌, ◌*◌, List, length}
use Rattle.archive_head.specs.declared.lane.Lane.{Lane}
use Rattle.intake.specs.declared.ring.Ring.{Ring}
use Rattle.intake.specs.Ring.{page_at}
use Rattle.archive_pages.specs.declared.settings.Settings.{Settings}

-- an archive may have this many collectors, and rings of this many pages
pub record AreSettings (s : Settings) : Type 0 where
  pub some : 1 ≤ s.collectors
  pub few : s.collectors ≤ 16
  pub small : 9 ≤ s.ring
  pub large : s.ring ≤ 65535

-- the first page of a collector's ring: page 0 is the head, and the rings follow one another
abbrev pub ring_low : Settings → ℕ → ℕ
ring_low s c = 1 + c * s.ring

-- the first page of the tree, after all rings
abbrev pub tree_low : Settings → ℕ
tree_low s = ring_low s s.collectors

-- a collector's ring, of which the head keeps this
abbrev pub ring_of : Settings → ℕ → Lane → Ring
ring_of s c lane = record { low = ring_low s c; count = s.ring; first = lane.first; used = lane.used }

-- the pages from number low to below number high are as they were
abbrev pub SamePages : ℕ → ℕ → List (List ℕ) → List (List ℕ) → Type 0
SamePages low high old new = (n : ℕ) → low ≤ n → n < high → page_at new n ≡ page_at old n

-- Only pages from number low on are changed, and none is added or taken away.
pub record ChangesFrom (low : ℕ) (old new : List (List ℕ)) : Type 0 where
  pub count : length new ≡ length old
  pub below : (n : ℕ) → n < low → page_at new n ≡ page_at old n
