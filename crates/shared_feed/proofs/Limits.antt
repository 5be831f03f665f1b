-- What a batch may have, by the pages of a ring.
use Rattle.std.proofs.Common.{ℕ, ◌≤◌, arith}
use Rattle.shared_feed.specs.SharedFeeds.{limits_of}

pub one_fits : (records ring : ℕ) → 131076 ≤ (limits_of records ring).octets
one_fits records ring = omega arith

pub few_fit : (records ring : ℕ) → (limits_of records ring).octets ≤ 262144
few_fit records ring = omega arith
