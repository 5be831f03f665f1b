-- What stands for the past of an archive of which nothing is promised.
use Rattle.std.specs.Prelude.{◌<◌, ◌≤◌, ℕ, length}
use Rattle.route_model.specs.Moments.{last_mark}
use Rattle.route_meaning.specs.History.{History, IsHistory, settled}
use Rattle.board.specs.Past.{count_of}

-- A right history that reaches whatever a word may be: its settled watermark is no less than the last mark, and each of its collectors
-- has at least as many admissions as the greatest count.
pub record ReachesAll (h : History) : Type 0 where
  pub right : IsHistory h
  pub watermark : last_mark ≤ settled h
  pub counts : (c : ℕ) → c < length h.intakes → 18446744073709551615 ≤ count_of h c
