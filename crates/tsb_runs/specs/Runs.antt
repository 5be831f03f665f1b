-- What looks answer that go over a whole leaf.
use Rattle.std.specs.Prelude.{ℕ, suc, ◌<◌, ◌≤◌, List, [], ◌∷◌, Some}
use Rattle.tsb_runs.specs.declared.live.LiveKey.{LiveKey}
use Rattle.tsb_runs.specs.declared.live.Run.{Run}
use Rattle.version_model.specs.Versions.{Version, Answers, found_at}
use Rattle.version_model.specs.Ranges.{high_or}
use Rattle.version_model.specs.Looks.{NoneWithin}

-- exactly the keys from `from` on and below `to` that have a value as of the stamp, each with it, in the order of keys
abbrev pub AreLive : List Version → ℕ → ℕ → ℕ → List LiveKey → Type 0
AreLive versions s from to [] = NoneWithin versions s from to
AreLive versions s from to (row ∷ rows) = (from ≤ row.key) × (row.key < to) × Answers versions row.key s (Some (found_at row.found.stamp row.found.value.items)) × NoneWithin versions s from row.key × AreLive versions s (suc row.key) to rows

-- the same up to the high key of a run
abbrev pub IsRun : List Version → ℕ → ℕ → Run → Type 0
IsRun versions s from run = AreLive versions s from (high_or run.high) run.rows.items
