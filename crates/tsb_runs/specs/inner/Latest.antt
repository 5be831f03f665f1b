-- What the last entry of each key represents.
use Rattle.std.specs.Prelude.{ℕ, ◌≤◌, List, Option, Some, None, IsSome, option_map}
use Rattle.std.specs.BTreeMap.{BTreeMap, get}
use Rattle.std.specs.Ordering.{nat_cmp}
use Rattle.version_model.specs.declared.entry.Entry.{Entry}
use Rattle.version_model.specs.Entries.{version_of}
use Rattle.version_model.specs.Versions.{Version, Answers, found_at}

-- what the key has as of the stamp, by an entry; without one it has nothing
abbrev pub IsLatest : List Version → ℕ → ℕ → Option Entry → Type 0
IsLatest versions s key None = Answers versions key s None
IsLatest versions s key (Some entry) = Answers versions key s (option_map (found_at entry.stamp) (version_of entry).value)

-- by entries of keys from `from` on: what each key from there on has as of the stamp
pub record AreLatest (versions : List Version) (s from : ℕ) (latest : BTreeMap ℕ Entry) : Type 0 where
  pub above : (key : ℕ) → IsSome (get nat_cmp latest key) → from ≤ key
  pub each : (key : ℕ) → from ≤ key → IsLatest versions s key (get nat_cmp latest key)
