-- Keys that have a value, one after another.
use Rattle.std.proofs.Common.{ℕ, suc, ◌<◌, ◌≤◌, List, [], ◌∷◌, ◌++◌, Some, inl, inr, arith}
use Rattle.std.proofs.lemmas.Bool.{cases_lt}
use Rattle.version_model.specs.Versions.{Version, Answers, found_at}
use Rattle.version_model.specs.Ranges.{Range}
use Rattle.version_model.specs.LeafVersions.{LeafRepresents}
use Rattle.version_model.specs.Looks.{NoneWithin}
use Rattle.version_model.proofs.api.Shown.{answers_shown}
use Rattle.version_model.proofs.api.LooksShown.{none_shown}
use Rattle.tsb_runs.specs.declared.live.LiveKey.{LiveKey}
use Rattle.tsb_runs.specs.Runs.{AreLive}

none_join : (vs : List Version) (s from at to : ℕ) → NoneWithin vs s from at → NoneWithin vs s at to → NoneWithin vs s from to
none_join vs s from at to a b = λ key low high. elim (cases_lt key at) [
  | inl below ↦ a key low below
  | inr above ↦ b key above high
]

-- no more keys up to a higher one
pub live_more : (vs : List Version) (s from at to : ℕ) (rows : List LiveKey) → at ≤ to → AreLive vs s from at rows → NoneWithin vs s at to → AreLive vs s from to rows
live_more vs s from at to [] le live none = none_join vs s from at to live none
live_more vs s from at to (row ∷ rows) le live none = (live.0, omega (arith, live.1, le), live.2, live.3, live_more vs s (suc row.key) at to rows le live.4 none)

-- one key more
pub live_push : (vs : List Version) (s from at : ℕ) (rows : List LiveKey) (row : LiveKey) → from ≤ at → at ≤ row.key → AreLive vs s from at rows → NoneWithin vs s at row.key
    → Answers vs row.key s (Some (found_at row.found.stamp row.found.value.items)) → AreLive vs s from (suc row.key) (rows ++ row ∷ [])
live_push vs s from at [] row low above live none is = (omega (arith, low, above), omega arith, is, none_join vs s from at row.key live none, λ key a b. absurd (omega (arith, a, b)))
live_push vs s from at (r ∷ rows) row low above live none is = (live.0, omega (arith, live.1, above), live.2, live.3, live_push vs s (suc r.key) at rows row (omega (arith, live.1)) above live.4 none is)

module _ (all : List Version) (r : Range) (leaf : List Version) (shows : LeafRepresents all r leaf) (s : ℕ) (start : r.start ≤ s) (end : s < r.end) where
  -- the keys of a leaf that have a value are those of all versions within its keys
  pub live_shown : (from to : ℕ) (rows : List LiveKey) → r.low ≤ from → to ≤ r.high → AreLive leaf s from to rows → AreLive all s from to rows
  live_shown from to [] low high live = none_shown all r leaf shows s from to low high start end live
  live_shown from to (row ∷ rows) low high live = (
    live.0,
    live.1,
    answers_shown all r leaf shows row.key s (Some (found_at row.found.stamp row.found.value.items)) (record { low = omega (arith, low, live.0); high = omega (arith, live.1, high) }) start end live.2,
    none_shown all r leaf shows s from row.key low (omega (arith, live.1, high)) start end live.3,
    live_shown (suc row.key) to rows (omega (arith, low, live.0)) high live.4,
  )
