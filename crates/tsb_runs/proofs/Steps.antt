-- The keys of a map taken one after another.
use Rattle.std.proofs.Common.{◌≡◌, ℕ, suc, List, [], ◌∷◌, ◌++◌, ◌≤◌, Option, Some, None, option_map, Vec, Global, inl, inr, sym, subst, arith}
use Rattle.std.specs.BTreeMap.{BTreeMap, get, Updates, IsLowerBound}
use Rattle.std.specs.Ordering.{nat_cmp}
use Rattle.std.proofs.lemmas.Bool.{cases_lt}
use Rattle.version_model.specs.declared.entry.Entry.{Entry}
use Rattle.version_model.specs.Versions.{Version, Answers, found_at}
use Rattle.tsb_runs.specs.declared.live.LiveKey.{LiveKey}
use Rattle.tsb_runs.specs.Runs.{AreLive}
use Rattle.tsb_runs.specs.inner.Latest.{AreLatest}
use Rattle.tsb_runs.proofs.LiveKeys.{live_more, live_push}
use Rattle.tsb_runs.proofs.Latest.{first_above, first_after, first_has, others_represent}

-- what has a value up to a key is listed, and the map has the latest of the keys from there on
pub record AreTaken (vs : List Version) (s from high : ℕ) (rows : List LiveKey) (m : BTreeMap ℕ Entry) : Type 0 where
  pub at : ℕ
  pub low : from ≤ at
  pub within : at ≤ high
  pub live : AreLive vs s from at rows
  pub rest : AreLatest vs s at m

module _ (vs : List Version) (s from high : ℕ) (rows : List LiveKey) (m n : BTreeMap ℕ Entry) (key : ℕ) (entry : Entry) (so : AreTaken vs s from high rows m) (here : get nat_cmp m key ≡ Some entry) (least : IsLowerBound nat_cmp m key) where
  above : Updates nat_cmp m n key None → so.at ≤ key
  above updates = first_above vs s so.at m n key entry so.rest here least updates

  -- the first key isn't below the high one
  pub ends_there : Updates nat_cmp m n key None → high ≤ key → AreLive vs s from high rows
  ends_there updates past = live_more vs s from so.at high rows so.within so.live (λ k low below. first_after vs s so.at m n key entry so.rest here least updates k low (omega (arith, past, below)))

  -- it has a value
  pub takes_first : (updates : Updates nat_cmp m n key None) → (high ≤ key → ⊥) → (row : LiveKey) → row.key ≡ key → row.found.stamp ≡ entry.stamp → entry.value ≡ Some row.found.value → AreTaken vs s from high (rows ++ row ∷ []) n
  takes_first updates never row same stamp value =
      let up = above updates in
      let none = first_after vs s so.at m n key entry so.rest here least updates in
      let has : Answers vs key s (Some (found_at entry.stamp row.found.value.items)) = subst (λ (o : Option (Vec ℕ Global)). Answers vs key s (option_map (found_at entry.stamp) (option_map (λ x. x.items) o))) value (first_has vs s so.at m n key entry so.rest here least updates) in
      let has' : Answers vs row.key s (Some (found_at row.found.stamp row.found.value.items)) = subst (λ (k : ℕ). Answers vs k s (Some (found_at row.found.stamp row.found.value.items))) (sym same) (subst (λ (t : ℕ). Answers vs key s (Some (found_at t row.found.value.items))) (sym stamp) has) in
      record {
        at = suc row.key;
        low = omega (arith, so.low, up, same);
        within = elim (cases_lt row.key high) [ inl lt ↦ lt | inr ge ↦ absurd (never (omega (arith, ge, same))) ];
        live = live_push vs s from so.at rows row so.low (omega (arith, up, same)) so.live (λ k low below. none k low (omega (arith, below, same))) has';
        rest = subst (λ (k : ℕ). AreLatest vs s (suc k) n) (sym same) (others_represent vs s so.at m n key entry so.rest here least updates);
      }

  -- it has ended
  pub passes_first : (updates : Updates nat_cmp m n key None) → (high ≤ key → ⊥) → entry.value ≡ None → AreTaken vs s from high rows n
  passes_first updates never value =
      let up = above updates in
      let none = first_after vs s so.at m n key entry so.rest here least updates in
      let ended : Answers vs key s None = subst (λ (o : Option (Vec ℕ Global)). Answers vs key s (option_map (found_at entry.stamp) (option_map (λ x. x.items) o))) value (first_has vs s so.at m n key entry so.rest here least updates) in
      record {
        at = suc key;
        low = omega (arith, so.low, up);
        within = elim (cases_lt key high) [ inl lt ↦ lt | inr ge ↦ absurd (never ge) ];
        live = live_more vs s from so.at (suc key) rows (omega (arith, up)) so.live
            (λ k low upto. elim (cases_lt k key) [ inl lt ↦ none k low lt | inr ge ↦ subst (λ (j : ℕ). Answers vs j s None) (let e : key ≡ k = omega (arith, ge, upto) in e) ended ]);
        rest = others_represent vs s so.at m n key entry so.rest here least updates;
      }
