-- A column in memory takes a version, and is split by key.
use Rattle.std.proofs.Common.{◌≡◌, ℕ, ◌+◌, ◌<◌, ◌≤◌, ◌⊎◌, inl, inr, List, [], ◌∷◌, ◌++◌, Option, Some, None, refl, sym, ap, subst, arith}
use Rattle.version_model.specs.declared.part.Part.{Part}
use Rattle.version_model.specs.declared.part.PartKind.TheVariants.{LeafBlock}
use Rattle.version_model.specs.Versions.{Version, Has, IsAbove, IsRising, Adds}
use Rattle.version_model.specs.Ranges.{high_or, stamp_end}
use Rattle.version_model.specs.LeafVersions.{IsFrom, IsBelow, IsFromKey}
use Rattle.version_model.specs.Blocks.{BlockNode, OldLeaf, Grows}
use Rattle.version_model.specs.Pages.{Keys, PartsRepresent, current_range}
use Rattle.version_model.specs.Sizes.{octets, entry_octets, IsSingle}
use Rattle.version_model.proofs.api.Pushed.{Has-push_cases, Adds-push}
use Rattle.version_model.proofs.api.Shown.{LeafRepresents-from, LeafRepresents-adds, LeafRepresents-below, LeafRepresents-from_key}
use Rattle.version_model.proofs.api.TreeKept.{past_kept}
use Rattle.version_model.proofs.api.ColumnSplit.{PartsRepresent-cut, past_takes_leaf}
use Rattle.version_model.proofs.api.Sizing.{total-push, IsFrom-single}
use Rattle.tsb_tree.specs.declared.whole.Whole.{Whole}
use Rattle.tsb_tree.specs.Wholes.{keys, Takes, AreHalves, keys_of_whole}

-- the past is as it was when a later version comes
pub past_later : (blocks : ℕ → Option BlockNode) (next : ℕ) (all after : List Version) (v : Version) (k : Keys) (start : ℕ) (parts : List Part) → IsAbove all v.stamp → Adds all v after → (start < v.stamp) ⊎ (start ≡ 0) → PartsRepresent blocks next all k start parts → PartsRepresent blocks next after k start parts
past_later blocks next all after v k start parts above adds started past =
    past_kept (λ _. None) (λ _. None) 0 0 blocks blocks next next all after v
    (record { adds = adds; above = above; grows = λ n node h. h; next_grows = omega arith; limit_grows = omega arith })
    k start parts started past

-- the version is added to the leaf
pub takes_in_leaf : (blocks : ℕ → Option BlockNode) (next : ℕ) (w : Whole) (leaf' : List Version) (v : Version) → leaf' ≡ w.leaf ++ v ∷ [] → Takes blocks next blocks next v w (record w { leaf = leaf' })
takes_in_leaf blocks next w leaf' v is = rw is (record {
  low = refl;
  high = refl;
  takes = λ all after above adds has. record {
    column = record {
      shows = LeafRepresents-adds all after (current_range (keys_of_whole w) w.start) w.leaf (w.leaf ++ v ∷ []) v adds (Adds-push w.leaf v) (has.started v.stamp above.above) has.column.shows;
      past = past_later blocks next all after v (keys_of_whole w) w.start w.parts.items above adds (has.started v.stamp above.above) has.column.past;
    };
    started = λ s up. has.started s (λ x h. up x (adds.keeps x h));
  };
})

-- a time split at the version's stamp: the leaf as it was has gone into the past
pub takes_by_time : (blocks blocks' blocks'' : ℕ → Option BlockNode) (next next' next'' block : ℕ) (w w' : Whole) (leaf' : List Version) (parts : List Part) (v : Version)
    → leaf' ≡ w.leaf ++ v ∷ [] → IsFrom leaf' v.stamp w'.leaf → v.stamp < stamp_end
    → w.start < v.stamp → w'.low ≡ w.low → w'.high ≡ w.high → w'.start ≡ v.stamp
    → w'.parts.items ≡ parts ++ record { start = w.start; kind = LeafBlock; block = block } ∷ []
    → ((all : List Version) → PartsRepresent blocks next all (keys_of_whole w) w.start w.parts.items → PartsRepresent blocks' next' all (keys_of_whole w) w.start parts)
    → Grows blocks' blocks'' → next' ≤ block → block < next''
    → blocks'' block ≡ Some (OldLeaf (record { low = w.low; high = high_or w.high; start = w.start; end = v.stamp }) w.leaf)
    → Takes blocks next blocks'' next'' v w w'
takes_by_time blocks blocks' blocks'' next next' next'' block w w' leaf' parts v is from in_time forward low high start parts_is moves grows new_block in_next burnt = record {
  low = low;
  high = high;
  takes = λ all after above adds has.
      (let k : Keys = keys_of_whole w in
      let past : PartsRepresent blocks' next' after k w.start parts = moves after (past_later blocks next all after v k w.start w.parts.items above adds (inl forward) has.column.past) in
      let adds' : Adds w.leaf v leaf' = rw is (Adds-push w.leaf v) in
      record {
        column = rw (low, high, start, parts_is) (record {
          shows = LeafRepresents-from after (current_range k w.start) leaf' w'.leaf v.stamp (omega arith) in_time from (LeafRepresents-adds all after (current_range k w.start) w.leaf leaf' v adds adds' (inl forward) has.column.shows);
          past = past_takes_leaf blocks' blocks'' next' next'' all after v k w.start block parts w.leaf leaf' w'.leaf grows new_block in_next adds adds' forward in_time from burnt has.column.shows past;
        });
        started = λ s up. rw start (inl (up v adds.has));
      });
}

-- no version is later than the one that was added last
last_above : (leaf : List Version) (v w : Version) → IsAbove leaf v.stamp → Has (leaf ++ v ∷ []) w → w.stamp ≤ v.stamp
last_above leaf v w above h = elim (Has-push_cases leaf v w h) [
  | inl old ↦ omega (arith, above.above w old)
  | inr new ↦ omega (arith, ap (λ (x : Version). x.stamp) new)
]

pub single_since : (leaf newer : List Version) (v : Version) → IsAbove leaf v.stamp → IsFrom (leaf ++ v ∷ []) v.stamp newer → IsRising newer → IsSingle newer
single_since leaf newer v above from rising = IsFrom-single (leaf ++ v ∷ []) newer v.stamp from rising (λ w h. last_above leaf v w above h)

-- the same of the leaf that was split, and of what goes on
pub single_of : (leaf front newer : List Version) (v : Version) (at : ℕ) → leaf ≡ front ++ v ∷ [] → v.stamp ≡ at → IsAbove front at → IsFrom leaf at newer → IsRising newer → IsSingle newer
single_of leaf front newer v at is stamp above from rising =
    single_since front newer v (subst (λ s. IsAbove front s) (sym stamp) above) (subst (λ l. IsFrom l v.stamp newer) is (subst (λ s. IsFrom leaf s newer) (sym stamp) from)) rising

pub octets-push : (leaf : List Version) (v : Version) → octets (leaf ++ v ∷ []) ≡ octets leaf + entry_octets v
octets-push leaf v = total-push entry_octets leaf v

-- both sides of a key split represent what the column represented
pub halves_of : (w l r : Whole) (key : ℕ) (left right : List Version) → w.low < key → key < high_or w.high → IsBelow w.leaf key left → IsFromKey w.leaf key right
    → l ≡ record w { high = Some key; leaf = left } → r.low ≡ key → r.high ≡ w.high → r.start ≡ w.start → r.parts.items ≡ w.parts.items → r.leaf ≡ right → AreHalves w l r
halves_of w l r key left right lt gt is_below is_from l_is r_low r_high r_start r_parts r_leaf = rw l_is (record {
  low = refl;
  middle = ap Some (sym r_low);
  high = r_high;
  above = omega (arith, lt, r_low);
  below = omega (arith, gt, r_low);
  has = λ blocks next all has.
      (let k : Keys = keys_of_whole w in (
        record {
          column = record {
            shows = LeafRepresents-below all (current_range k w.start) w.leaf left key (omega arith) is_below has.column.shows;
            past = PartsRepresent-cut blocks next all k (keys w.low key) w.start w.parts.items (omega arith) (omega arith) has.column.past;
          };
          started = has.started;
        },
        record {
          column = rw (r_low, r_high, r_start, r_parts, r_leaf) (record {
            shows = LeafRepresents-from_key all (current_range k w.start) w.leaf right key (omega arith) is_from has.column.shows;
            past = PartsRepresent-cut blocks next all k (keys key (high_or w.high)) w.start w.parts.items (omega arith) (omega arith) has.column.past;
          });
          started = rw r_start has.started;
        },
      ));
})
