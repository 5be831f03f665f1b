-- The tree takes a version.
use Rattle.std.proofs.Common.{◌≡◌, ℕ, suc, ◌+◌, ◌<◌, ◌≤◌, inl, inr, List, [], ◌∷◌, ◌++◌, Option, Some, None, refl, ◌∙◌, ap, arith}
use Rattle.std.proofs.lemmas.Option.{none-some}
use Rattle.version_model.specs.declared.child.Child.{Child}
use Rattle.version_model.specs.Versions.{Version, Has, IsAbove}
use Rattle.version_model.specs.Ranges.{Range, key_end, stamp_end}
use Rattle.version_model.specs.LeafVersions.{LeafRepresents}
use Rattle.version_model.specs.Blocks.{BlockNode, Grows}
use Rattle.version_model.specs.Pages.{PageNode, CurrentLeaf, ColumnNode, KeyNode, column, Store, NodeRepresentsIn, all_keys, current_range}
use Rattle.version_model.specs.Inserts.{Splits, Became}
use Rattle.version_model.proofs.api.Pushed.{Has-push_cases, Has-push_new, IsRising-push, Adds-push}
use Rattle.version_model.proofs.api.Grown.{NodeRepresents-grows}
use Rattle.tsb_tree.specs.Trees.{TreeHas}
use Rattle.tsb_tree.proofs.Laying.{put, put_same, put_other}
use Rattle.tsb_tree.proofs.KeySplit.{root_represents}

-- the store with a new root, in the next fresh page
abbrev pub with_root : Store → ℕ → ℕ → Child → Store
with_root t level root new = record { nodes = put t.limit (KeyNode (suc level) all_keys (record { low = 0; page = root } ∷ new ∷ [])) t.nodes; limit = t.limit + 1; blocks = t.blocks; next = t.next }

-- a root that became two has a new one above it
pub grown_root : (t : Store) (all : List Version) (level root : ℕ) (new : Child) → Became t all level all_keys root (Some new) → NodeRepresentsIn (with_root t level root new) all (suc level) all_keys t.limit
grown_root t all level root new became =
    let n : PageNode = KeyNode (suc level) all_keys (record { low = 0; page = root } ∷ new ∷ []) in
    root_represents t (with_root t level root new) all level root all_keys new became
    (put_same t.limit n t.nodes)
    (λ p in_limit. put_other t.limit n t.nodes p (λ e. omega (arith, e, in_limit)))
    (omega arith) refl refl

-- a refused insert leaves the tree as it was, with more blocks
pub TreeHas-grown : (s t : Store) (all : List Version) (root level least : ℕ) → t.nodes ≡ s.nodes → t.limit ≡ s.limit → Grows s.blocks t.blocks → s.next ≤ t.next → TreeHas s all root level least → TreeHas t all root level least
TreeHas-grown s t all root level least same_nodes same_limit grows next_grows has = record {
  represents_all = record {
    some_level = has.represents_all.some_level;
    few_levels = has.represents_all.few_levels;
    represents_all = rw (same_nodes, same_limit) (NodeRepresents-grows s.blocks t.blocks s.next t.next all grows next_grows s.nodes s.limit level all_keys root has.represents_all.represents_all);
    rising = has.represents_all.rising;
    in_keys = has.represents_all.in_keys;
    in_time = has.represents_all.in_time;
  };
  bounded = has.bounded;
  next_stamp = has.next_stamp;
}

above_of : (all : List Version) (least stamp : ℕ) → IsAbove all least → least ≤ stamp → IsAbove all stamp
above_of all least stamp above le = record { above = λ v h. omega (arith, above.above v h) }

module _ (s t : Store) (v : Version) (root level least : ℕ) (new : Option Child) (later : least ≤ v.stamp) (key : v.key + 1 < key_end) (in_time : v.stamp < stamp_end) (splits : Splits s t v level root new) (all : List Version) (has : TreeHas s all root level least) where
  pub above_all : IsAbove all v.stamp
  above_all = above_of all least v.stamp has.next_stamp.above later

  -- the root took the version
  pub took : Became t (all ++ v ∷ []) level all_keys root new
  took = splits.represents_all all (all ++ v ∷ []) all_keys (record { low = omega arith; high = omega arith }) above_all (Adds-push all v) has.represents_all.represents_all

  pub TreeHas-with : (u : Store) (root' level' : ℕ) → 1 ≤ level' → level' ≤ 7 → NodeRepresentsIn u (all ++ v ∷ []) level' all_keys root' → TreeHas u (all ++ v ∷ []) root' level' (v.stamp + 1)
  TreeHas-with u root' level' low high represents_all = record {
    represents_all = record {
      some_level = low;
      few_levels = high;
      represents_all = represents_all;
      rising = IsRising-push all v has.represents_all.rising above_all;
      in_keys = λ w h. elim (Has-push_cases all v w h) [
        | inl old ↦ has.represents_all.in_keys w old
        | inr is ↦ omega (arith, ap (λ (x : Version). x.key) is)
      ];
      in_time = λ w h. elim (Has-push_cases all v w h) [
        | inl old ↦ has.represents_all.in_time w old
        | inr is ↦ omega (arith, ap (λ (x : Version). x.stamp) is)
      ];
    };
    bounded = λ w h. elim (Has-push_cases all v w h) [
      | inl old ↦ has.bounded w old
      | inr is ↦ omega (arith, ap (λ (x : Version). x.key) is)
    ];
    next_stamp = record {
      above = record {
        above = λ w h. elim (Has-push_cases all v w h) [
          | inl old ↦ omega (arith, above_all.above w old)
          | inr is ↦ omega (arith, ap (λ (x : Version). x.stamp) is)
        ];
      };
      least_is = λ n above. omega (arith, above.above v (Has-push_new all v));
    };
  }

-- a stamp is back where it isn't above all
pub back_is : (s : Store) (all : List Version) (root level least stamp : ℕ) → TreeHas s all root level least → stamp < least → IsAbove all stamp → ⊥
back_is s all root level least stamp has lt above = omega (arith, has.next_stamp.least_is stamp above)

pub not_back : (s : Store) (all : List Version) (root level least stamp : ℕ) → TreeHas s all root level least → least ≤ stamp → IsAbove all stamp
not_back s all root level least stamp has le = above_of all least stamp has.next_stamp.above le

no_version : (v : Version) → Has [] v → ⊥
no_version v h = none-some v h.is

no_shows : (r : Range) → LeafRepresents [] r []
no_shows r = record {
  whole = λ v h _ _ _. absurd (no_version v h);
  true_ones = λ v h _ _. absurd (no_version v h);
  copies = λ v h _ _. absurd (no_version v h);
  spanning = λ v _ _ h _. absurd (no_version v h.has);
}

-- the pages of a tree of no version
abbrev pub first_pages : ℕ → ℕ → Option PageNode
first_pages fresh = put (fresh + 1) (CurrentLeaf all_keys 0 []) (put fresh (ColumnNode all_keys [] 0 (fresh + 1)) (λ _. None))

-- an empty leaf in two fresh pages is a tree of no version
pub created : (blocks : ℕ → Option BlockNode) (next fresh limit : ℕ) → limit ≡ fresh + 2 → TreeHas (record { nodes = first_pages fresh; limit = limit; blocks = blocks; next = next }) [] fresh 1 0
created blocks next fresh limit is =
    let col : PageNode = ColumnNode all_keys [] 0 (fresh + 1) in
    let leaf : PageNode = CurrentLeaf all_keys 0 [] in
    let none : ℕ → Option PageNode = λ _. None in
    record {
      represents_all = record {
        some_level = omega arith;
        few_levels = omega arith;
        represents_all = column all_keys fresh (record {
          parts = [];
          current = fresh + 1;
          start = 0;
          versions = [];
          in_limit = omega (arith, is);
          at = put_other (fresh + 1) leaf (put fresh col none) fresh (λ e. omega (arith, e)) ∙ put_same fresh col none;
          current_in_limit = omega (arith, is);
          at_current = put_same (fresh + 1) leaf (put fresh col none);
          shows = no_shows (current_range all_keys 0);
          past = record { are_parts = inl (refl, refl); stand = λ s part is. absurd (none-some part is.at) };
          started = λ s up. inr refl;
        });
        rising = record { rises = λ i j v x lt at. absurd (none-some v at) };
        in_keys = λ v h. absurd (no_version v h);
        in_time = λ v h. absurd (no_version v h);
      };
      bounded = λ v h. absurd (no_version v h);
      next_stamp = record {
        above = record { above = λ v h. absurd (no_version v h) };
        least_is = λ s up. omega arith;
      };
    }

pub first_own : (fresh n : ℕ) → n < fresh → first_pages fresh n ≡ None
first_own fresh n lt =
    let col : PageNode = ColumnNode all_keys [] 0 (fresh + 1) in
    let leaf : PageNode = CurrentLeaf all_keys 0 [] in
    put_other (fresh + 1) leaf (put fresh col (λ _. None)) n (λ e. omega (arith, e, lt)) ∙ put_other fresh col (λ _. None) n (λ e. omega (arith, e, lt))
