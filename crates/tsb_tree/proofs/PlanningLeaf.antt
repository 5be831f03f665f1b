-- What is planned of a column whose leaf alone takes the version.
use Rattle.std.proofs.Common.{◌≡◌, ℕ, ◌<◌, List, [], ◌∷◌, ◌++◌, Some, None, slice_get, refl, sym, ◌∙◌, ap, subst, arith}
use Rattle.std.proofs.lemmas.Option.{same_Some, none-some}
use Rattle.disk_models.specs.declared.once.OnceDisk.{Ghosts}
use Rattle.once_store.specs.declared.shelf.Shelf.{Shelf}
use Rattle.once_store.specs.Shelves.{next_of}
use Rattle.tsb_node.specs.Views.{PageRepresents}
use Rattle.version_model.specs.Versions.{Version, IsAbove, Adds}
use Rattle.version_model.specs.Pages.{Keys, PageNode, CurrentLeaf, ColumnNode, ColumnRepresents, Store, NodeRepresentsIn, column, current_range}
use Rattle.version_model.specs.Inserts.{LocatedUnder, Splits, KeepsOthers}
use Rattle.version_model.proofs.api.Pushed.{Adds-push}
use Rattle.version_model.proofs.api.Shown.{LeafRepresents-adds}
use Rattle.version_model.proofs.api.Representing.{column_of}
use Rattle.worm_migration.specs.Settled.{ShelfRepresents}
use Rattle.tsb_tree.specs.declared.change.Change.{Change}
use Rattle.tsb_tree.specs.Layouts.{LaysLeaf}
use Rattle.tsb_tree.specs.Plans.{Plans}
use Rattle.tsb_tree.proofs.Laying.{put, put_same, put_other}
use Rattle.tsb_tree.proofs.Taking.{past_later}
use Rattle.tsb_tree.proofs.Reporting.{shown-set, get-set_other}

module _ (s : Store) (v : Version) (old : List Version) (k : Keys) (page : ℕ) (c : ColumnRepresents s.nodes s.limit s.blocks s.next old k page) where
  -- what the leaf represents then
  abbrev pub more : PageNode
  more = CurrentLeaf k c.start (c.versions ++ v ∷ [])

  abbrev pub pushed : Store
  pushed = record { nodes = put c.current more s.nodes; limit = s.limit; blocks = s.blocks; next = s.next }

  apart : page ≡ c.current → ⊥
  apart e =
      let same : ColumnNode k c.parts c.start c.current ≡ CurrentLeaf k c.start c.versions = same_Some _ _ (sym c.at ∙ ap s.nodes e ∙ c.at_current) in
      cc

  -- the column that represents any versions
  takes : (all after : List Version) (k' : Keys) → IsAbove all v.stamp → Adds all v after → NodeRepresentsIn s all 1 k' page → NodeRepresentsIn pushed after 1 k' page
  takes all after k' above adds represents_all =
      let d = column_of s.nodes s.limit s.blocks s.next all 1 k' page refl represents_all in
      let decoded : ColumnNode k' d.parts d.start d.current ≡ ColumnNode k c.parts c.start c.current = same_Some _ _ (sym d.at ∙ c.at) in
      let e_keys : k' ≡ k = cc in
      let e_start : d.start ≡ c.start = cc in
      let e_current : d.current ≡ c.current = cc in
      let leaf : CurrentLeaf k' d.start d.versions ≡ CurrentLeaf k c.start c.versions = same_Some _ _ (sym d.at_current ∙ ap s.nodes e_current ∙ c.at_current) in
      let e_versions : d.versions ≡ c.versions = cc in
      let node : more ≡ CurrentLeaf k' d.start (d.versions ++ v ∷ []) = ap (λ (x : Keys). CurrentLeaf x c.start (c.versions ++ v ∷ [])) (sym e_keys) ∙ ap (λ (x : ℕ). CurrentLeaf k' x (c.versions ++ v ∷ [])) (sym e_start) ∙ ap (λ (x : List Version). CurrentLeaf k' d.start (x ++ v ∷ [])) (sym e_versions) in
      column k' page (record {
        parts = d.parts;
        current = d.current;
        start = d.start;
        versions = d.versions ++ v ∷ [];
        in_limit = d.in_limit;
        at = put_other c.current more s.nodes page apart ∙ d.at;
        current_in_limit = d.current_in_limit;
        at_current = ap (put c.current more s.nodes) e_current ∙ put_same c.current more s.nodes ∙ ap Some node;
        shows = LeafRepresents-adds all after (current_range k' d.start) d.versions (d.versions ++ v ∷ []) v adds (Adds-push d.versions v) (d.started v.stamp above.above) d.shows;
        past = past_later s.blocks s.next all after v k' d.start d.parts above adds (d.started v.stamp above.above) d.past;
        started = λ n up. d.started n (λ x h. up x (adds.keeps x h));
      })

  keeps_others : (all : List Version) (k' : Keys) → k.low < k.high → NodeRepresentsIn s all 1 k' page → KeepsOthers s.nodes pushed.nodes s.limit 1 k'
  keeps_others all k' some represents_all p node in_limit at never =
      let d = column_of s.nodes s.limit s.blocks s.next all 1 k' page refl represents_all in
      let decoded : ColumnNode k' d.parts d.start d.current ≡ ColumnNode k c.parts c.start c.current = same_Some _ _ (sym d.at ∙ c.at) in
      let e_keys : k' ≡ k = cc in
      let low : k'.low ≡ k.low = ap (λ (x : Keys). x.low) e_keys in
      let high : k'.high ≡ k.high = ap (λ (x : Keys). x.high) e_keys in
      let other : p ≡ c.current → ⊥ = λ e. never (subst (LocatedUnder 1 k') (same_Some (CurrentLeaf k c.start c.versions) node (sym c.at_current ∙ ap s.nodes (sym e) ∙ at))
      (record { no_higher = omega arith; low = omega arith; nonempty = omega arith; high = omega arith })) in
      put_other c.current more s.nodes p other ∙ at

  pub splits_leaf : k.low < k.high → Splits s pushed v 1 page None
  splits_leaf some = record {
    grows = λ n node h. h;
    next_grows = omega arith;
    limit_grows = omega arith;
    represents_all = λ all after k' of_key above adds represents_all. takes all after k' above adds represents_all;
    others = λ all k' represents_all. keeps_others all k' some represents_all;
  }

  -- the leaf's image is laid alone
  pub plans_leaf : {O Pen Seen : Type 0} (device : Ghosts O Pen Seen) (shelf : Shelf O Pen Seen) (homes : ℕ) (image : List ℕ) (change : Change) → k.low < k.high → ShelfRepresents device shelf s.blocks → s.next ≡ next_of shelf → c.current < homes
      → PageRepresents image more → LaysLeaf c.current image change.images.items → change.unused ≡ s.limit → change.new ≡ None → Plans device shelf homes s v 1 page change
  plans_leaf device shelf homes image change some represents_node next inside leaf lays unused none = record {
    nodes = put c.current more s.nodes;
    blocks = s.blocks;
    lays = λ shown long are. rw (lays.over shown) (shown-set shown s.nodes c.current image more (omega (arith, long, inside)) leaf are);
    represents_node = represents_node;
    splits = rw (unused, none, ← next) (splits_leaf some);
    silent = λ p in_limit none. put_other c.current more s.nodes p (λ e. none-some _ (sym none ∙ ap s.nodes e ∙ c.at_current)) ∙ none;
    own = λ all k' represents_all p in_limit unsaid shown.
        ap (λ (l : List (List ℕ)). slice_get l p) (lays.over shown) ∙ get-set_other shown c.current p image (λ e. none-some _ (sym unsaid ∙ ap s.nodes e ∙ c.at_current));
  }
