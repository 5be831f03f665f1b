-- The tree of an archive takes the version of a change.
use Rattle.std.proofs.Common.{◌≡◌, ◌<◌, ◌≤◌, ℕ, zero, suc, List, [], ◌∷◌, length, min, inl, inr, refl, sym, ◌∙◌, ap, subst, arith, Some, None}
use Rattle.std.specs.Prelude.{Option}
use Rattle.std.specs.List.{slice_get}
use Rattle.std.proofs.lemmas.Bool.{cases_lt}
use Rattle.std.proofs.lemmas.Option.{slice_get_within}
use Rattle.disk_models.specs.declared.once.OnceDisk.{Ghosts as OnceGhosts}
use Rattle.disk_models.specs.Once.{settled_in}
use Rattle.once_store.specs.declared.shelf.Shelf.{Shelf}
use Rattle.once_store.specs.Shelves.{disk_of, next_of, pen_of}
use Rattle.page_tx.specs.declared.pages.Pages.{Ghosts}
use Rattle.page_tx.specs.Start.{Start}
use Rattle.version_model.specs.Versions.{Version}
use Rattle.version_model.specs.Blocks.{BlockNode}
use Rattle.version_model.specs.Pages.{Keys, PageNode, Store, PartsRepresent, NodeRepresents, column, key_node, all_keys}
use Rattle.tsb_walk.specs.Shown.{RepresentNodes}
use Rattle.tsb_tree.specs.Trees.{TreeHas, TreeRepresented}
use Rattle.tsb_tree.specs.Inserted.{TakenIn}
use Rattle.tsb_tree.specs.declared.tree.TreePlace.{TreePlace}
use Rattle.intake.specs.Ring.{page_at}
use Rattle.disk_archive.specs.Trees.{TreeLocated}
use Rattle.disk_archive.specs.inner.Applications.{TreeTakes}

-- ---- up to where pages and blocks are in use

module _ (nodes : ℕ → Option PageNode) (limit limit' : ℕ) (blocks : ℕ → Option BlockNode) (next next' : ℕ) (all : List Version) (inside : (page : ℕ) (node : PageNode) → page < limit → nodes page ≡ Some node → page < limit') (more : next ≤ next') where
  past_wider : (keys : Keys) (start : ℕ) (parts : List _) → PartsRepresent blocks next all keys start parts → PartsRepresent blocks next' all keys start parts
  past_wider keys start parts past = record {
    are_parts = elim past.are_parts [
      | inl none ↦ inl none
      | inr are ↦ inr (record { first = are.first; at_first = are.at_first; from_start = are.from_start; lower = λ i part at. (let l = are.lower i part at in omega (arith, l, more)); inside = are.inside })
    ];
    stand = past.stand;
  }

  stands_wider : (level : ℕ) (keys : Keys) (page : ℕ) → NodeRepresents nodes limit blocks next all level keys page → NodeRepresents nodes limit' blocks next' all level keys page
  stands_wider _ _ _ (column keys page c) = column keys page (record {
    parts = c.parts;
    current = c.current;
    start = c.start;
    versions = c.versions;
    in_limit = inside page _ c.in_limit c.at;
    at = c.at;
    current_in_limit = inside c.current _ c.current_in_limit c.at_current;
    at_current = c.at_current;
    shows = c.shows;
    past = past_wider keys c.start c.parts c.past;
    started = c.started;
  })
  stands_wider _ _ _ (key_node level keys page children in_limit at are stand) =
      key_node level keys page children (inside page _ in_limit at) at are (λ inner child is. stands_wider level inner child.page (stand inner child is))

-- the page of a root is in use, and says something
root_there : (nodes : ℕ → Option PageNode) (limit : ℕ) (blocks : ℕ → Option BlockNode) (next : ℕ) (all : List Version) (level : ℕ) (keys : Keys) (page : ℕ) → NodeRepresents nodes limit blocks next all level keys page → (page < limit) × (node : PageNode) × (nodes page ≡ Some node)
root_there nodes limit blocks next all _ _ _ (column keys page c) = (c.in_limit, _, c.at)
root_there nodes limit blocks next all _ _ _ (key_node level keys page children in_limit at are stand) = (in_limit, _, at)

-- ---- before a version comes

-- what the pages and blocks of the archive's tree say, up to where the transaction and the shelf are
abbrev pub store_at : Store → ℕ → ℕ → Store
store_at s limit next = record { nodes = s.nodes; limit = limit; blocks = s.blocks; next = next }

-- in `homes` pages a tree has its own from `low` on, up to where pages are in use
pub has_wider : (s : Store) (versions : List Version) (root level least homes next' : ℕ) → ((page : ℕ) (node : PageNode) → s.nodes page ≡ Some node → page < homes) → s.next ≤ next' → TreeHas s versions root level least → TreeHas (store_at s (min s.limit homes) next') versions root level least
has_wider s versions root level least homes next' shown more has = record {
  represents_all = record {
    some_level = has.represents_all.some_level;
    few_levels = has.represents_all.few_levels;
    represents_all = stands_wider s.nodes s.limit (min s.limit homes) s.blocks s.next next' versions (λ page node lt at. (let h = shown page node at in omega (arith, lt, h))) more level all_keys root has.represents_all.represents_all;
    rising = has.represents_all.rising;
    in_keys = has.represents_all.in_keys;
    in_time = has.represents_all.in_time;
  };
  bounded = has.bounded;
  next_stamp = has.next_stamp;
}

pub shown_below : (shown : List (List ℕ)) (nodes : ℕ → Option PageNode) → RepresentNodes shown nodes → (page : ℕ) (node : PageNode) → nodes page ≡ Some node → page < length shown
shown_below shown nodes represents_node page node at = let s = represents_node page node at in slice_get_within shown page s.octets s.at

-- a page by what is at its place
pub page_of : (old new : List (List ℕ)) (n : ℕ) → slice_get new n ≡ slice_get old n → page_at new n ≡ page_at old n
page_of [] [] n e = refl
page_of [] (y ∷ new) zero e = cc
page_of [] (y ∷ new) (suc n) e = page_of [] new n e
page_of (x ∷ old) [] zero e = cc
page_of (x ∷ old) [] (suc n) e = page_of old [] n e
page_of (x ∷ old) (y ∷ new) zero e = let same : y ≡ x = cc in same
page_of (x ∷ old) (y ∷ new) (suc n) e = page_of old new n e

-- the pages of a transaction and the blocks of a shelf show the archive's tree, where it was opened
module _ {P : Type 0} (pages : Ghosts P) (held : P) {O Pen Seen : Type 0} (device : OnceGhosts O Pen Seen) (shelf : Shelf O Pen Seen) (start : Start) (shown : List (List ℕ)) (low root fresh block stamp : ℕ) (versions : List Version)
    (shows : pages.shows held start shown) (honest : device.honest (disk_of shelf) (pen_of shelf)) (count : length shown ≡ pages.homes held) (next : pages.next held ≡ min fresh (pages.homes held)) (onward : block ≤ next_of shelf)
    (t : TreeLocated (device.block_count (disk_of shelf)) shown (settled_in (device.model (pen_of shelf))) low root fresh block stamp versions) where
  pub has_here : TreeHas (store_at t.store (pages.next held) (next_of shelf)) versions root t.level stamp
  has_here =
      let wide = has_wider t.store versions root t.level stamp (length shown) (next_of shelf) (shown_below shown t.store.nodes t.represents_node) (let n = t.next in omega (arith, n, onward)) t.has in
      let same : min t.store.limit (length shown) ≡ pages.next held = ap (λ (n : ℕ). min n (length shown)) t.limit ∙ (ap (min fresh) count ∙ sym next) in
      subst (λ (n : ℕ). TreeHas (store_at t.store n (next_of shelf)) versions root t.level stamp) same wide

  abbrev pub shown_at : (root' level' least : ℕ) → root' ≡ root → level' ≡ t.level → least ≡ stamp → TreeRepresented pages held device shelf start shown versions root' level' least
  shown_at root' level' least e f g = record {
    store = store_at t.store (pages.next held) (next_of shelf);
    is = record {
      shows = shows;
      reports = t.represents_node;
      limit = refl;
      honest = honest;
      represents_node = record { each = λ n node here. (let b = t.blocks n node here in record { inside = b.inside; octets = b.octets; settled = b.here; represents_node = b.represents_node }) };
      next = refl;
    };
    has = subst (λ (n : ℕ). TreeHas (store_at t.store (pages.next held) (next_of shelf)) versions root' level' n) (sym g)
        (subst (λ (n : ℕ). TreeHas (store_at t.store (pages.next held) (next_of shelf)) versions root' n stamp) (sym f)
        (subst (λ (n : ℕ). TreeHas (store_at t.store (pages.next held) (next_of shelf)) versions n t.level stamp) (sym e) has_here));
  }

  -- the tree's own pages aren't before `low`, which is in use
  low_used : low < pages.next held
  low_used = let r = root_there t.store.nodes (pages.next held) t.store.blocks (next_of shelf) versions t.level all_keys root has_here.represents_all.represents_all in
      elim (cases_lt root low) [
        | inl lt ↦ (let none = t.own root lt in absurd (let bad : None ≡ Some r.1 = sym none ∙ r.2 in cc))
        | inr ge ↦ (let lt = r.0 in omega (arith, ge, lt))
      ]

  -- ---- after a version

  pub taken_at : (new : P) (shelf' : Shelf O Pen Seen) (now : TreePlace) (all : List Version) → disk_of shelf' ≡ disk_of shelf → ((after : List (List ℕ)) → pages.shows new start after → length after ≡ pages.homes held)
      → TakenIn pages new device shelf' start shown (store_at t.store (pages.next held) (next_of shelf)) all now
      → TreeTakes (device.block_count (disk_of shelf)) (settled_in (device.model (pen_of shelf'))) (pages.shows new start) low now.root (pages.next new) (next_of shelf') now.least all shown
  taken_at new shelf' now all disk counts k = record {
    pages = k.after;
    shown = k.tree.is.shows;
    changes = record {
      count = counts k.after k.tree.is.shows ∙ sym count;
      below = λ n lt. page_of shown k.after n (k.others n (let u = low_used in omega (arith, lt, u)) (t.own n lt));
    };
    tree = record {
      level = now.level;
      store = k.tree.store;
      represents_node = k.tree.is.reports;
      own = λ page lt. k.silent page (let u = low_used in omega (arith, lt, u)) (t.own page lt);
      limit = k.tree.is.limit;
      blocks = λ n node here. (let b = k.tree.is.represents_node.each n node here in record { inside = subst (λ d. n < device.block_count d) disk b.inside; octets = b.octets; here = b.settled; represents_node = b.represents_node });
      next = (let e = k.tree.is.next in omega (arith, e));
      has = k.tree.has;
    };
  }
