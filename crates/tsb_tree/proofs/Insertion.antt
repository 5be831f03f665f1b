-- A tree takes a version, or stays as it was.
use Rattle.std.proofs.Common.{◌≡◌, ℕ, suc, ◌+◌, ◌*◌, ◌<◌, ◌≤◌, Bool, false, List, [], ◌∷◌, ◌++◌, length, set, Option, Some, None, Result, Ok, Err, ◌↔◌, slice_get, nat_cmp, is_lt, refl, sym, ◌∙◌, ap, subst, arith}
use Rattle.std.proofs.lemmas.Bool.Decides.{nat_tests}
use Rattle.disk_models.specs.declared.once.OnceDisk.{Ghosts as OnceGhosts}
use Rattle.once_store.specs.declared.shelf.Shelf.{Shelf}
use Rattle.once_store.specs.Shelves.{disk_of, pen_of, next_of}
use Rattle.page_journal.specs.Layout.{Image, pages_of}
use Rattle.page_journal.specs.Recovers.{laid}
use Rattle.page_tx.specs.declared.pages.Pages.{Ghosts}
use Rattle.page_tx.specs.declared.error.PageError.{PageError}
use Rattle.page_tx.specs.declared.error.PageError.TheVariants as refusals
use Rattle.page_tx.specs.Images.{joined}
use Rattle.page_tx.specs.Refusals.{LayRefusal}
use Rattle.page_tx.specs.Start.{Start}
use Rattle.page_tx.specs.Device.{KeepsDevice}
use Rattle.page_tx.specs.inner.Laid.{length_laid}
use Rattle.page_tx.proofs.Joining.{length_joined}
use Rattle.page_tx.proofs.Laying.{length_pages_of}
use Rattle.version_model.specs.declared.child.Child.{Child}
use Rattle.version_model.specs.Versions.{Version}
use Rattle.version_model.specs.Ranges.{key_end, stamp_end}
use Rattle.version_model.specs.Pages.{Keys, PageNode, KeyNode, Store, NodeRepresentsIn, all_keys}
use Rattle.version_model.specs.Inserts.{Became}
use Rattle.tsb_walk.specs.Refusals.{OnlyReads}
use Rattle.tsb_walk.specs.declared.page_place.PagePlace.{PagePlace}
use Rattle.tsb_walk.specs.Shown.{keys_at}
use Rattle.tsb_tree.specs.declared.change.Change.{Change}
use Rattle.tsb_tree.specs.declared.error.TreeError.{TreeError}
use Rattle.tsb_tree.specs.declared.error.TreeError.TheVariants as errors
use Rattle.tsb_tree.specs.declared.tree.TreePlace.{TreePlace}
use Rattle.tsb_tree.specs.Inserted.{PlansTree, TakenIn}
use Rattle.tsb_tree.specs.NoRoom.{AtRoot}
use Rattle.tsb_tree.specs.Plans.{Plans}
use Rattle.tsb_tree.specs.Raises.{GrowsRoot, RootRefusal, TreeCanBeLaid}
use Rattle.tsb_tree.specs.Refusals.{PlanRefusal, InsertRefusal, of_page}
use Rattle.tsb_tree.specs.Shelves.{LeavesShelf}
use Rattle.tsb_tree.specs.Stores.{IsStore}
use Rattle.tsb_tree.specs.Trees.{TreeHas, TreeRepresented}
use Rattle.tsb_tree.specs.Takers.{CanTake}
use Rattle.tsb_tree.proofs.Creating.{without_few}
use Rattle.tsb_tree.proofs.Growing.{TreeHas-grown, TreeHas-with, took, grown_root, not_back}
use Rattle.tsb_tree.proofs.Laying.{put, put_other}
use Rattle.tsb_tree.proofs.Representing.{reads_then}
use Rattle.tsb_tree.proofs.Shelving.{represents_on, honest_on}
use Rattle.tsb_tree.proofs.Reporting.{shown-set, get-set_other}

module _ {O Pen Seen : Type 0} (device : OnceGhosts O Pen Seen) (shelf : Shelf O Pen Seen) (homes : ℕ) (s : Store) (all : List Version) (v : Version) (root level least : ℕ) (has : TreeHas s all root level least)
    (later : least ≤ v.stamp) (key : v.key + 1 < key_end) (in_time : v.stamp < stamp_end) (change : Change) (plans : Plans device shelf homes s v level root change) where
  abbrev between : Store
  between = record { nodes = plans.nodes; limit = change.unused; blocks = plans.blocks; next = next_of shelf }

  -- a root that stayed one
  pub tree_same : change.new ≡ None → (now : TreePlace) → now.root ≡ root → now.level ≡ level → now.least ≡ v.stamp + 1 → PlansTree device shelf homes s (all ++ v ∷ []) change now
  tree_same none now root_is level_is least_is =
      let splits = rw none at plans.splits in
      let represents_all : NodeRepresentsIn between (all ++ v ∷ []) level all_keys root = took s between v root level least None later key in_time splits all has in
      record {
        nodes = plans.nodes;
        blocks = plans.blocks;
        lays = plans.lays;
        represents_node = plans.represents_node;
        has = rw (root_is, level_is, least_is) (TreeHas-with s between v root level least None later key in_time splits all has between root level has.represents_all.some_level has.represents_all.few_levels represents_all);
        silent = plans.silent;
        own = plans.own all all_keys has.represents_all.represents_all;
      }

  module _ (new : Child) (some : change.new ≡ Some new) where
    became : Became between (all ++ v ∷ []) level all_keys root (Some new)
    became = took s between v root level least (Some new) later key in_time (rw some at plans.splits) all has

    -- its new half begins above the lowest key
    pub half_above : 0 < new.low
    half_above = became.0

    -- a root that became two
    pub tree_grown : (made : Change) → GrowsRoot level root new change made → change.unused < homes → level < 7 → (now : TreePlace) → now.root ≡ change.unused → now.level ≡ level + 1 → now.least ≡ v.stamp + 1
        → PlansTree device shelf homes s (all ++ v ∷ []) made now
    tree_grown made grows room low now root_is level_is least_is =
        let node : PageNode = KeyNode (suc level) all_keys (record { low = 0; page = root } ∷ new ∷ []) in
        let nodes : ℕ → Option PageNode = put change.unused node plans.nodes in
        let u : Store = record { nodes = nodes; limit = change.unused + 1; blocks = plans.blocks; next = next_of shelf } in
        let represents_all : NodeRepresentsIn u (all ++ v ∷ []) (suc level) all_keys change.unused = grown_root between (all ++ v ∷ []) level root new became in
        let up : level + 1 ≡ suc level = omega arith in
        let apart : (p : ℕ) → p < s.limit → p ≡ change.unused → ⊥ = λ p in_limit e. omega (arith, e, in_limit, plans.splits.limit_grows) in
        record {
          nodes = nodes;
          blocks = plans.blocks;
          lays = λ shown long are.
              (let below : List (List ℕ) = laid change.images.items shown in
              let inside : change.unused < length below = (let l = length_laid change.images.items shown in omega (arith, l, long, room)) in
              rw (grows.images shown) (shown-set below plans.nodes change.unused grows.octets node inside grows.represents_node (plans.lays shown long are)));
          represents_node = plans.represents_node;
          has = rw (root_is, level_is, up, least_is, grows.unused) (TreeHas-with s between v root level least (Some new) later key in_time (rw some at plans.splits) all has u change.unused (suc level) (omega arith) (omega (arith, low)) represents_all);
          silent = λ p in_limit none. put_other change.unused node plans.nodes p (apart p in_limit) ∙ plans.silent p in_limit none;
          own = λ p in_limit none shown.
              ap (λ (l : List (List ℕ)). slice_get l p) (grows.images shown) ∙ get-set_other (laid change.images.items shown) change.unused p grows.octets (apart p in_limit) ∙ plans.own all all_keys has.represents_all.represents_all p in_limit none shown;
        }

-- what is planned is taken in where it is laid
pub taken_in : {P O Pen Seen : Type 0} (pages : Ghosts P) (old new : P) (device : OnceGhosts O Pen Seen) (shelf shelf' : Shelf O Pen Seen) (start : Start) (shown : List (List ℕ)) (s : Store) (all : List Version) (change : Change) (now : TreePlace)
    → IsStore pages old device shelf start shown s → length shown ≡ pages.homes old → PlansTree device shelf' (pages.homes old) s all change now
    → pages.shows new start (laid change.images.items shown) → pages.next new ≡ change.unused → device.honest (disk_of shelf') (pen_of shelf')
    → TakenIn pages new device shelf' start shown s all now
taken_in pages old new device shelf shelf' start shown s all change now is long plan shows next honest = record {
  after = laid change.images.items shown;
  tree = record {
    store = record { nodes = plan.nodes; limit = change.unused; blocks = plan.blocks; next = next_of shelf' };
    is = record { shows = shows; reports = plan.lays shown long is.reports; limit = sym next; honest = honest; represents_node = plan.represents_node; next = refl };
    has = plan.has;
  };
  others = λ page in_limit none. plan.own page in_limit none shown;
  silent = plan.silent;
}

-- the tree is as it was where pages were read alone, and blocks were spent
pub as_it_was : {P O Pen Seen : Type 0} (pages : Ghosts P) (old new : P) (E : Type 0) (device : OnceGhosts O Pen Seen) (most : ℕ) (shelf shelf' : Shelf O Pen Seen) (F G : Type 0) (start : Start) (shown : List (List ℕ)) (all : List Version) (root level least : ℕ)
    → OnlyReads pages old new E → LeavesShelf device most shelf shelf' F G → TreeRepresented pages old device shelf start shown all root level least → TreeRepresented pages new device shelf' start shown all root level least
as_it_was pages old new E device most shelf shelf' F G start shown all root level least reads leaves tree =
    let s : Store = tree.store in
    let t : Store = record { nodes = s.nodes; limit = s.limit; blocks = s.blocks; next = next_of shelf' } in
    record {
      store = t;
      is = record {
        shows = reads.shown start shown tree.is.shows;
        reports = tree.is.reports;
        limit = tree.is.limit ∙ sym reads.next;
        honest = honest_on device most shelf shelf' F G leaves tree.is.honest;
        represents_node = represents_on device most shelf shelf' F G s.blocks leaves tree.is.honest tree.is.represents_node;
        next = refl;
      };
      has = TreeHas-grown s t all root level least refl refl (λ n node h. h) (omega (arith, tree.is.next, leaves.forward)) tree.has;
    }

-- what isn't planned isn't inserted
pub plan_insert : (e : TreeError) (homes next named level : ℕ) (down may_split : Bool) (least stamp : ℕ) → (may_split ≡ false → 30 < named + (2 * level + 3)) → PlanRefusal homes next level down may_split e → InsertRefusal homes next named level down least stamp e
plan_insert errors.StampBack homes next named level down may_split least stamp many is = absurd is
plan_insert errors.TooHigh homes next named level down may_split least stamp many is = absurd is
plan_insert (errors.BadNode page) homes next named level down may_split least stamp many is = tt
plan_insert (errors.Damaged block) homes next named level down may_split least stamp many is = is
plan_insert (errors.Pages refusals.PagesFull) homes next named level down may_split least stamp many is = omega (arith, is)
plan_insert (errors.Pages refusals.TooManyImages) homes next named level down may_split least stamp many is = many is
plan_insert (errors.Pages refusals.OutOfMemory) homes next named level down may_split least stamp many is = is
plan_insert (errors.Pages refusals.Fault) homes next named level down may_split least stamp many is = is
plan_insert (errors.Pages refusals.NeedsRecovery) homes next named level down may_split least stamp many is = is
plan_insert (errors.Once refusal) homes next named level down may_split least stamp many is = tt
plan_insert errors.OutOfMemory homes next named level down may_split least stamp many is = tt

-- nor is what has no root above it
pub grow_insert : (e : TreeError) (homes next unused named level : ℕ) (down : Bool) (least stamp : ℕ) → unused ≤ next + suc level → RootRefusal homes unused level e → InsertRefusal homes next named level down least stamp e
grow_insert errors.StampBack homes next unused named level down least stamp used is = absurd is
grow_insert errors.TooHigh homes next unused named level down least stamp used is = is
grow_insert (errors.BadNode page) homes next unused named level down least stamp used is = tt
grow_insert (errors.Damaged block) homes next unused named level down least stamp used is = is
grow_insert (errors.Pages refusals.PagesFull) homes next unused named level down least stamp used is = omega (arith, is, used)
grow_insert (errors.Pages refusals.TooManyImages) homes next unused named level down least stamp used is = absurd is
grow_insert (errors.Pages refusals.OutOfMemory) homes next unused named level down least stamp used is = is
grow_insert (errors.Pages refusals.Fault) homes next unused named level down least stamp used is = absurd is
grow_insert (errors.Pages refusals.NeedsRecovery) homes next unused named level down least stamp used is = absurd is
grow_insert (errors.Once refusal) homes next unused named level down least stamp used is = tt
grow_insert errors.OutOfMemory homes next unused named level down least stamp used is = tt

-- nor is what isn't laid
pub lay_insert : (e : PageError) (homes next : ℕ) (named : List ℕ) (level : ℕ) (down : Bool) (least stamp : ℕ) (change : Change) → TreeCanBeLaid homes next level change → LayRefusal homes change.unused (length (joined named (pages_of change.images.items))) e
    → InsertRefusal homes next (length named) level down least stamp (of_page e)
lay_insert refusals.Fault homes next named level down least stamp change can is = absurd is
lay_insert refusals.NeedsRecovery homes next named level down least stamp change can is = absurd is
lay_insert refusals.TooManyImages homes next named level down least stamp change can is =
    omega (arith, is.1, length_joined named (pages_of change.images.items), without_few named (pages_of change.images.items), length_pages_of change.images.items, can.few)
lay_insert refusals.PagesFull homes next named level down least stamp change can is = absurd (omega (arith, is, can.inside))
lay_insert refusals.OutOfMemory homes next named level down least stamp change can is = tt

-- the root of a tree can take a version that isn't before the least stamp
pub root_can : {P O Pen Seen : Type 0} (pages : Ghosts P) (held : P) (device : OnceGhosts O Pen Seen) (shelf : Shelf O Pen Seen) (start : Start) (shown : List (List ℕ)) (all : List Version) (place : PagePlace) (root level least : ℕ) (v : Version)
    → place.page ≡ root → place.level ≡ level → keys_at place ≡ all_keys → (tree : TreeRepresented pages held device shelf start shown all root level least) → least ≤ v.stamp → v.key + 1 < key_end → CanTake pages held device shelf tree.store all place v
root_can pages held device shelf start shown all place root level least v page_is level_is keys_are tree later key = record {
  start = start;
  shown = shown;
  is = tree.is;
  represents_all = subst (λ (p : ℕ). NodeRepresentsIn tree.store all place.level (keys_at place) p) (sym page_is)
      (subst (λ (k : Keys). NodeRepresentsIn tree.store all place.level k root) (sym keys_are) (subst (λ (l : ℕ). NodeRepresentsIn tree.store all l all_keys root) (sym level_is) tree.has.represents_all.represents_all));
  above = not_back tree.store all root level least v.stamp tree.has later;
  bounded = tree.has.bounded;
  inside = key;
}

-- what is so on the way down from that root
pub root_so : {P O Pen Seen : Type 0} (pages : Ghosts P) (held : P) (device : OnceGhosts O Pen Seen) (shelf : Shelf O Pen Seen) (start : Start) (shown : List (List ℕ)) (all : List Version) (place : PagePlace) (root level least : ℕ) (v : Version) (fact : List (List ℕ) → PagePlace → Type 0)
    (page_is : place.page ≡ root) (level_is : place.level ≡ level) (keys_are : keys_at place ≡ all_keys) (tree : TreeRepresented pages held device shelf start shown all root level least) (later : least ≤ v.stamp) (key : v.key + 1 < key_end)
    → fact (root_can pages held device shelf start shown all place root level least v page_is level_is keys_are tree later key).shown place → AtRoot (fact shown) root level
unfolding root_can
root_so pages held device shelf start shown all place root level least v fact page_is level_is keys_are tree later key is = (place, page_is, level_is, keys_are, is)

-- what is planned at the root's place is planned at the root
pub root_plans : {O Pen Seen : Type 0} (device : OnceGhosts O Pen Seen) (shelf : Shelf O Pen Seen) (homes : ℕ) (s : Store) (v : Version) (place : PagePlace) (root level : ℕ) (change : Change) → place.page ≡ root → place.level ≡ level
    → Plans device shelf homes s v place.level place.page change → Plans device shelf homes s v level root change
root_plans device shelf homes s v place root level change page_is level_is plans =
    subst (λ (p : ℕ). Plans device shelf homes s v level p change) page_is (subst (λ (l : ℕ). Plans device shelf homes s v l place.page change) level_is plans)

-- a stamp that isn't back isn't refused as such
pub never_back : (homes next named level : ℕ) (down : Bool) (least stamp : ℕ) (e : TreeError) → InsertRefusal homes next named level down least stamp e → least ≤ stamp → e ≡ errors.StampBack → ⊥
never_back homes next named level down least stamp e refused le is =
    let back : stamp < least = subst (λ (x : TreeError). InsertRefusal homes next named level down least stamp x) is refused in omega (arith, back, le)

-- a root that has another above it isn't at the highest level
pub not_highest : (level : ℕ) (made : Change) → ((◌≡◌ {A = Result Change TreeError} (Ok made) (Err errors.TooHigh)) ↔ (level ≡ 7)) → level ≤ 7 → level < 7
not_highest level made high few =
    let ne : level ≡ 7 → ⊥ = λ e. not_both made (high.1 e) in omega (arith, ne, few)
  where
    not_both : (made : Change) → ◌≡◌ {A = Result Change TreeError} (Ok made) (Err errors.TooHigh) → ⊥
    not_both made e = cc

-- pages that were read alone, and then not set
pub lay_reads : {P : Type 0} (pages : Ghosts P) (a b c : P) (F : Type 0) → OnlyReads pages a b F → (F → ⊥) → ((start : Start) (shown : List (List ℕ)) → pages.shows b start shown → pages.shows c start shown)
    → pages.homes c ≡ pages.homes b → pages.next c ≡ pages.next b → pages.named c ≡ pages.named b → pages.down c ≡ pages.down b → KeepsDevice (pages.honest b) (pages.honest c) (pages.faults b) (pages.faults c) ⊥ → OnlyReads pages a c ⊥
lay_reads pages a b c F reads nf shown homes next named down device =
    reads_then pages a b c F ⊥ reads nf (record { shown = shown; homes = homes; next = next; named = named; down = down; device = device })

pub not_less : (r : Bool) (a b : ℕ) → r ≡ is_lt (nat_cmp a b) → r ≡ false → b ≤ a
not_less r a b is h = grind (arith, nat_tests)
