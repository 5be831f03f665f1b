-- Plans of a key node, made of those of its child.
use Rattle.std.proofs.Common.{◌≡◌, ℕ, suc, ◌<◌, ◌≤◌, List, length, set, length-set, take, drop, Option, Some, None, slice_get, refl, sym, ◌∙◌, ap, subst, arith}
use Rattle.std.specs.List.{insert}
use Rattle.std.specs.Option.{IfSome}
use Rattle.std.proofs.lemmas.Option.{same_Some, none-some}
use Rattle.disk_models.specs.declared.once.OnceDisk.{Ghosts}
use Rattle.once_store.specs.declared.shelf.Shelf.{Shelf}
use Rattle.once_store.specs.Shelves.{next_of}
use Rattle.page_journal.specs.Recovers.{laid}
use Rattle.page_tx.specs.inner.Laid.{length_laid}
use Rattle.version_model.specs.declared.child.Child.{Child}
use Rattle.version_model.specs.Versions.{Version}
use Rattle.version_model.specs.Ranges.{high_or}
use Rattle.version_model.specs.Pages.{Keys, PageNode, KeyNode, Store, NodeRepresentsIn, IsChildOf, child_keys, low_or}
use Rattle.version_model.proofs.api.Children.{key_represents}
use Rattle.version_model.proofs.api.Put.{Splits-child}
use Rattle.version_model.proofs.api.Representing.{key_node_of}
use Rattle.tsb_node.proofs.api.Pages.{one_decoded}
use Rattle.tsb_node.specs.Views.{PageRepresents}
use Rattle.tsb_walk.specs.declared.page_place.PagePlace.{PagePlace}
use Rattle.tsb_walk.specs.Shown.{RepresentNodes, keys_at}
use Rattle.tsb_walk.specs.PageWays.{IsLower}
use Rattle.tsb_tree.specs.declared.change.Change.{Change}
use Rattle.tsb_tree.specs.KeyNodes.{BeginsAfter}
use Rattle.tsb_tree.specs.Plans.{Plans, KeepsOwn}
use Rattle.tsb_tree.specs.Puts.{PutsOne, PutsTwo}
use Rattle.tsb_tree.specs.Wholes.{keys}
use Rattle.tsb_tree.proofs.Laying.{put, put_other}
use Rattle.tsb_tree.proofs.Puts.{puts_one, puts_two}
use Rattle.tsb_tree.proofs.Reporting.{shown-set, get-set_other}

module _ {O Pen Seen : Type 0} (device : Ghosts O Pen Seen) (shelf : Shelf O Pen Seen) (homes : ℕ) (s : Store) (v : Version) (level page : ℕ) (wide : Keys) (children : List Child) (i : ℕ) (child : Child)
    (at : s.nodes page ≡ Some (KeyNode (suc level) wide children)) (at_child : slice_get children i ≡ Some child) (from : child.low ≤ v.key)
    (up_to : (c : Child) → slice_get children (suc i) ≡ Some c → v.key < c.low) (change : Change) (plans : Plans device shelf homes s v level child.page change) where
  between : Store
  between = record { nodes = plans.nodes; limit = change.unused; blocks = plans.blocks; next = next_of shelf }

  own_child : (all : List Version) (k : Keys) → NodeRepresentsIn s all (suc level) k page → KeepsOwn s change
  own_child all k represents_all =
      let ks = (key_represents s.nodes s.limit s.blocks s.next all (suc level) k page level wide children at represents_all).1 in
      plans.own all (child_keys k children i child) (ks.stand (child_keys k children i child) child (record { place = i; at = at_child; range = refl }))

  -- a child that stayed one
  pub plans_child : change.new ≡ None → Plans device shelf homes s v (suc level) page change
  plans_child none = record {
    nodes = plans.nodes;
    blocks = plans.blocks;
    lays = plans.lays;
    represents_node = plans.represents_node;
    splits = rw none (Splits-child s (record { nodes = plans.nodes; limit = change.unused; blocks = plans.blocks; next = next_of shelf }) v level page wide children i child at at_child from up_to (rw none at plans.splits));
    silent = plans.silent;
    own = own_child;
  }

  module _ (new : Child) (some : change.new ≡ Some new) (inside : page < homes) (made : Change) where
    children' : List Child
    children' = insert children (suc i) new

    not_page : (p : ℕ) → s.nodes p ≡ None → p ≡ page → ⊥
    not_page p none e = none-some (KeyNode (suc level) wide children) (sym none ∙ ap s.nodes e ∙ at)

    -- its page alone is written
    pub plans_put_one : PutsOne page (KeyNode (suc level) wide (insert children (suc i) new)) change made → Plans device shelf homes s v (suc level) page made
    plans_put_one one =
        let node : PageNode = KeyNode (suc level) wide (insert children (suc i) new) in
        let t : Store = record { nodes = plans.nodes; limit = change.unused; blocks = plans.blocks; next = next_of shelf } in
        record {
          nodes = put page node plans.nodes;
          blocks = plans.blocks;
          lays = λ shown long are.
              (let below : List (List ℕ) = laid change.images.items shown in
              let room : page < length below = (let l = length_laid change.images.items shown in omega (arith, l, long, inside)) in
              rw (one.images shown) (shown-set below plans.nodes page one.octets node room one.represents_node (plans.lays shown long are)));
          represents_node = plans.represents_node;
          splits = rw (one.unused, one.new) (puts_one s t v level page wide children (insert children (suc i) new) i child new at at_child from up_to refl (rw some at plans.splits));
          silent = λ p in_limit none. put_other page node plans.nodes p (not_page p none) ∙ plans.silent p in_limit none;
          own = λ all k represents_all p in_limit none shown.
              ap (λ (l : List (List ℕ)). slice_get l p) (one.images shown) ∙ get-set_other (laid change.images.items shown) page p one.octets (not_page p none) ∙ own_child all k represents_all p in_limit none shown;
        }

    -- its page and one that was never used
    pub plans_put_two : change.unused < homes → PutsTwo page (suc level) wide (insert children (suc i) new) change made → Plans device shelf homes s v (suc level) page made
    plans_put_two room two =
        let mid : Child = two.mid in
        let front : PageNode = KeyNode (suc level) (keys wide.low mid.low) (take two.place (insert children (suc i) new)) in
        let back : PageNode = KeyNode (suc level) (keys mid.low wide.high) (drop two.place (insert children (suc i) new)) in
        let t : Store = record { nodes = plans.nodes; limit = change.unused; blocks = plans.blocks; next = next_of shelf } in
        record {
          nodes = put change.unused back (put page front plans.nodes);
          blocks = plans.blocks;
          lays = λ shown long are.
              (let below : List (List ℕ) = laid change.images.items shown in
              let long' : length below ≡ homes = length_laid change.images.items shown ∙ long in
              let first : RepresentNodes (set below page two.front) (put page front plans.nodes) = shown-set below plans.nodes page two.front front (let h : page < length below = omega (arith, long', inside) in h) two.represents_front (plans.lays shown long are) in
              let more : length (set below page two.front) ≡ homes = length-set below page two.front ∙ long' in
              rw (two.images shown) (shown-set (set below page two.front) (put page front plans.nodes) change.unused two.back back (let h : change.unused < length (set below page two.front) = omega (arith, more, room) in h) two.represents_back first));
          represents_node = plans.represents_node;
          splits = rw (two.unused, two.new) (puts_two s t v level page wide children (insert children (suc i) new) i child new at at_child from up_to refl (rw some at plans.splits) two.place two.mid two.at two.some);
          silent = λ p in_limit none.
              put_other change.unused back (put page front plans.nodes) p (λ e. omega (arith, e, in_limit, plans.splits.limit_grows)) ∙ put_other page front plans.nodes p (not_page p none) ∙ plans.silent p in_limit none;
          own = λ all k represents_all p in_limit none shown.
              (let apart : p ≡ change.unused → ⊥ = λ e. omega (arith, e, in_limit, plans.splits.limit_grows) in
              ap (λ (l : List (List ℕ)). slice_get l p) (two.images shown) ∙ get-set_other (set (laid change.images.items shown) page two.front) change.unused p two.back apart
              ∙ get-set_other (laid change.images.items shown) page p two.front (not_page p none) ∙ own_child all k represents_all p in_limit none shown);
        }

-- ---- what the descent found

-- the page represents its key node in the store, and the child stands
pub record IsFound (s : Store) (all : List Version) (place next : PagePlace) (children : List Child) : Type 0 where
  pub at : s.nodes place.page ≡ Some (KeyNode (suc next.level) (keys_at place) children)
  pub represents_all : NodeRepresentsIn s all next.level (keys_at next) next.page
  pub low : place.low ≤ next.low
  pub high : high_or next.high ≤ high_or place.high

pub found_lower : (shown : List (List ℕ)) (s : Store) (all : List Version) (key : ℕ) (place next : PagePlace) → RepresentNodes shown s.nodes → (lower : IsLower shown key place next) → 1 < place.level → NodeRepresentsIn s all place.level (keys_at place) place.page → IsFound s all place next lower.children
found_lower shown s all key place next are lower above represents_all =
    let k = key_node_of s.nodes s.limit s.blocks s.next all place.level (keys_at place) place.page above represents_all in
    let decoded = are place.page _ k.at in
    let same : KeyNode (suc k.level) (keys_at place) k.children ≡ KeyNode place.level (keys_at place) lower.children
    = one_decoded lower.represents_node.octets _ _ (subst (λ (o : List ℕ). PageRepresents o (KeyNode (suc k.level) (keys_at place) k.children)) (same_Some _ _ (sym decoded.at ∙ lower.represents_node.at)) decoded.represents_node) lower.represents_node.represents_node in
    let children : k.children ≡ lower.children = cc in
    let level : k.level ≡ next.level = omega (arith, k.is, lower.level) in
    let child : IsChildOf (keys_at place) k.children (keys_at next) (record { low = next.low; page = next.page }) =
    subst (λ (cs : List Child). IsChildOf (keys_at place) cs (keys_at next) (record { low = next.low; page = next.page })) (sym children) lower.child in
    record {
      at = k.at ∙ ap (λ (m : ℕ). Some (KeyNode (suc m) (keys_at place) k.children)) level ∙ ap (λ (cs : List Child). Some (KeyNode (suc next.level) (keys_at place) cs)) children;
      represents_all = subst (λ (m : ℕ). NodeRepresentsIn s all m (keys_at next) next.page) level (k.stand (keys_at next) (record { low = next.low; page = next.page }) child);
      low = (k.are.inside (keys_at next) (record { low = next.low; page = next.page }) child).0;
      high = (k.are.inside (keys_at next) (record { low = next.low; page = next.page }) child).2;
    }

-- the key is below the next child's lowest
pub below_next : (shown : List (List ℕ)) (key : ℕ) (place next : PagePlace) (lower : IsLower shown key place next) (k : ℕ) → k < high_or next.high → (c : Child) → slice_get lower.children (suc lower.child.place) ≡ Some c → k < c.low
below_next shown key place next lower k lt c at =
    let high : low_or (high_or place.high) (slice_get lower.children (suc lower.child.place)) ≡ high_or next.high = ap (λ (x : Keys). x.high) lower.child.range in
    let is : low_or (high_or place.high) (slice_get lower.children (suc lower.child.place)) ≡ c.low = ap (low_or (high_or place.high)) at in
    omega (arith, high, is, lt)

-- a new half of the child begins after it
pub after_child : (shown : List (List ℕ)) (key : ℕ) (place next : PagePlace) (lower : IsLower shown key place next) (new : ℕ) → next.low < new → new < high_or next.high → BeginsAfter lower.children lower.child.place new
after_child shown key place next lower new above below = record {
  child = record { low = next.low; page = next.page };
  at = lower.child.at;
  above = above;
  below = below_next shown key place next lower new below;
}

pub below_high : (high : Option ℕ) (n : ℕ) → n < high_or high → IfSome high (λ h. n < h)
below_high None n lt = tt
below_high (Some h) n lt = lt
