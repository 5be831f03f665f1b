-- What is planned for a child of a key node, raised to the key node.
use Rattle.std.proofs.Common.{◌≡◌, ℕ, suc, ◌+◌, ◌<◌, ◌≤◌, inl, inr, Bool, List, [], ◌∷◌, ◌++◌, Option, Some, None, Result, Ok, Err, slice_get, refl, sym, ◌∙◌, ap, subst, arith}
use Rattle.std.specs.List.{insert}
use Rattle.std.specs.Prelude.{IfErr, IfOk, OnOk, IfSome, IsSome}
use Rattle.disk_models.specs.declared.once.OnceDisk.{Ghosts as OnceGhosts}
use Rattle.once_store.specs.declared.shelf.Shelf.{Shelf}
use Rattle.once_store.specs.Shelves.{next_of}
use Rattle.once_store.specs.declared.error.AppendError.{AppendError}
use Rattle.once_store.specs.declared.error.AppendError.TheVariants as appends
use Rattle.page_tx.specs.declared.pages.Pages.{Ghosts}
use Rattle.page_tx.specs.Start.{Start}
use Rattle.page_tx.specs.declared.error.PageError.TheVariants as pages
use Rattle.version_model.specs.declared.child.Child.{Child}
use Rattle.version_model.specs.Versions.{Version, IsAbove}
use Rattle.version_model.specs.Pages.{Keys, KeyNode, Store, NodeRepresentsIn}
use Rattle.version_model.specs.Ranges.{high_or}
use Rattle.tsb_node.specs.declared.decoded_key_node.DecodedKeyNode.{DecodedKeyNode}
use Rattle.tsb_node.specs.Views.{keys_between}
use Rattle.version_model.specs.Inserts.{Became}
use Rattle.version_model.proofs.api.Pushed.{Adds-push}
use Rattle.version_model.proofs.api.Representing.{key_node_of}
use Rattle.tsb_walk.specs.declared.page_place.PagePlace.{PagePlace}
use Rattle.tsb_walk.specs.Shown.{RepresentsNode, RepresentNodes, keys_at}
use Rattle.tsb_walk.specs.PageWays.{IsLower}
use Rattle.tsb_walk.specs.Refusals.{OnlyReads, WalkRefusal}
use Rattle.tsb_walk.specs.declared.error.NodeError.{NodeError}
use Rattle.tsb_walk.specs.declared.error.NodeError.TheVariants as walks
use Rattle.tsb_tree.specs.declared.change.Change.{Change}
use Rattle.tsb_tree.specs.declared.error.TreeError.{TreeError}
use Rattle.tsb_tree.specs.declared.error.TreeError.TheVariants as errors
use Rattle.tsb_tree.specs.KeyNodes.{BeginsAfter}
use Rattle.tsb_tree.specs.NoRoom.{LeadsToFullLeaf, in_child}
use Rattle.tsb_tree.specs.Outlived.{LeadsToOutdated, outdated_below}
use Rattle.tsb_tree.specs.Plans.{Plans, CanBeLaid}
use Rattle.tsb_tree.specs.Puts.{PutsChild, PutRefusal}
use Rattle.tsb_tree.specs.Raises.{HasRoomAfter, RaiseRefusal}
use Rattle.tsb_tree.specs.Refusals.{ReadRefusal, PlanRefusal, BlamesNone, of_node}
use Rattle.tsb_tree.specs.Shelves.{KeepsShelf}
use Rattle.tsb_tree.specs.Stores.{IsStore}
use Rattle.tsb_tree.specs.Takers.{CanTake}
use Rattle.tsb_tree.proofs.Shelving.{leaves_more}
use Rattle.tsb_tree.proofs.KeyPlans.{plans_child, plans_put_one, plans_put_two, IsFound, found_lower, below_next, after_child, below_high}

-- reading leaves the store as it is
pub store_read : {P O Pen Seen : Type 0} (pages : Ghosts P) (a b : P) (F : Type 0) (device : OnceGhosts O Pen Seen) (shelf : Shelf O Pen Seen) (start : Start) (shown : List (List ℕ)) (s : Store) → OnlyReads pages a b F → IsStore pages a device shelf start shown s → IsStore pages b device shelf start shown s
store_read pages a b F device shelf start shown s reads is = record {
  shows = reads.shown start shown is.shows;
  reports = is.reports;
  limit = is.limit ∙ sym reads.next;
  honest = is.honest;
  represents_node = is.represents_node;
  next = is.next;
}

-- the child that has the key can take what its key node can
pub take_lower : {P O Pen Seen : Type 0} (pages : Ghosts P) (a b : P) (F : Type 0) (device : OnceGhosts O Pen Seen) (shelf : Shelf O Pen Seen) (s : Store) (all : List Version) (place next : PagePlace) (v : Version)
    → OnlyReads pages a b F → (can : CanTake pages a device shelf s all place v) → 1 < place.level → IsLower can.shown v.key place next
    → CanTake pages b device shelf s all next v
take_lower pages a b F device shelf s all place next v reads can above lower = record {
  start = can.start;
  shown = can.shown;
  is = store_read pages a b F device shelf can.start can.shown s reads can.is;
  represents_all = (found_lower can.shown s all v.key place next can.is.reports lower above can.represents_all).represents_all;
  above = can.above;
  bounded = can.bounded;
  inside = can.inside;
}

-- what is so of the pages that it is shown is so of those that its key node is
pub at_lower : {P O Pen Seen : Type 0} (pages : Ghosts P) (a b : P) (F : Type 0) (device : OnceGhosts O Pen Seen) (shelf : Shelf O Pen Seen) (s : Store) (all : List Version) (place next : PagePlace) (v : Version) (reads : OnlyReads pages a b F) (can : CanTake pages a device shelf s all place v) (above : 1 < place.level) (lower : IsLower can.shown v.key place next)
    → (fact : List (List ℕ) → Type 0) → fact (take_lower pages a b F device shelf s all place next v reads can above lower).shown → fact can.shown
unfolding take_lower
at_lower pages a b F device shelf s all place next v reads can above lower fact is = is

-- the way from that child leads on from its key node
pub leads_lower : {P O Pen Seen : Type 0} (pages : Ghosts P) (a b : P) (F : Type 0) (device : OnceGhosts O Pen Seen) (shelf : Shelf O Pen Seen) (s : Store) (all : List Version) (place next : PagePlace) (v : Version) (reads : OnlyReads pages a b F) (can : CanTake pages a device shelf s all place v) (above : 1 < place.level) (lower : IsLower can.shown v.key place next)
    → LeadsToFullLeaf (take_lower pages a b F device shelf s all place next v reads can above lower).shown v next → LeadsToFullLeaf can.shown v place
unfolding take_lower
leads_lower pages a b F device shelf s all place next v reads can above lower rest = in_child place next lower rest

-- and so does the way to a leaf that has something outlived
pub outdated_lower : {P O Pen Seen : Type 0} (pages : Ghosts P) (a b : P) (F : Type 0) (device : OnceGhosts O Pen Seen) (shelf : Shelf O Pen Seen) (s : Store) (all : List Version) (place next : PagePlace) (v : Version) (reads : OnlyReads pages a b F) (can : CanTake pages a device shelf s all place v) (above : 1 < place.level) (lower : IsLower can.shown v.key place next)
    → LeadsToOutdated (take_lower pages a b F device shelf s all place next v reads can above lower).shown v next → LeadsToOutdated can.shown v place
unfolding take_lower
outdated_lower pages a b F device shelf s all place next v reads can above lower rest = outdated_below place next lower rest

module _ {O Pen Seen : Type 0} (device : OnceGhosts O Pen Seen) (shelf : Shelf O Pen Seen) (homes : ℕ) (shown : List (List ℕ)) (s : Store) (all : List Version) (v : Version) (place next : PagePlace) (are : RepresentNodes shown s.nodes)
    (lower : IsLower shown v.key place next) (above : 1 < place.level) (represents_all : NodeRepresentsIn s all place.level (keys_at place) place.page) (change : Change) (plans : Plans device shelf homes s v next.level next.page change) where
  pub found : IsFound s all place next lower.children
  found = found_lower shown s all v.key place next are lower above represents_all

  up_to : (c : Child) → slice_get lower.children (suc lower.child.place) ≡ Some c → v.key < c.low
  up_to = below_next shown v.key place next lower v.key lower.has.high

  -- a child that stayed one
  pub raised_same : change.new ≡ None → Plans device shelf homes s v place.level place.page change
  raised_same none =
      subst (λ (m : ℕ). Plans device shelf homes s v m place.page change) lower.level
      (plans_child device shelf homes s v next.level place.page (keys_at place) lower.children lower.child.place (record { low = next.low; page = next.page }) found.at lower.child.at lower.has.low up_to change plans none)

  -- a child that became two
  pub raised_half : (new : Child) → change.new ≡ Some new → (made : Change) → place.page < homes → made.unused ≤ homes
      → PutsChild place.page place.level (keys_at place) (insert lower.children (suc lower.child.place) new) change made → Plans device shelf homes s v place.level place.page made
  raised_half new some made inside room puts =
      let puts' : PutsChild place.page (suc next.level) (keys_at place) (insert lower.children (suc lower.child.place) new) change made =
      subst (λ (m : ℕ). PutsChild place.page m (keys_at place) (insert lower.children (suc lower.child.place) new) change made) (sym lower.level) puts in
      subst (λ (m : ℕ). Plans device shelf homes s v m place.page made) lower.level (elim puts' [
        | inl one ↦ plans_put_one device shelf homes s v next.level place.page (keys_at place) lower.children lower.child.place (record { low = next.low; page = next.page }) found.at lower.child.at lower.has.low up_to change plans new some inside made one
        | inr two ↦ plans_put_two device shelf homes s v next.level place.page (keys_at place) lower.children lower.child.place (record { low = next.low; page = next.page }) found.at lower.child.at lower.has.low up_to change plans new some inside made (omega (arith, two.unused, room)) two
      ])

  pub became : IsAbove all v.stamp → (new : Child) → change.new ≡ Some new → (next.low < new.low) × (new.low < (keys_at next).high)
  became later new some =
      let is : Became (record { nodes = plans.nodes; limit = change.unused; blocks = plans.blocks; next = next_of shelf }) (all ++ v ∷ []) next.level (keys_at next) next.page (Some new) =
      rw some at (plans.splits.represents_all all (all ++ v ∷ []) (keys_at next) (record { low = lower.has.low; high = lower.has.high }) later (Adds-push all v) found.represents_all) in (is.0, is.1)

  -- its new half begins among its keys
  abbrev pub half_room : IsAbove all v.stamp → (new : Child) → change.new ≡ Some new → HasRoomAfter shown place new
  half_room later new some = record {
    children = lower.children;
    represents_node = lower.represents_node;
    at = lower.child.place;
    beyond = after_child shown v.key place next lower new.low (became later new some).0 (became later new some).1;
    below = omega (arith, (became later new some).1, found.high);
  }

  by_half : (o : Option Child) → change.new ≡ o → IsAbove all v.stamp → (next' level' : ℕ) (result : Result Change TreeError) → (change.new ≡ None → result ≡ Ok change)
      → ((new : Child) (room : HasRoomAfter shown place new) → change.new ≡ Some new → IfOk result (PutsChild place.page place.level (keys_at place) (insert room.children (suc room.at) new) change))
      → (IsSome change.new → OnOk result (place.page < homes)) → IfOk result (CanBeLaid homes next' level') → IfOk result (λ made. Plans device shelf homes s v place.level place.page made)
  by_half None none later next' level' result kept puts inside laid = subst (λ (r : Result Change TreeError). IfOk r (λ made. Plans device shelf homes s v place.level place.page made)) (sym (kept none)) (raised_same none)
  by_half (Some new) some later next' level' (Ok made) kept puts inside laid = raised_half new some made (inside (subst (λ (o : Option Child). IsSome o) (sym some) refl)) laid.inside (puts new (half_room later new some) some)
  by_half (Some new) some later next' level' (Err e) kept puts inside laid = tt

  -- what is raised is planned
  pub raised : IsAbove all v.stamp → (next' level' : ℕ) (result : Result Change TreeError) → (change.new ≡ None → result ≡ Ok change)
      → ((new : Child) (room : HasRoomAfter shown place new) → change.new ≡ Some new → IfOk result (PutsChild place.page place.level (keys_at place) (insert room.children (suc room.at) new) change))
      → (IsSome change.new → OnOk result (place.page < homes)) → IfOk result (CanBeLaid homes next' level') → IfOk result (λ made. Plans device shelf homes s v place.level place.page made)
  raised = by_half change.new refl

-- what isn't read isn't planned
pub read_plan : (e : TreeError) (homes next level : ℕ) (down may_split : Bool) → ReadRefusal down e → PlanRefusal homes next level down may_split e
read_plan errors.StampBack homes next level down may_split is = is
read_plan errors.TooHigh homes next level down may_split is = is
read_plan (errors.BadNode page) homes next level down may_split is = tt
read_plan (errors.Damaged block) homes next level down may_split is = is
read_plan (errors.Pages pages.PagesFull) homes next level down may_split is = absurd is
read_plan (errors.Pages pages.TooManyImages) homes next level down may_split is = absurd is
read_plan (errors.Pages pages.OutOfMemory) homes next level down may_split is = is
read_plan (errors.Pages pages.Fault) homes next level down may_split is = is
read_plan (errors.Pages pages.NeedsRecovery) homes next level down may_split is = is
read_plan (errors.Once refusal) homes next level down may_split is = tt
read_plan errors.OutOfMemory homes next level down may_split is = tt

-- what isn't planned for a child isn't planned for its key node
pub plan_higher : (e : TreeError) (homes next level : ℕ) (down may_split : Bool) → PlanRefusal homes next level down may_split e → PlanRefusal homes next (suc level) down may_split e
plan_higher errors.StampBack homes next level down may_split is = is
plan_higher errors.TooHigh homes next level down may_split is = is
plan_higher (errors.BadNode page) homes next level down may_split is = tt
plan_higher (errors.Damaged block) homes next level down may_split is = is
plan_higher (errors.Pages pages.PagesFull) homes next level down may_split is = omega (arith, is)
plan_higher (errors.Pages pages.TooManyImages) homes next level down may_split is = is
plan_higher (errors.Pages pages.OutOfMemory) homes next level down may_split is = is
plan_higher (errors.Pages pages.Fault) homes next level down may_split is = is
plan_higher (errors.Pages pages.NeedsRecovery) homes next level down may_split is = is
plan_higher (errors.Once refusal) homes next level down may_split is = tt
plan_higher errors.OutOfMemory homes next level down may_split is = tt

-- a change that can be laid for a child can be laid for its key node
pub laid_higher : (homes next level : ℕ) (change : Change) → CanBeLaid homes next level change → CanBeLaid homes next (suc level) change
laid_higher homes next level change can = record {
  distinct = can.distinct;
  below = can.below;
  few = omega (arith, can.few);
  onward = can.onward;
  used = omega (arith, can.used);
  inside = can.inside;
}

-- nothing was called
pub reads_none : {P : Type 0} (pages : Ghosts P) (a : P) (F : Type 0) → (F → ⊥) → OnlyReads pages a a F
reads_none pages a F nf = record {
  shown = λ start shown is. is;
  homes = refl;
  next = refl;
  named = refl;
  down = refl;
  device = record { honest = (λ h. h, λ h. h); quiet = λ _. refl; counted = λ f. absurd (nf f) };
}

-- what isn't raised isn't planned
pub raise_plan : (e : TreeError) (homes unused next level : ℕ) (down may_split : Bool) → unused ≤ next + suc level → RaiseRefusal homes unused down e → PlanRefusal homes next (suc level) down may_split e
raise_plan errors.StampBack homes unused next level down may_split used is = is
raise_plan errors.TooHigh homes unused next level down may_split used is = is
raise_plan (errors.BadNode page) homes unused next level down may_split used is = tt
raise_plan (errors.Damaged block) homes unused next level down may_split used is = is
raise_plan (errors.Pages pages.PagesFull) homes unused next level down may_split used is = omega (arith, is, used)
raise_plan (errors.Pages pages.TooManyImages) homes unused next level down may_split used is = absurd is
raise_plan (errors.Pages pages.OutOfMemory) homes unused next level down may_split used is = is
raise_plan (errors.Pages pages.Fault) homes unused next level down may_split used is = is
raise_plan (errors.Pages pages.NeedsRecovery) homes unused next level down may_split used is = is
raise_plan (errors.Once refusal) homes unused next level down may_split used is = tt
raise_plan errors.OutOfMemory homes unused next level down may_split used is = tt

-- what isn't read, or doesn't take a child, isn't raised
pub read_raise : (e : TreeError) (homes unused : ℕ) (down : Bool) → ReadRefusal down e → RaiseRefusal homes unused down e
read_raise errors.StampBack homes unused down is = is
read_raise errors.TooHigh homes unused down is = is
read_raise (errors.BadNode page) homes unused down is = tt
read_raise (errors.Damaged block) homes unused down is = is
read_raise (errors.Pages pages.PagesFull) homes unused down is = absurd is
read_raise (errors.Pages pages.TooManyImages) homes unused down is = is
read_raise (errors.Pages pages.OutOfMemory) homes unused down is = is
read_raise (errors.Pages pages.Fault) homes unused down is = is
read_raise (errors.Pages pages.NeedsRecovery) homes unused down is = is
read_raise (errors.Once refusal) homes unused down is = is
read_raise errors.OutOfMemory homes unused down is = tt

pub put_raise : (e : TreeError) (homes unused : ℕ) (down : Bool) → PutRefusal homes unused e → RaiseRefusal homes unused down e
put_raise errors.StampBack homes unused down is = is
put_raise errors.TooHigh homes unused down is = is
put_raise (errors.BadNode page) homes unused down is = tt
put_raise (errors.Damaged block) homes unused down is = is
put_raise (errors.Pages pages.PagesFull) homes unused down is = is
put_raise (errors.Pages pages.TooManyImages) homes unused down is = is
put_raise (errors.Pages pages.OutOfMemory) homes unused down is = is
put_raise (errors.Pages pages.Fault) homes unused down is = absurd is
put_raise (errors.Pages pages.NeedsRecovery) homes unused down is = absurd is
put_raise (errors.Once refusal) homes unused down is = is
put_raise errors.OutOfMemory homes unused down is = tt

-- a call of the tree that put no block on the shelf, after one that did
pub keeps_on : {O Pen Seen A B : Type 0} (device : OnceGhosts O Pen Seen) (old new : Shelf O Pen Seen) (a : A) (r : Result B TreeError) → KeepsShelf device 2 old new (Ok a) → ((e : AppendError) → r ≡ Err (errors.Once e) → ⊥) → KeepsShelf device 2 old new r
keeps_on device old new a r keeps never = leaves_more device 2 2 old new _ _ _ _ (omega arith) (λ e. absurd (cc)) (λ e. absurd (never appends.Fault e)) (λ e. absurd (never appends.OnceFull e)) keeps

pub raise_never : {A : Type 0} (homes unused : ℕ) (down : Bool) (r : Result A TreeError) → IfErr r (RaiseRefusal homes unused down) → (e : AppendError) → r ≡ Err (errors.Once e) → ⊥
raise_never homes unused down r refused e is = subst (λ x. IfErr x (RaiseRefusal homes unused down)) is refused

-- a walk that blames no page is honest
pub walk_honest : (e : NodeError) (down : Bool) → WalkRefusal down e → ((page : ℕ) → e ≡ walks.BadNode page → ⊥) → BlamesNone (of_node e)
walk_honest (walks.BadNode page) down is never = absurd (never page refl)
walk_honest (walks.Damaged block) down is never = absurd is
walk_honest walks.Fault down is never = tt
walk_honest walks.OnceFault down is never = tt
walk_honest walks.NeedsRecovery down is never = tt
walk_honest walks.OutOfMemory down is never = tt

-- what was read is the node that has room
pub decoded_after : (node : DecodedKeyNode) (shown : List (List ℕ)) (place : PagePlace) (new : Child) (room : HasRoomAfter shown place new) → KeyNode node.level (keys_between node.bounds) node.children.items ≡ KeyNode place.level (keys_at place) room.children → BeginsAfter node.children.items room.at new.low
decoded_after node shown place new room same =
    let children : node.children.items ≡ room.children = cc in
    subst (λ (cs : List Child). BeginsAfter cs room.at new.low) (sym children) room.beyond

pub decoded_below : (node : DecodedKeyNode) (shown : List (List ℕ)) (place : PagePlace) (new : Child) (room : HasRoomAfter shown place new) → KeyNode node.level (keys_between node.bounds) node.children.items ≡ KeyNode place.level (keys_at place) room.children → IfSome node.bounds.high (λ n. new.low < n)
decoded_below node shown place new room same =
    let k : keys_between node.bounds ≡ keys_at place = cc in
    let high : high_or node.bounds.high ≡ high_or place.high = ap (λ (x : Keys). x.high) k in
    below_high node.bounds.high new.low (omega (arith, high, room.below))

pub decoded_puts : (node : DecodedKeyNode) (shown : List (List ℕ)) (place : PagePlace) (new : Child) (room : HasRoomAfter shown place new) (change made : Change) → KeyNode node.level (keys_between node.bounds) node.children.items ≡ KeyNode place.level (keys_at place) room.children
    → PutsChild place.page node.level (keys_between node.bounds) (insert node.children.items (suc room.at) new) change made → PutsChild place.page place.level (keys_at place) (insert room.children (suc room.at) new) change made
decoded_puts node shown place new room change made same puts =
    let children : node.children.items ≡ room.children = cc in
    let k : keys_between node.bounds ≡ keys_at place = cc in
    let level : node.level ≡ place.level = cc in
    rw (← children, ← k, ← level) puts

-- a node above the lowest level that can take a version represents its children
pub can_represent : {P O Pen Seen : Type 0} (pages : Ghosts P) (a : P) (device : OnceGhosts O Pen Seen) (shelf : Shelf O Pen Seen) (s : Store) (all : List Version) (place : PagePlace) (v : Version)
    → (can : CanTake pages a device shelf s all place v) → 1 < place.level → (children : List Child) × RepresentsNode can.shown place.page (KeyNode place.level (keys_at place) children)
can_represent pages a device shelf s all place v can above =
    let k = key_node_of s.nodes s.limit s.blocks s.next all place.level (keys_at place) place.page above can.represents_all in
    let level : suc k.level ≡ place.level = omega (arith, k.is) in (
      k.children,
      subst (λ (m : ℕ). RepresentsNode can.shown place.page (KeyNode m (keys_at place) k.children)) level (can.is.reports place.page _ k.at),
    )
