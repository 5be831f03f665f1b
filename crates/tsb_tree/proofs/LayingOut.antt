-- What is laid out of a column can be laid, and is planned.
use Rattle.std.proofs.Common.{◌≡◌, ℕ, ◌<◌, ◌≤◌, List, Option, Some, None, Bool, Result, Ok, Err, IfErr, refl, sym, subst, arith}
use Rattle.disk_models.specs.declared.once.OnceDisk.{Ghosts}
use Rattle.once_store.specs.declared.shelf.Shelf.{Shelf}
use Rattle.once_store.specs.Shelves.{next_of}
use Rattle.version_model.specs.declared.child.Child.{Child}
use Rattle.version_model.specs.Versions.{Version}
use Rattle.version_model.specs.Ranges.{high_or}
use Rattle.version_model.specs.Pages.{Store}
use Rattle.tsb_tree.specs.declared.change.Change.{Change}
use Rattle.tsb_tree.specs.declared.whole.Whole.{Whole}
use Rattle.tsb_tree.specs.Layouts.{LaysLeaf, LaysOut, TakesOut}
use Rattle.tsb_tree.specs.Plans.{CanBeLaid, Plans}
use Rattle.once_store.specs.declared.error.AppendError.TheVariants as appends
use Rattle.page_tx.specs.declared.error.PageError.TheVariants as pages
use Rattle.tsb_tree.specs.declared.error.TreeError.{TreeError}
use Rattle.tsb_tree.specs.declared.error.TreeError.TheVariants as errors
use Rattle.tsb_tree.specs.Refusals.{ReadRefusal, PlanRefusal}
use Rattle.tsb_tree.specs.Shelves.{TakesOn, KeepsShelf}
use Rattle.tsb_tree.specs.Wholes.{IsAt}
use Rattle.tsb_tree.proofs.Planning.{plans_out}
use Rattle.tsb_tree.proofs.Representing.{same_Err}
use Rattle.tsb_tree.proofs.Shelving.{leaves_none}

pub can_be_laid : (homes next page current : ℕ) (w : Whole) (change : Change) (new : Option Child) → page < homes → current < homes → change.unused ≤ homes → LaysOut page current next w change.images.items change.unused new → CanBeLaid homes next 1 change
can_be_laid homes next page current w change None in_page in_current room lays = record {
  distinct = lays.1.distinct;
  below = lays.1.below homes in_page in_current tt;
  few = (let few = lays.1.few in omega (arith, few));
  onward = omega (arith, lays.0);
  used = omega (arith, lays.0);
  inside = room;
}
can_be_laid homes next page current w change (Some child) in_page in_current room lays =
    let two = lays.3 in
    let unused = lays.4 in
    record {
      distinct = two.second.distinct;
      below = two.second.below homes (omega (arith, unused, room)) (omega (arith, unused, room)) (two.first.below homes in_page in_current tt);
      few = (let one = two.first.few in let other = two.second.few in omega (arith, one, other));
      onward = omega (arith, unused);
      used = omega (arith, unused);
      inside = room;
    }

pub can_lay_leaf : (homes next current : ℕ) (image : List ℕ) (change : Change) → current < homes → next ≤ homes → change.unused ≡ next → LaysLeaf current image change.images.items → CanBeLaid homes next 1 change
can_lay_leaf homes next current image change inside room unused lays = record {
  distinct = lays.distinct;
  below = lays.below homes inside;
  few = (let few = lays.few in omega (arith, few));
  onward = omega (arith, unused);
  used = omega (arith, unused);
  inside = omega (arith, unused, room);
}

-- what was taken and laid out is planned
pub plans_taken : {O Pen Seen : Type 0} (device : Ghosts O Pen Seen) (new : Shelf O Pen Seen) (homes : ℕ) (s : Store) (v : Version) (page current fresh next : ℕ) (w : Whole) (change : Change) → IsAt s.nodes page current w → w.low ≤ v.key → v.key < high_or w.high
    → s.limit ≡ fresh → s.next ≡ next → next ≤ next_of new → page < homes → current < homes → change.unused ≤ homes → TakesOut device new s.blocks next v page current fresh w change → Plans device new homes s v 1 page change
plans_taken device new homes s v page current fresh next w change is low high limit same_next forward in_page in_current room out =
    let on : TakesOn device new s.blocks out.more s.next v w out.whole = subst (λ (n : ℕ). TakesOn device new s.blocks out.more n v w out.whole) (sym same_next) out.takes in
    let laid : LaysOut page current s.limit out.whole change.images.items change.unused change.new = subst (λ (n : ℕ). LaysOut page current n out.whole change.images.items change.unused change.new) (sym limit) out.laid in
    plans_out device new homes s v page current w out.whole out.more is low high on (omega (arith, same_next, forward)) in_page in_current change.new change refl room laid

-- why a page isn't read, where a version is planned
pub read_plan : (homes next level : ℕ) (down may_split : Bool) (e : TreeError) → ReadRefusal down e → PlanRefusal homes next level down may_split e
read_plan homes next level down may_split errors.StampBack is = is
read_plan homes next level down may_split errors.TooHigh is = is
read_plan homes next level down may_split (errors.BadNode page) is = tt
read_plan homes next level down may_split (errors.Damaged block) is = is
read_plan homes next level down may_split (errors.Pages pages.PagesFull) is = absurd is
read_plan homes next level down may_split (errors.Pages pages.TooManyImages) is = absurd is
read_plan homes next level down may_split (errors.Pages pages.OutOfMemory) is = is
read_plan homes next level down may_split (errors.Pages pages.Fault) is = is
read_plan homes next level down may_split (errors.Pages pages.NeedsRecovery) is = is
read_plan homes next level down may_split (errors.Once refusal) is = absurd is
read_plan homes next level down may_split errors.OutOfMemory is = tt

-- a refusal to read isn't the shelf's
pub keeps_none : {O Pen Seen A : Type 0} (device : Ghosts O Pen Seen) (s : Shelf O Pen Seen) (r : Result A TreeError) (down : Bool) → IfErr r (ReadRefusal down) → KeepsShelf device 2 s s r
keeps_none device s (Ok x) down h = leaves_none device 2 s _ _ (λ e. cc) (λ e. cc)
keeps_none {A = A} device s (Err e) down h =
    leaves_none device 2 s _ _ (λ is. subst (ReadRefusal down) (same_Err {A = A} e (errors.Once appends.Fault) is) h) (λ is. subst (ReadRefusal down) (same_Err {A = A} e (errors.Once appends.OnceFull) is) h)
