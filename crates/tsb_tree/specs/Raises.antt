-- What was planned for a child of a key node, and a root that became two.
use Rattle.std.specs.Prelude.{◌≡◌, ℕ, suc, ◌+◌, ◌*◌, ◌<◌, ◌≤◌, Bool, true, false, List, [], ◌∷◌, None, length, slice_set}
use Rattle.page_journal.specs.Layout.{pages_of}
use Rattle.page_journal.specs.Recovers.{laid, AreBelow, AreDistinct}
use Rattle.page_tx.specs.declared.error.PageError.TheVariants as pages
use Rattle.version_model.specs.declared.child.Child.{Child}
use Rattle.version_model.specs.Ranges.{high_or}
use Rattle.version_model.specs.Pages.{KeyNode, all_keys}
use Rattle.tsb_node.specs.Views.{PageRepresents}
use Rattle.tsb_walk.specs.declared.page_place.PagePlace.{PagePlace}
use Rattle.tsb_walk.specs.Shown.{RepresentsNode, keys_at}
use Rattle.tsb_tree.specs.declared.change.Change.{Change}
use Rattle.tsb_tree.specs.declared.error.TreeError.{TreeError}
use Rattle.tsb_tree.specs.declared.error.TreeError.TheVariants as errors
use Rattle.tsb_tree.specs.KeyNodes.{BeginsAfter}

-- The page represents a key node of its level and its keys, and the new half of one of its children begins among that child's keys, above
-- the lowest of them.
pub record HasRoomAfter (shown : List (List ℕ)) (place : PagePlace) (new : Child) : Type 0 where
  pub children : List Child
  pub represents_node : RepresentsNode shown place.page (KeyNode place.level (keys_at place) children)
  pub at : ℕ
  pub beyond : BeginsAfter children at new.low
  pub below : new.low < high_or place.high

-- one image more is laid, by which the next page that was never used represents a root of all keys above an old one and its new half
pub record GrowsRoot (level root : ℕ) (new : Child) (change grown : Change) : Type 0 where
  pub octets : List ℕ
  pub images : (shown : List (List ℕ)) → laid grown.images.items shown ≡ slice_set (laid change.images.items shown) change.unused octets
  pub represents_node : PageRepresents octets (KeyNode (suc level) all_keys (record { low = 0; page = root } ∷ new ∷ []))
  pub unused : grown.unused ≡ change.unused + 1
  pub none : grown.new ≡ None

-- The images are of distinct pages of a map of `homes` pages. A tree of this level needs two of them a level and three more, and one page
-- that was never used a level and two more.
pub record TreeCanBeLaid (homes next level : ℕ) (change : Change) : Type 0 where
  pub distinct : AreDistinct (pages_of change.images.items)
  pub below : AreBelow homes (pages_of change.images.items)
  pub few : length change.images.items ≤ 2 * level + 3
  pub onward : next ≤ change.unused
  pub used : change.unused ≤ next + level + 2
  pub inside : change.unused ≤ homes

-- the reasons for which a key node isn't read and doesn't take a child, in this many pages, of which `unused` is the next that was never used
abbrev pub RaiseRefusal : ℕ → ℕ → Bool → TreeError → Type 0
RaiseRefusal homes unused down errors.StampBack = ⊥
RaiseRefusal homes unused down errors.TooHigh = ⊥
RaiseRefusal homes unused down (errors.BadNode page) = Unit {0}
RaiseRefusal homes unused down (errors.Damaged block) = ⊥
RaiseRefusal homes unused down (errors.Pages pages.PagesFull) = homes ≤ unused
RaiseRefusal homes unused down (errors.Pages pages.TooManyImages) = ⊥
RaiseRefusal homes unused down (errors.Pages pages.OutOfMemory) = ⊥
RaiseRefusal homes unused down (errors.Pages pages.Fault) = down ≡ false
RaiseRefusal homes unused down (errors.Pages pages.NeedsRecovery) = down ≡ true
RaiseRefusal homes unused down (errors.Once refusal) = ⊥
RaiseRefusal homes unused down errors.OutOfMemory = Unit {0}

-- the reasons for which a root of this level has no other above it, in this many pages, of which `unused` is the next that was never used
abbrev pub RootRefusal : ℕ → ℕ → ℕ → TreeError → Type 0
RootRefusal homes unused level errors.StampBack = ⊥
RootRefusal homes unused level errors.TooHigh = level ≡ 7
RootRefusal homes unused level (errors.BadNode page) = Unit {0}
RootRefusal homes unused level (errors.Damaged block) = ⊥
RootRefusal homes unused level (errors.Pages pages.PagesFull) = homes ≤ unused
RootRefusal homes unused level (errors.Pages pages.TooManyImages) = ⊥
RootRefusal homes unused level (errors.Pages pages.OutOfMemory) = ⊥
RootRefusal homes unused level (errors.Pages pages.Fault) = ⊥
RootRefusal homes unused level (errors.Pages pages.NeedsRecovery) = ⊥
RootRefusal homes unused level (errors.Once refusal) = ⊥
RootRefusal homes unused level errors.OutOfMemory = Unit {0}
