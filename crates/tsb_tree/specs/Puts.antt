-- Key nodes that take the new half of a child, over the images of a change.
use Rattle.std.specs.Prelude.{◌≡◌, ℕ, ◌+◌, ◌<◌, ◌≤◌, ◌⊎◌, List, Some, None, slice_get, slice_set, take, drop}
use Rattle.page_journal.specs.Recovers.{laid}
use Rattle.page_tx.specs.declared.error.PageError.TheVariants as pages
use Rattle.version_model.specs.declared.child.Child.{Child}
use Rattle.version_model.specs.Pages.{Keys, PageNode, KeyNode}
use Rattle.tsb_node.specs.Views.{PageRepresents}
use Rattle.tsb_tree.specs.declared.change.Change.{Change}
use Rattle.tsb_tree.specs.declared.error.TreeError.{TreeError}
use Rattle.tsb_tree.specs.declared.error.TreeError.TheVariants as errors
use Rattle.tsb_tree.specs.Wholes.{keys}

-- one image more is laid, by which the page represents this node, and nothing became two
pub record PutsOne (page : ℕ) (node : PageNode) (change put : Change) : Type 0 where
  pub octets : List ℕ
  pub images : (shown : List (List ℕ)) → laid put.images.items shown ≡ slice_set (laid change.images.items shown) page octets
  pub represents_node : PageRepresents octets node
  pub unused : put.unused ≡ change.unused
  pub new : put.new ≡ None

-- Two images more are laid, by which the page and the next one that was never used represent the two halves of a key node of these keys and
-- children.
pub record PutsTwo (page level : ℕ) (k : Keys) (children : List Child) (change put : Change) : Type 0 where
  pub place : ℕ
  pub mid : Child
  pub at : slice_get children place ≡ Some mid
  pub some : 0 < place
  pub front : List ℕ
  pub back : List ℕ
  pub images : (shown : List (List ℕ)) → laid put.images.items shown ≡ slice_set (slice_set (laid change.images.items shown) page front) change.unused back
  pub represents_front : PageRepresents front (KeyNode level (keys k.low mid.low) (take place children))
  pub represents_back : PageRepresents back (KeyNode level (keys mid.low k.high) (drop place children))
  pub unused : put.unused ≡ change.unused + 1
  pub new : put.new ≡ Some (record { low = mid.low; page = change.unused })

-- by one image or two, the key node in a page has these children
abbrev pub PutsChild : ℕ → ℕ → Keys → List Child → Change → Change → Type 0
PutsChild page level k children change put = PutsOne page (KeyNode level k children) change put ⊎ PutsTwo page level k children change put

-- The reasons for which a key node doesn't take a child, in this many pages, of which `unused` is the next that was never used.
abbrev pub PutRefusal : ℕ → ℕ → TreeError → Type 0
PutRefusal homes unused errors.StampBack = ⊥
PutRefusal homes unused errors.TooHigh = ⊥
PutRefusal homes unused (errors.BadNode page) = Unit {0}
PutRefusal homes unused (errors.Damaged block) = ⊥
PutRefusal homes unused (errors.Pages pages.PagesFull) = homes ≤ unused
PutRefusal homes unused (errors.Pages pages.TooManyImages) = ⊥
PutRefusal homes unused (errors.Pages pages.OutOfMemory) = ⊥
PutRefusal homes unused (errors.Pages pages.Fault) = ⊥
PutRefusal homes unused (errors.Pages pages.NeedsRecovery) = ⊥
PutRefusal homes unused (errors.Once refusal) = ⊥
PutRefusal homes unused errors.OutOfMemory = Unit {0}
