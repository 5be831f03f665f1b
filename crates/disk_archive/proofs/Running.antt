-- A leaf takes the versions of changes, one after another, and is laid after the last of them.
use Rattle.std.proofs.Common.{◌≡◌, ℕ, zero, suc, List, [], ◌∷◌, Bool, false, refl, sym, ◌∙◌, ap, subst, Some, length-set}
use Rattle.std.specs.List.{slice_get, slice_set}
use Rattle.std.proofs.lemmas.Option.{same_Some}
use Rattle.route_model.specs.Admission.{Admitted}
use Rattle.route_meaning.specs.Merged.{Placed}
use Rattle.route_meaning.specs.History.{History, IsBelowMarks, waiting}
use Rattle.interleaving_core.specs.Steps.{moved}
use Rattle.version_model.specs.Versions.{Version}
use Rattle.tsb_tree.specs.declared.leaf_opening.OpenLeaf.{OpenLeaf}
use Rattle.tsb_tree.specs.OpenLeaves.{IsOpen, TakesInLeaf}
use Rattle.archive_head.specs.Head.{Contents}
use Rattle.archive_pages.specs.declared.settings.Settings.{Settings}
use Rattle.disk_archive.specs.Trees.{TreeLocated}
use Rattle.disk_archive.specs.inner.Applications.{MovesOn, TreeTakes}
use Rattle.disk_archive.specs.inner.Runs.{WithLeaf}
use Rattle.disk_archive.proofs.Stepping.{moves_then}
use Rattle.disk_archive.proofs.Taking.{page_of}

-- what is set twice, and what is set as it was
set_again : {X : Type 0} (xs : List X) (n : ℕ) (x y : X) → slice_set (slice_set xs n x) n y ≡ slice_set xs n y
set_again [] n x y = refl
set_again (z ∷ xs) zero x y = refl
set_again (z ∷ xs) (suc n) x y = ap (λ (l : List _). z ∷ l) (set_again xs n x y)

set_same : {X : Type 0} (xs : List X) (n : ℕ) (x : X) → slice_get xs n ≡ Some x → slice_set xs n x ≡ xs
set_same [] n x at = refl
set_same (z ∷ xs) zero x at = ap (λ (y : _). y ∷ xs) (sym (same_Some z x at))
set_same (z ∷ xs) (suc n) x at = ap (λ (l : List _). z ∷ l) (set_same xs n x at)

-- a leaf that is opened has the image that is shown
pub leaf_opened : (shown : List (List ℕ)) (root : ℕ) (leaf : OpenLeaf) → IsOpen shown root leaf → WithLeaf shown root leaf shown
leaf_opened shown root leaf is = record { laid = sym (set_same shown leaf.page leaf.image is.of.at); is_open = is }

-- the archive's tree takes a version in an open leaf
pub tree_pushed : (count : ℕ) (settled : ℕ → List ℕ → Type 0) (low root fresh block least stamp : ℕ) (versions all : List Version) (under pages : List (List ℕ)) (leaf now : OpenLeaf) (t : TreeLocated count pages settled low root fresh block least versions)
    → WithLeaf under root leaf pages → now.page ≡ leaf.page → IsOpen (slice_set pages now.page now.image) root now → TakesInLeaf pages t.store all root t.level stamp now
    → TreeTakes count settled (WithLeaf under root now) low root fresh block stamp all pages
tree_pushed count settled low root fresh block least stamp versions all under pages leaf now t w same is k = record {
  pages = slice_set pages now.page now.image;
  shown = record {
    laid = ap (λ (l : List (List ℕ)). slice_set l now.page now.image) (w.laid ∙ ap (λ (n : ℕ). slice_set under n leaf.image) (sym same)) ∙ set_again under now.page leaf.image now.image;
    is_open = is;
  };
  changes = record {
    count = length-set pages now.page now.image;
    below = λ n lt. page_of pages (slice_set pages now.page now.image) n (k.others n (t.own n lt));
  };
  tree = record {
    level = t.level;
    store = record { nodes = k.nodes; limit = t.store.limit; blocks = t.store.blocks; next = t.store.next };
    represents_node = k.reports;
    own = λ page lt. k.silent page (t.own page lt);
    limit = t.limit;
    blocks = t.blocks;
    next = t.next;
    has = k.has;
  };
}

-- what is shown otherwise
pub moves_shown : (count : ℕ) (s : Settings) (settled : ℕ → List ℕ → Type 0) (old new : List (List ℕ) → Type 0) (head : Contents) (whole : Bool) (h : History) → ((pages : List (List ℕ)) → old pages → new pages) → MovesOn count s settled old head whole h → MovesOn count s settled new head whole h
moves_shown count s settled old new head whole h shows m = record {
  after = m.after;
  moves = m.moves;
  stays = m.stays;
  leaves = m.leaves;
  pages = m.pages;
  shown = shows m.pages m.shown;
  head_represents = m.head_represents;
}

-- while the first that waits isn't wholly applied, it is the first still
pub waits_still : (count : ℕ) (s : Settings) (settled : ℕ → List ℕ → Type 0) (shows : List (List ℕ) → Type 0) (head : Contents) (whole : Bool) (h : History) (m : MovesOn count s settled shows head whole h) (first : Placed Admitted) (later : List (Placed Admitted))
    → whole ≡ false → waiting h ≡ first ∷ later → waiting m.after ≡ first ∷ later
waits_still count s settled shows head whole h m first later part here = subst (λ (x : History). waiting x ≡ first ∷ later) (sym (m.stays part).1) here

pub below_still : (count : ℕ) (s : Settings) (settled : ℕ → List ℕ → Type 0) (shows : List (List ℕ) → Type 0) (head : Contents) (whole : Bool) (h : History) (m : MovesOn count s settled shows head whole h) (time : ℕ)
    → whole ≡ false → IsBelowMarks h time → IsBelowMarks m.after time
below_still count s settled shows head whole h m time part below = subst (λ (x : History). IsBelowMarks x time) (sym (m.stays part).1) below

-- one more change of it
pub moves_again : (count : ℕ) (s : Settings) (settled : ℕ → List ℕ → Type 0) (old new : List (List ℕ) → Type 0) (head next : Contents) (whole all : Bool) (h : History) (m : MovesOn count s settled old head whole h) → whole ≡ false
    → MovesOn count s settled new next all m.after → MovesOn count s settled new next all h
moves_again count s settled old new head next whole all h m part k =
    let was = m.stays part in
    record {
      after = k.after;
      moves = moves_then h m.after k.after m.moves k.moves;
      stays = λ still. (let is = k.stays still in (is.0, is.1 ∙ ap (λ (x : History). moved x x.whole is.0) was.1));
      leaves = λ over. k.leaves over ∙ ap (λ (x : History). moved x (suc x.whole) 0) was.1;
      pages = k.pages;
      shown = k.shown;
      head_represents = k.head_represents;
    }
