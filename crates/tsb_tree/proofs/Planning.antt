-- What a column in memory that is laid represents.
use Rattle.std.proofs.Common.{◌≡◌, ℕ, ◌+◌, ◌<◌, ◌≤◌, List, [], length, set, length-set, Option, Some, None, slice_get, sym, ◌∙◌, ap, subst, arith}
use Rattle.std.proofs.lemmas.Option.{none-some}
use Rattle.disk_models.specs.declared.once.OnceDisk.{Ghosts}
use Rattle.once_store.specs.declared.shelf.Shelf.{Shelf}
use Rattle.once_store.specs.Shelves.{next_of}
use Rattle.page_journal.specs.Layout.{Image}
use Rattle.page_journal.specs.Recovers.{laid}
use Rattle.tsb_walk.specs.Shown.{RepresentNodes}
use Rattle.version_model.specs.declared.child.Child.{Child}
use Rattle.version_model.specs.Versions.{Version}
use Rattle.version_model.specs.Ranges.{high_or}
use Rattle.version_model.specs.Blocks.{BlockNode}
use Rattle.version_model.specs.Pages.{PageNode, Store}
use Rattle.tsb_tree.specs.declared.change.Change.{Change}
use Rattle.tsb_tree.specs.declared.whole.Whole.{Whole}
use Rattle.tsb_tree.specs.Layouts.{LaysWhole, LaysTwo, LaysOut}
use Rattle.tsb_tree.specs.Plans.{Plans}
use Rattle.tsb_tree.specs.Shelves.{TakesOn}
use Rattle.tsb_tree.specs.Wholes.{IsAt, AreHalves, column_node, leaf_node}
use Rattle.tsb_tree.proofs.Laying.{written, apart, IsAt-written, IsAt-first, others_written}
use Rattle.tsb_tree.proofs.Splitting.{Splits-column_one, Splits-column_two}
use Rattle.tsb_tree.proofs.Reporting.{shown-set, get-set_other}

-- a column's pages, laid over others
pub whole_shown : (page current : ℕ) (w : Whole) (old new : List Image) (shown : List (List ℕ)) (nodes : ℕ → Option PageNode) → LaysWhole page current w old new → page < length (laid old shown) → current < length (laid old shown)
    → RepresentNodes (laid old shown) nodes → RepresentNodes (laid new shown) (written nodes page current w)
whole_shown page current w old new shown nodes lays in_page in_current are =
    let below : List (List ℕ) = laid old shown in
    subst (λ (s : List (List ℕ)). RepresentNodes s (written nodes page current w)) (sym (lays.over shown))
    (shown-set (set below page lays.column) _ current lays.leaf (leaf_node w) (omega (arith, in_current, length-set below page lays.column)) lays.represents_leaf
    (shown-set below nodes page lays.column (column_node w current) in_page lays.represents_column are))

whole_long : (page current : ℕ) (w : Whole) (old new : List Image) (shown : List (List ℕ)) → LaysWhole page current w old new → length (laid new shown) ≡ length (laid old shown)
whole_long page current w old new shown lays =
    ap length (lays.over shown) ∙ length-set (set (laid old shown) page lays.column) current lays.leaf ∙ length-set (laid old shown) page lays.column

-- another page is shown as before
whole_keeps : (page current : ℕ) (w : Whole) (old new : List Image) (shown : List (List ℕ)) (p : ℕ) → LaysWhole page current w old new → (p ≡ page → ⊥) → (p ≡ current → ⊥) → slice_get (laid new shown) p ≡ slice_get (laid old shown) p
whole_keeps page current w old new shown p lays ne ne' =
    ap (λ (s : List (List ℕ)). slice_get s p) (lays.over shown) ∙ get-set_other (set (laid old shown) page lays.column) current p lays.leaf ne' ∙ get-set_other (laid old shown) page p lays.column ne

decoded_not : (nodes : ℕ → Option PageNode) (p q : ℕ) (node : PageNode) → nodes p ≡ None → nodes q ≡ Some node → p ≡ q → ⊥
decoded_not nodes p q node none some e = none-some node (sym none ∙ ap nodes e ∙ some)

module _ {O Pen Seen : Type 0} (device : Ghosts O Pen Seen) (new : Shelf O Pen Seen) (homes : ℕ) (s : Store) (v : Version) (page current : ℕ) (w w' : Whole) (more : ℕ → Option BlockNode)
    (is : IsAt s.nodes page current w) (in_low : w.low ≤ v.key) (in_high : v.key < high_or w.high) (on : TakesOn device new s.blocks more s.next v w w') (next_grows : s.next ≤ next_of new)
    (in_page : page < homes) (in_current : current < homes) where
  pub plans_one : (change : Change) → change.unused ≡ s.limit → change.new ≡ None → LaysWhole page current w' [] change.images.items → Plans device new homes s v 1 page change
  plans_one change unused none lays =
      let images : List Image = change.images.items in
      let t : Store = record { nodes = written s.nodes page current w'; limit = s.limit; blocks = more; next = next_of new } in
      record {
        nodes = written s.nodes page current w';
        blocks = more;
        lays = λ shown long are. whole_shown page current w' [] images shown s.nodes lays (omega (arith, long, in_page)) (omega (arith, long, in_current)) are;
        represents_node = on.represents_node;
        splits = rw (unused, none) (Splits-column_one s t v page current w w' is in_low in_high on.takes on.grows next_grows (omega arith) (λ p in_limit ne ne'. others_written s.nodes page current w' p ne ne') (IsAt-written s.nodes page current w' (apart s.nodes page current w is)));
        silent = λ p in_limit unsaid. others_written s.nodes page current w' p (decoded_not s.nodes p page _ unsaid is.at) (decoded_not s.nodes p current _ unsaid is.at_current) ∙ unsaid;
        own = λ all k represents_all p in_limit unsaid shown. whole_keeps page current w' [] images shown p lays (decoded_not s.nodes p page _ unsaid is.at) (decoded_not s.nodes p current _ unsaid is.at_current);
      }

  pub plans_two : (left right : Whole) (child : Child) (change : Change) → change.unused ≡ s.limit + 2 → change.new ≡ Some child → child ≡ record { low = right.low; page = s.limit } → s.limit + 2 ≤ homes
      → AreHalves w' left right → LaysTwo page current s.limit left right change.images.items → Plans device new homes s v 1 page change
  plans_two left right child change unused some child_is room halves lays =
      let images : List Image = change.images.items in
      let one : ℕ → Option PageNode = written s.nodes page current left in
      let q : ℕ = s.limit in
      let r : ℕ = s.limit + 1 in
      let t : Store = record { nodes = written one q r right; limit = s.limit + 2; blocks = more; next = next_of new } in
      let ne : page ≡ current → ⊥ = apart s.nodes page current w is in
      record {
        nodes = written one q r right;
        blocks = more;
        lays = λ shown long are.
            (let long' : length (laid lays.mid shown) ≡ length shown = whole_long page current left [] lays.mid shown lays.first in
            whole_shown q r right lays.mid images shown one lays.second (omega (arith, long, long', room)) (omega (arith, long, long', room))
            (whole_shown page current left [] lays.mid shown s.nodes lays.first (omega (arith, long, in_page)) (omega (arith, long, in_current)) are));
        represents_node = on.represents_node;
        splits = rw (unused, some) (Splits-column_two s t v page current w w' is in_low in_high on.takes on.grows next_grows (omega arith)
            (λ p in_limit np nc. others_written one q r right p (λ e. omega (arith, e, in_limit)) (λ e. omega (arith, e, in_limit)) ∙ others_written s.nodes page current left p np nc)
            left right q r child halves
            (λ page_in current_in. IsAt-first s.nodes page current q r left right ne (λ e. omega (arith, e, page_in)) (λ e. omega (arith, e, page_in)) (λ e. omega (arith, e, current_in)) (λ e. omega (arith, e, current_in)))
            (IsAt-written one q r right (λ e. omega (arith, e))) (omega arith) (omega arith) child_is);
        silent = λ p in_limit unsaid.
            others_written one q r right p (λ e. omega (arith, e, in_limit)) (λ e. omega (arith, e, in_limit))
            ∙ others_written s.nodes page current left p (decoded_not s.nodes p page _ unsaid is.at) (decoded_not s.nodes p current _ unsaid is.at_current) ∙ unsaid;
        own = λ all k represents_all p in_limit unsaid shown.
            whole_keeps q r right lays.mid images shown p lays.second (λ e. omega (arith, e, in_limit)) (λ e. omega (arith, e, in_limit))
            ∙ whole_keeps page current left [] lays.mid shown p lays.first (decoded_not s.nodes p page _ unsaid is.at) (decoded_not s.nodes p current _ unsaid is.at_current);
      }

  -- the same of what is laid out either way
  pub plans_out : (child : Option Child) (change : Change) → change.new ≡ child → change.unused ≤ homes → LaysOut page current s.limit w' change.images.items change.unused child → Plans device new homes s v 1 page change
  plans_out None change new_is room lays = plans_one change lays.0 new_is lays.1
  plans_out (Some child) change new_is room lays = plans_two lays.0 lays.1 child change lays.4 new_is lays.5 (omega (arith, room, lays.4)) lays.2 lays.3
