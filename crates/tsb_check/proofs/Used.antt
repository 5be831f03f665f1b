-- Pages and blocks of a tree that are in use.
use Rattle.std.proofs.Common.{◌≡◌, ℕ, suc, ◌<◌, ◌≤◌, ◌⊎◌, inl, inr, List, [], ◌∷◌, ◌++◌, Option, Some, slice_get, refl, sym, subst, arith}
use Rattle.std.specs.List.{AllByRecursion}
use Rattle.version_model.specs.declared.part.Part.{Part}
use Rattle.version_model.specs.declared.child.Child.{Child}
use Rattle.version_model.specs.Versions.{Version}
use Rattle.version_model.specs.Blocks.{AreParts}
use Rattle.version_model.specs.Pages.{PageNode, ColumnNode, KeyNode, Store}
use Rattle.version_model.specs.Ranges.{Range}
use Rattle.tsb_walk.specs.declared.page_place.PagePlace.{PagePlace}
use Rattle.tsb_walk.specs.Shown.{RepresentsNode, RepresentNodes, keys_at}
use Rattle.tsb_walk.proofs.PageRepresenting.{represents_one}
use Rattle.tsb_check.proofs.OnePage.{high_level}
use Rattle.tsb_check.specs.declared.in_use.InUse.{InUse}
use Rattle.tsb_check.specs.Counted.{IsOneOf, AreLower}
use Rattle.tsb_check.specs.InUse.{IsColumnUsed, IsColumnUnused, never_burnt, never_tried, page_unused, leaf_unused, IsPlaceUsed, AreInUse, IsUnusedUnder, unused_place, unused_column, IsWithin}
use Rattle.tsb_check.specs.Pages.{IsUnder, at_top, as_child, places_under}
use Rattle.tsb_check.specs.inner.Columns.{IsUsedColumn}
use Rattle.tsb_check.specs.inner.GoingUnder.{AreLeftBy, IsTakenUsed, IsTakenUnused}
use Rattle.tsb_check.proofs.GoingUnder.{AreUnder, under_last}
use Rattle.tsb_check.proofs.Representing.{PlaceIn, in_limit, under_represents, column_under_represents}

-- ---- places among others

one_front : {X : Type 0} (xs ys : List X) (x : X) → IsOneOf xs x → IsOneOf (xs ++ ys) x
one_front [] ys x is = absurd is
one_front (y ∷ xs) ys x (inl here) = inl here
one_front (y ∷ xs) ys x (inr there) = inr (one_front xs ys x there)

one_back : {X : Type 0} (xs ys : List X) (x : X) → IsOneOf ys x → IsOneOf (xs ++ ys) x
one_back [] ys x is = is
one_back (y ∷ xs) ys x is = inr (one_back xs ys x is)

one_apart : {X : Type 0} (xs : List X) (y x : X) → IsOneOf (xs ++ y ∷ []) x → IsOneOf xs x ⊎ (y ≡ x)
one_apart [] y x (inl here) = inr here
one_apart [] y x (inr there) = absurd there
one_apart (z ∷ xs) y x (inl here) = inl (inl here)
one_apart (z ∷ xs) y x (inr there) = elim (one_apart xs y x there) [ inl before ↦ inl (inr before) | inr last ↦ inr last ]

-- ---- what is left to be read leads to each place that isn't known to be in use

module _ (shown : List (List ℕ)) where
  under_wider : (xs ys : List PagePlace) → ((x : PagePlace) → IsOneOf xs x → IsOneOf ys x) → (q : PagePlace) → IsUnder shown xs q → IsUnder shown ys q
  under_wider xs ys wide _ (at_top q one) = at_top q (wide q one)
  under_wider xs ys wide _ (as_child place next children under represents_node one) = as_child place next children (under_wider xs ys wide place under) represents_node one

  under_none : (q : PagePlace) → IsUnder shown [] q → ⊥
  under_none _ (at_top q one) = one
  under_none _ (as_child place next children under represents_node one) = under_none place under

  -- a place to which some places lead is led to by the others, or is the last one, or is led to by the last one's children
  data Apart (rest : List PagePlace) (last q : PagePlace) : Type 0 where
    before : IsUnder shown rest q → Apart rest last q
    itself : last ≡ q → Apart rest last q
    below : (children : List Child) → RepresentsNode shown last.page (KeyNode last.level (keys_at last) children) → IsUnder shown (places_under last children) q → Apart rest last q

  child_apart : (rest : List PagePlace) (last place next : PagePlace) (children : List Child) → Apart rest last place → RepresentsNode shown place.page (KeyNode place.level (keys_at place) children) → IsOneOf (places_under place children) next → Apart rest last next
  child_apart rest last place next children (before under) represents_node one = before (as_child place next children under represents_node one)
  child_apart rest last place next children (itself e) represents_node one =
      below children (subst (λ (p : PagePlace). RepresentsNode shown p.page (KeyNode p.level (keys_at p) children)) (sym e) represents_node) (at_top next (subst (λ (p : PagePlace). IsOneOf (places_under p children) next) (sym e) one))
  child_apart rest last place next children (below firsts decoded under) represents_node one = below firsts decoded (as_child place next children under represents_node one)

  apart_of : (rest : List PagePlace) (last q : PagePlace) → IsUnder shown (rest ++ last ∷ []) q → Apart rest last q
  apart_of rest last _ (at_top q one) = elim (one_apart rest last q one) [ inl there ↦ before (at_top q there) | inr e ↦ itself e ]
  apart_of rest last _ (as_child place next children under represents_node one) = child_apart rest last place next children (apart_of rest last place under) represents_node one

  -- a key node represents one list of children, and is above the lowest level
  children_one : (place : PagePlace) (one other : List Child) → RepresentsNode shown place.page (KeyNode place.level (keys_at place) one) → RepresentsNode shown place.page (KeyNode place.level (keys_at place) other) → one ≡ other
  children_one place one other represents_node decoded = (let same = represents_one shown place.page (KeyNode place.level (keys_at place) one) (KeyNode place.level (keys_at place) other) represents_node decoded in cc)

  left_below : (rest left' : List PagePlace) (place q : PagePlace) (children : List Child) → AreLeftBy shown place rest left' → RepresentsNode shown place.page (KeyNode place.level (keys_at place) children) → IsUnder shown (places_under place children) q → IsUnder shown left' q
  left_below rest left' place q children (inl column) represents_node under =
      let high = high_level represents_node.octets _ represents_node.represents_node place.level (keys_at place) children refl in
      absurd (omega (arith, high, column.0))
  left_below rest left' place q children (inr node) represents_node under =
      subst (λ (ps : List PagePlace). IsUnder shown ps q) (sym node.2)
      (under_wider (places_under place node.0) (rest ++ places_under place node.0) (one_back rest (places_under place node.0)) q
      (subst (λ (cs : List Child). IsUnder shown (places_under place cs) q) (children_one place children node.0 represents_node node.1) under))

  left_before : (rest left' : List PagePlace) (place q : PagePlace) → AreLeftBy shown place rest left' → IsUnder shown rest q → IsUnder shown left' q
  left_before rest left' place q (inl column) under = subst (λ (ps : List PagePlace). IsUnder shown ps q) (sym column.1) under
  left_before rest left' place q (inr node) under =
      subst (λ (ps : List PagePlace). IsUnder shown ps q) (sym node.2) (under_wider rest (rest ++ places_under place node.0) (one_front rest (places_under place node.0)) q under)

  module _ (in_use : InUse) where
    -- a column that was read uses what it represents
    column_used : (place : PagePlace) → IsUsedColumn shown in_use place → (parts : List Part) (start current : ℕ) → RepresentsNode shown place.page (ColumnNode (keys_at place) parts start current) → IsColumnUsed in_use place.page parts current
    column_used place is parts start current represents_node =
        let same = represents_one shown place.page (ColumnNode (keys_at place) is.column.parts is.column.start is.column.current) (ColumnNode (keys_at place) parts start current) is.column.represents_node represents_node in
        let ps : is.column.parts ≡ parts = cc in
        let n : is.column.current ≡ current = cc in
        subst (IsColumnUsed in_use place.page parts) n (subst (λ (x : List Part). IsColumnUsed in_use place.page x is.column.current) ps is.used)

    place_used : (place : PagePlace) → IsTakenUsed shown in_use place → IsPlaceUsed shown in_use place
    place_used place (inl column) = record { page_used = column.1.used.page_used; column_used = λ parts start current level represents_node. column_used place column.1 parts start current represents_node }
    place_used place (inr node) = record { page_used = node.1; column_used = λ parts start current level represents_node. absurd (node.0 level) }

    -- each place to which some places lead is in use, or is led to by those that are left
    abbrev pub UsedOrLeft : List PagePlace → List PagePlace → Type 0
    UsedOrLeft places left = (q : PagePlace) → IsUnder shown places q → IsPlaceUsed shown in_use q ⊎ IsUnder shown left q

    pub used_first : (places left : List PagePlace) → left ≡ places → UsedOrLeft places left
    used_first places left same = λ q under. inr (subst (λ (ps : List PagePlace). IsUnder shown ps q) (sym same) under)

    module _ (places left rest : List PagePlace) (place : PagePlace) (apart : left ≡ rest ++ place ∷ []) where
      used_at : (left' : List PagePlace) → AreLeftBy shown place rest left' → IsTakenUsed shown in_use place → (q : PagePlace) → Apart rest place q → IsPlaceUsed shown in_use q ⊎ IsUnder shown left' q
      used_at left' leaves taken q (before under) = inr (left_before rest left' place q leaves under)
      used_at left' leaves taken q (itself e) = inl (subst (IsPlaceUsed shown in_use) e (place_used place taken))
      used_at left' leaves taken q (below children represents_node under) = inr (left_below rest left' place q children leaves represents_node under)

      pub used_by : (left' : List PagePlace) → AreLeftBy shown place rest left' → IsTakenUsed shown in_use place → UsedOrLeft places left → UsedOrLeft places left'
      used_by left' leaves taken so_far = λ q under. elim (so_far q under) [
        | inl used ↦ inl used
        | inr there ↦ used_at left' leaves taken q (apart_of rest place q (subst (λ (ps : List PagePlace). IsUnder shown ps q) apart there))
      ]

      pub unused_by : AreUnder shown places left → (page : ℕ) → IsTakenUnused shown in_use place page → IsUnusedUnder shown in_use places page
      unused_by under page (inl column) =
          let c = column.1.column in
          unused_column place c.parts c.start c.current page (record { under = under_last shown places left rest place apart under; lowest = column.0; represents_node = c.represents_node }) column.1.unused
      unused_by under page (inr node) = subst (IsUnusedUnder shown in_use places) node.0 (unused_place place (under_last shown places left rest place apart under) node.1)

    pub used_last : (places left : List PagePlace) → left ≡ [] → UsedOrLeft places left → AreInUse shown in_use places
    used_last places left empty so_far = λ q under. elim (so_far q under) [
      | inl used ↦ used
      | inr never ↦ absurd (under_none q (subst (λ (ps : List PagePlace). IsUnder shown ps q) empty never))
    ]

-- ---- a tree that stands uses what its store does

all_lower : (block : ℕ) (parts : List Part) → ((i : ℕ) (part : Part) → slice_get parts i ≡ Some part → part.block < block) → AreLower block parts
all_lower block [] each = tt
all_lower block (p ∷ ps) each = (each 0 p refl, all_lower block ps (λ i part at. each (suc i) part at))

parts_lower : (r : Range) (parts : List Part) (start next block : ℕ) → ((parts ≡ []) × (start ≡ 0)) ⊎ AreParts r parts next → next ≤ block → AreLower block parts
parts_lower r parts start next block (inl none) most = subst (AreLower block) (sym none.0) tt
parts_lower r parts start next block (inr are) most = all_lower block parts (λ i part at. (let lower = are.lower i part at in omega (arith, lower, most)))

module _ (shown : List (List ℕ)) (s : Store) (all : List Version) (are_shown : RepresentNodes shown s.nodes) (in_use : InUse) (within : IsWithin s in_use) where
  column_within : (page current next : ℕ) (parts : List Part) (reported : ℕ) → page < s.limit → current < s.limit → AreLower in_use.blocks parts → AreLower in_use.burnt parts → IsColumnUnused in_use page parts current reported → ⊥
  column_within page current next parts _ in_page in_current tried burnt (never_burnt not) = not burnt
  column_within page current next parts _ in_page in_current tried burnt (never_tried not) = not tried
  column_within page current next parts _ in_page in_current tried burnt (page_unused above) = omega (arith, above, in_page, within.pages)
  column_within page current next parts _ in_page in_current tried burnt (leaf_unused above) = omega (arith, above, in_current, within.pages)

  pub none_unused : (places : List PagePlace) (page : ℕ) → IsUnusedUnder shown in_use places page → AllByRecursion (PlaceIn shown s all are_shown) places → ⊥
  none_unused places _ (unused_place place under above) stand =
      (let inside = in_limit s all place.level (keys_at place) place.page (under_represents shown s all are_shown places place under stand) in
      omega (arith, inside, above, within.pages))
  none_unused places _ (unused_column column parts start current page is unused) stand =
      (let represents_all = under_represents shown s all are_shown places column is.under stand in
      let c = column_under_represents shown s all are_shown places column parts start current is stand in
      let inside = in_limit s all column.level (keys_at column) column.page represents_all in
      column_within column.page current s.next parts page inside c.current_in_limit (parts_lower _ parts start s.next in_use.blocks c.past.are_parts within.tried) (parts_lower _ parts start s.next in_use.burnt c.past.are_parts within.burnt) unused)
