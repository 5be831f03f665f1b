-- A node that takes a version doesn't both stay one and become two.
use Rattle.std.proofs.Common.{◌≡◌, ℕ, inl, inr, List, [], ◌∷◌, ◌++◌, Option, Some, None, length, slice_get, refl, sym, ◌∙◌, ap, subst, arith}
use Rattle.std.proofs.lemmas.Bool.{cases_lt, cases_order}
use Rattle.std.proofs.lemmas.Option.{same_Some}
use Rattle.version_model.specs.declared.child.Child.{Child}
use Rattle.version_model.specs.Pages.{Keys, ColumnNode, CurrentLeaf, KeyNode, AreChildren, IsChildOf, child_keys}
use Rattle.version_model.specs.LeafVersions.{IsFrom}
use Rattle.version_model.specs.Sizes.{octets}
use Rattle.version_model.specs.Versions.{Version, Has}
use Rattle.version_model.proofs.api.Children.{disjoint}
use Rattle.version_model.proofs.api.LooksShown.{rising_one}
use Rattle.tsb_node.specs.Views.{keys_between}
use Rattle.tsb_node.proofs.ViewLaws.{children_are}
use Rattle.tsb_walk.specs.declared.page_place.PagePlace.{PagePlace}
use Rattle.tsb_walk.specs.PageWays.{IsLower}
use Rattle.tsb_walk.specs.Shown.{RepresentsNode, keys_at}
use Rattle.tsb_tree.specs.Needs.{HasLeaf, IsWhatStays, BecomesTwo, split_by_key, split_key_node, StaysOne, leaf_with_room, split_by_time, above_one, takes_half, NeedsLevel}
use Rattle.tsb_tree.specs.NoRoom.{AtRoot}
use Rattle.tsb_tree.specs.inner.Uses.{UsesPages}
use Rattle.tsb_tree.proofs.Columns.{represents_one}
use Rattle.tsb_tree.proofs.Needing.{one_needed}
use Rattle.tsb_tree.proofs.Representing.{KeyNodeOf, key_node_of_page}

-- one list stays of a leaf that is split by time at a stamp
stays_in : (leaf : List Version) (at : ℕ) (stays other : List Version) → IsFrom leaf at stays → IsFrom leaf at other → (v : Version) → Has stays v → Has other v
stays_in leaf at stays other from from' v has = elim (cases_lt v.stamp at) [
  | inl before ↦ from'.spanning v before (from.copies v has before) (from.values v has before)
  | inr since ↦ from'.each v (from.is_in v has) since
]

one_stays : (leaf : List Version) (at : ℕ) (stays other : List Version) → IsWhatStays leaf at stays → IsWhatStays leaf at other → stays ≡ other
one_stays leaf at stays other is is' = rising_one stays other is.rising is'.rising (stays_in leaf at stays other is.from is'.from) (stays_in leaf at other stays is'.from is.from)

-- the children of a key node that is shown follow one another
children_shown : (shown : List (List ℕ)) (key : ℕ) (place next : PagePlace) (lower : IsLower shown key place next) → AreChildren (keys_at place) lower.children
children_shown shown key place next lower =
    let of : KeyNodeOf lower.represents_node.octets place.level (keys_at place) lower.children = key_node_of_page lower.represents_node.octets _ place.level (keys_at place) lower.children refl lower.represents_node.represents_node in
    let is = of.is in
    let keys : keys_between of.node.bounds ≡ keys_at place = cc in
    let children : of.node.children ≡ lower.children = cc in
    subst (λ (k : Keys). AreChildren k lower.children) keys (subst (λ (cs : List Child). AreChildren (keys_between of.node.bounds) cs) children (children_are of.node of.page.valid))

-- two places of one page
module _ (shown : List (List ℕ)) (key : ℕ) (a b : PagePlace) (page : a.page ≡ b.page) where
  -- have one current leaf
  one_leaf : (leaf other : List Version) → HasLeaf shown a leaf → HasLeaf shown b other → leaf ≡ other
  one_leaf leaf other has has' =
      let column : ColumnNode (keys_at a) has.parts has.start has.page ≡ ColumnNode (keys_at b) has'.parts has'.start has'.page
      = represents_one shown b.page _ _ (subst (λ (p : ℕ). RepresentsNode shown p (ColumnNode (keys_at a) has.parts has.start has.page)) page has.column) has'.column in
      let at : has.page ≡ has'.page = cc in
      let current : CurrentLeaf (keys_at a) has.start leaf ≡ CurrentLeaf (keys_at b) has'.start other
      = represents_one shown has'.page _ _ (subst (λ (p : ℕ). RepresentsNode shown p (CurrentLeaf (keys_at a) has.start leaf)) at has.current) has'.current in
      cc

  -- and are no column and key node
  no_column_above : (leaf : List Version) (next : PagePlace) → HasLeaf shown a leaf → IsLower shown key b next → ⊥
  no_column_above leaf next has lower =
      let decoded : ColumnNode (keys_at a) has.parts has.start has.page ≡ KeyNode b.level (keys_at b) lower.children
      = represents_one shown b.page _ _ (subst (λ (p : ℕ). RepresentsNode shown p (ColumnNode (keys_at a) has.parts has.start has.page)) page has.column) lower.represents_node in
      absurd (cc)

  -- and the children of one key node, one of which has the key
  module _ (next other : PagePlace) (lower : IsLower shown key a next) (lower' : IsLower shown key b other) where
    one_node : KeyNode a.level (keys_at a) lower.children ≡ KeyNode b.level (keys_at b) lower'.children
    one_node = represents_one shown b.page _ _ (subst (λ (p : ℕ). RepresentsNode shown p (KeyNode a.level (keys_at a) lower.children)) page lower.represents_node) lower'.represents_node

    one_list : lower.children ≡ lower'.children
    one_list = let decoded = one_node in cc

    abbrev child : Child
    child = record { low = next.low; page = next.page }

    abbrev second : Child
    second = record { low = other.low; page = other.page }

    under : IsChildOf (keys_at a) lower.children (keys_at other) second
    under =
        let decoded = one_node in
        let keys : keys_at b ≡ keys_at a = cc in
        let children : lower'.children ≡ lower.children = cc in
        subst (λ (k : Keys). IsChildOf k lower.children (keys_at other) second) keys (subst (λ (cs : List Child). IsChildOf (keys_at b) cs (keys_at other) second) children lower'.child)

    one_place : lower.child.place ≡ under.place
    one_place =
        let are = children_shown shown key a next lower in
        elim (cases_order lower.child.place under.place) [
          | inl same ↦ same
          | inr apart ↦ elim apart [
            | inl lt ↦ (let h = disjoint (keys_at a) lower.children are (keys_at next) (keys_at other) child second lower.child under lt in absurd (omega (arith, h, lower.has.high, lower'.has.low)))
            | inr gt ↦ (let h = disjoint (keys_at a) lower.children are (keys_at other) (keys_at next) second child under lower.child gt in absurd (omega (arith, h, lower'.has.high, lower.has.low)))
          ]
        ]

    same_child : child ≡ second
    same_child =
        let at : slice_get lower.children lower.child.place ≡ Some second = subst (λ (i : ℕ). slice_get lower.children i ≡ Some second) (sym one_place) under.at in
        same_Some child second (sym lower.child.at ∙ at)

    pub one_child : next.page ≡ other.page
    one_child = ap (λ (c : Child). c.page) same_child

    pub one_keys : keys_at next ≡ keys_at other
    one_keys =
        sym lower.child.range ∙ ap (λ (i : ℕ). child_keys (keys_at a) lower.children i child) one_place ∙ ap (λ (c : Child). child_keys (keys_at a) lower.children under.place c) same_child ∙ under.range

-- a node that stays one doesn't become two
pub one_not_two : (shown : List (List ℕ)) (v : Version) (a b : PagePlace) (n m : ℕ) → a.page ≡ b.page → StaysOne shown v a n → BecomesTwo shown v b m → ⊥
one_not_two shown v _ _ _ _ page (leaf_with_room a leaf has room) (split_by_key b other stays has' filled what much) =
    let same = one_leaf shown v.key a b page leaf other has has' in absurd (omega (arith, ap octets same, room, filled))
one_not_two shown v _ _ _ _ page (leaf_with_room a leaf has room) (split_key_node b next m lower many two) = no_column_above shown v.key a b page leaf next has lower
one_not_two shown v _ _ _ _ page (split_by_time a leaf stays has filled what few) (split_by_key b leaf' stays' has' filled' what' much) =
    let same = one_leaf shown v.key a b page leaf leaf' has has' in
    let along : IsWhatStays (leaf ++ v ∷ []) v.stamp stays' = subst (λ (l : List Version). IsWhatStays (l ++ v ∷ []) v.stamp stays') (sym same) what' in
    let one = one_stays (leaf ++ v ∷ []) v.stamp stays stays' what along in absurd (omega (arith, ap octets one, few, much))
one_not_two shown v _ _ _ _ page (split_by_time a leaf stays has filled what few) (split_key_node b next m lower many two) = no_column_above shown v.key a b page leaf next has lower
one_not_two shown v _ _ _ _ page (above_one a next n lower one) (split_by_key b leaf stays has filled what much) = no_column_above shown v.key b a (sym page) leaf next has lower
one_not_two shown v _ _ _ _ page (above_one a next n lower one) (split_key_node b other m lower' many two) =
    one_not_two shown v next other n m (one_child shown v.key a b page next other lower lower') one two
one_not_two shown v _ _ _ _ page (takes_half a next n lower few half) (split_by_key b leaf stays has filled what much) = no_column_above shown v.key b a (sym page) leaf next has lower
one_not_two shown v _ _ _ _ page (takes_half a next n lower few half) (split_key_node b other m lower' many two) =
    let same = one_list shown v.key a b page next other lower lower' in absurd (omega (arith, ap length same, few, many))

-- a root that stays one needs no level more
pub root_stays : (shown : List (List ℕ)) (v : Version) (root level next unused : ℕ) (o : Option Child) → o ≡ None → AtRoot (λ place. UsesPages shown v place next unused o) root level → AtRoot (NeedsLevel shown v) root level → ⊥
root_stays shown v root level next unused o none at needs =
    let one = one_needed shown v at.0 next unused o none at.4 in
    let two = needs.4 in
    one_not_two shown v at.0 needs.0 one.0 two.0 (at.1 ∙ sym needs.1) one.1 two.1
