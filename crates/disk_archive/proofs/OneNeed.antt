-- A tree needs as many pages for a version, however they are counted.
use Rattle.std.proofs.Common.{◌≡◌, ℕ, suc, inl, inr, List, Some, slice_get, refl, sym, ◌∙◌, ap, subst, arith}
use Rattle.std.proofs.lemmas.Bool.{cases_order}
use Rattle.std.proofs.lemmas.Option.{same_Some}
use Rattle.version_model.specs.declared.child.Child.{Child}
use Rattle.version_model.specs.Pages.{Keys, ColumnNode, KeyNode, AreChildren, IsChildOf}
use Rattle.version_model.specs.Versions.{Version}
use Rattle.version_model.proofs.api.Children.{disjoint}
use Rattle.tsb_node.specs.Views.{keys_between}
use Rattle.tsb_node.proofs.ViewLaws.{children_are}
use Rattle.tsb_walk.specs.declared.page_place.PagePlace.{PagePlace}
use Rattle.tsb_walk.specs.PageWays.{IsLower}
use Rattle.tsb_walk.specs.Shown.{RepresentsNode, keys_at}
use Rattle.tsb_tree.specs.Needs.{HasLeaf, BecomesTwo, split_by_key, split_key_node, StaysOne, leaf_with_room, split_by_time, above_one, takes_half, NeedsPages, same_root, new_root}
use Rattle.tsb_tree.proofs.Columns.{represents_one}
use Rattle.tsb_tree.proofs.Excluding.{one_not_two}
use Rattle.tsb_tree.proofs.Representing.{KeyNodeOf, key_node_of_page}

-- the children of a key node that is shown follow one another
children_shown : (shown : List (List ℕ)) (key : ℕ) (place next : PagePlace) (lower : IsLower shown key place next) → AreChildren (keys_at place) lower.children
children_shown shown key place next lower =
    let of : KeyNodeOf lower.represents_node.octets place.level (keys_at place) lower.children = key_node_of_page lower.represents_node.octets _ place.level (keys_at place) lower.children refl lower.represents_node.represents_node in
    let is = of.is in
    let keys : keys_between of.node.bounds ≡ keys_at place = cc in
    let children : of.node.children ≡ lower.children = cc in
    subst (λ (k : Keys). AreChildren k lower.children) keys (subst (λ (cs : List Child). AreChildren (keys_between of.node.bounds) cs) children (children_are of.node of.page.valid))

-- two places of one page
module _ (shown : List (List ℕ)) (key : ℕ) (a b : PagePlace) (page : a.page ≡ b.page) where
  -- are no column and key node
  no_column_above : (leaf : List Version) (next : PagePlace) → HasLeaf shown a leaf → IsLower shown key b next → ⊥
  no_column_above leaf next has lower =
      let decoded : ColumnNode (keys_at a) has.parts has.start has.page ≡ KeyNode b.level (keys_at b) lower.children
      = represents_one shown b.page _ _ (subst (λ (p : ℕ). RepresentsNode shown p (ColumnNode (keys_at a) has.parts has.start has.page)) page has.column) lower.represents_node in
      absurd (cc)

  -- and have one child that has the key
  module _ (next other : PagePlace) (lower : IsLower shown key a next) (lower' : IsLower shown key b other) where
    one_node : KeyNode a.level (keys_at a) lower.children ≡ KeyNode b.level (keys_at b) lower'.children
    one_node = represents_one shown b.page _ _ (subst (λ (p : ℕ). RepresentsNode shown p (KeyNode a.level (keys_at a) lower.children)) page lower.represents_node) lower'.represents_node

    abbrev child : Child
    child = record { low = next.low; page = next.page }

    abbrev second : Child
    second = record { low = other.low; page = other.page }

    under : IsChildOf (keys_at a) lower.children (keys_at other) second
    under =
        let decoded = one_node in
        let keys : keys_at b ≡ keys_at a = cc in
        let children : lower'.children ≡ lower.children = cc in
        subst (λ (k : Keys). IsChildOf k lower.children (keys_at other) second) keys (subst (λ (cs : List Child). IsChildOf (keys_at b) cs (keys_at other) second) children lower'.child)

    one_place : lower.child.place ≡ under.place
    one_place =
        let are = children_shown shown key a next lower in
        elim (cases_order lower.child.place under.place) [
          | inl same ↦ same
          | inr apart ↦ elim apart [
            | inl lt ↦ (let h = disjoint (keys_at a) lower.children are (keys_at next) (keys_at other) child second lower.child under lt in absurd (omega (arith, h, lower.has.high, lower'.has.low)))
            | inr gt ↦ (let h = disjoint (keys_at a) lower.children are (keys_at other) (keys_at next) second child under lower.child gt in absurd (omega (arith, h, lower'.has.high, lower.has.low)))
          ]
        ]

    one_child : next.page ≡ other.page
    one_child =
        let at : slice_get lower.children lower.child.place ≡ Some second = subst (λ (i : ℕ). slice_get lower.children i ≡ Some second) (sym one_place) under.at in
        ap (λ (c : Child). c.page) (same_Some child second (sym lower.child.at ∙ at))

-- as many where the node becomes two
two_need : (shown : List (List ℕ)) (v : Version) (a b : PagePlace) (n m : ℕ) → a.page ≡ b.page → BecomesTwo shown v a n → BecomesTwo shown v b m → n ≡ m
two_need shown v _ _ _ _ page (split_by_key a leaf stays has filled what much) (split_by_key b leaf' stays' has' filled' what' much') = refl
two_need shown v _ _ _ _ page (split_by_key a leaf stays has filled what much) (split_key_node b next m lower many two) = absurd (no_column_above shown v.key a b page leaf next has lower)
two_need shown v _ _ _ _ page (split_key_node a next n lower many two) (split_by_key b leaf stays has filled what much) = absurd (no_column_above shown v.key b a (sym page) leaf next has lower)
two_need shown v _ _ _ _ page (split_key_node a next n lower many two) (split_key_node b other m lower' many' two') =
    ap suc (two_need shown v next other n m (one_child shown v.key a b page next other lower lower') two two')

-- as many where it stays one
one_need : (shown : List (List ℕ)) (v : Version) (a b : PagePlace) (n m : ℕ) → a.page ≡ b.page → StaysOne shown v a n → StaysOne shown v b m → n ≡ m
one_need shown v _ _ _ _ page (leaf_with_room a leaf has room) (leaf_with_room b leaf' has' room') = refl
one_need shown v _ _ _ _ page (leaf_with_room a leaf has room) (split_by_time b leaf' stays' has' filled' what' few') = refl
one_need shown v _ _ _ _ page (leaf_with_room a leaf has room) (above_one b next m lower one) = absurd (no_column_above shown v.key a b page leaf next has lower)
one_need shown v _ _ _ _ page (leaf_with_room a leaf has room) (takes_half b next m lower few half) = absurd (no_column_above shown v.key a b page leaf next has lower)
one_need shown v _ _ _ _ page (split_by_time a leaf stays has filled what few) (leaf_with_room b leaf' has' room') = refl
one_need shown v _ _ _ _ page (split_by_time a leaf stays has filled what few) (split_by_time b leaf' stays' has' filled' what' few') = refl
one_need shown v _ _ _ _ page (split_by_time a leaf stays has filled what few) (above_one b next m lower one) = absurd (no_column_above shown v.key a b page leaf next has lower)
one_need shown v _ _ _ _ page (split_by_time a leaf stays has filled what few) (takes_half b next m lower few' half) = absurd (no_column_above shown v.key a b page leaf next has lower)
one_need shown v _ _ _ _ page (above_one a next n lower one) (leaf_with_room b leaf has room) = absurd (no_column_above shown v.key b a (sym page) leaf next has lower)
one_need shown v _ _ _ _ page (above_one a next n lower one) (split_by_time b leaf stays has filled what few) = absurd (no_column_above shown v.key b a (sym page) leaf next has lower)
one_need shown v _ _ _ _ page (above_one a next n lower one) (above_one b other m lower' one') = one_need shown v next other n m (one_child shown v.key a b page next other lower lower') one one'
one_need shown v _ _ _ _ page (above_one a next n lower one) (takes_half b other m lower' few half) = absurd (one_not_two shown v next other n m (one_child shown v.key a b page next other lower lower') one half)
one_need shown v _ _ _ _ page (takes_half a next n lower few half) (leaf_with_room b leaf has room) = absurd (no_column_above shown v.key b a (sym page) leaf next has lower)
one_need shown v _ _ _ _ page (takes_half a next n lower few half) (split_by_time b leaf stays has filled what few') = absurd (no_column_above shown v.key b a (sym page) leaf next has lower)
one_need shown v _ _ _ _ page (takes_half a next n lower few half) (above_one b other m lower' one) = absurd (one_not_two shown v other next m n (sym (one_child shown v.key a b page next other lower lower')) one half)
one_need shown v _ _ _ _ page (takes_half a next n lower few half) (takes_half b other m lower' few' half') = two_need shown v next other n m (one_child shown v.key a b page next other lower lower') half half'

-- as many below a root
pub tree_need : (shown : List (List ℕ)) (v : Version) (a b : PagePlace) (n m : ℕ) → a.page ≡ b.page → NeedsPages shown v a n → NeedsPages shown v b m → n ≡ m
tree_need shown v _ _ _ _ page (same_root a n one) (same_root b m one') = one_need shown v a b n m page one one'
tree_need shown v _ _ _ _ page (same_root a n one) (new_root b m two) = absurd (one_not_two shown v a b n m page one two)
tree_need shown v _ _ _ _ page (new_root a n two) (same_root b m one) = absurd (one_not_two shown v b a m n (sym page) one two)
tree_need shown v _ _ _ _ page (new_root a n two) (new_root b m two') = ap suc (two_need shown v a b n m page two two')
