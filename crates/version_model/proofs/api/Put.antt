-- A key node takes the second half of a child that became two.
use Rattle.std.proofs.Common.{◌≡◌, ℕ, suc, ◌<◌, ◌≤◌, inl, inr, List, Option, Some, None, slice_get, refl, sym, ◌∙◌, ap, subst, arith}
use Rattle.std.specs.List.{insert}
use Rattle.std.proofs.lemmas.Bool.{cases_eq}
use Rattle.std.proofs.lemmas.Option.{same_Some}
use Rattle.version_model.specs.declared.child.Child.{Child}
use Rattle.version_model.specs.Versions.{Version, IsAbove, Adds}
use Rattle.version_model.specs.Ranges.{IsKeyOf}
use Rattle.version_model.specs.Pages.{Keys, PageNode, KeyNode, Store, NodeRepresentsIn, IsChildOf, child_keys, low_or, current_range}
use Rattle.version_model.specs.Inserts.{LocatedUnder, KeepsOthers, Splits, Writes}
use Rattle.version_model.specs.inner.Children.{Inserts}
use Rattle.version_model.proofs.api.Children.{key_represents, KeyRepresents, others_represent_all, Inserts-child}
use Rattle.version_model.proofs.api.ChildrenTwo.{other_or_two, AreChildren-insert, key_node_written}

module _ (s t u : Store) (v : Version) (level page : ℕ) (wide : Keys) (children : List Child) (i : ℕ) (child new : Child)
    (at : s.nodes page ≡ Some (KeyNode (suc level) wide children)) (at_child : slice_get children i ≡ Some child) (from : child.low ≤ v.key)
    (up_to : (c : Child) → slice_get children (suc i) ≡ Some c → v.key < c.low) (splits : Splits s t v level child.page (Some new))
    (writes : Writes t u page (KeyNode (suc level) wide (insert children (suc i) new))) where
  under_end : (high : ℕ) (o : Option Child) → slice_get children (suc i) ≡ o → v.key < high → v.key < low_or high o
  under_end high None is lt = lt
  under_end high (Some c) is lt = up_to c is

  module _ (all : List Version) (keys : Keys) (represents_all : NodeRepresentsIn s all (suc level) keys page) where
    k : KeyRepresents s.nodes s.limit s.blocks s.next all level keys page children
    k = (key_represents s.nodes s.limit s.blocks s.next all (suc level) keys page level wide children at represents_all).1

    place : IsChildOf keys children (child_keys keys children i child) child
    place = record { place = i; at = at_child; range = refl }

    keeps : KeepsOthers s.nodes t.nodes s.limit level (child_keys keys children i child)
    keeps = splits.others all (child_keys keys children i child) (k.stand (child_keys keys children i child) child place)

    same_keys : wide ≡ keys
    same_keys =
        let node : KeyNode (suc level) wide children ≡ KeyNode (suc level) keys children = same_Some _ _ (sym at ∙ k.at) in
        cc

    page_between : t.nodes page ≡ Some (KeyNode (suc level) keys children)
    page_between = keeps page _ k.in_limit k.at (λ under. omega (arith, under.no_higher))

    put_others : KeepsOthers s.nodes u.nodes s.limit (suc level) keys
    put_others p node in_limit at_node never =
        let h = k.are.inside (child_keys keys children i child) child place in
        let not_page : p ≡ page → ⊥ = λ e. never (subst (LocatedUnder (suc level) keys) (same_Some (KeyNode (suc level) keys children) node (sym k.at ∙ ap s.nodes (sym e) ∙ at_node)) (record { no_higher = omega arith; low = omega arith; nonempty = omega (arith, h.0, h.1, h.2); high = omega arith })) in
        writes.others p not_page ∙ keeps p node in_limit at_node (λ under. never (record { no_higher = omega (arith, under.no_higher); low = omega (arith, under.low, h.0); nonempty = under.nonempty; high = omega (arith, under.high, h.2) }))

    same_under : (p : ℕ) (node : PageNode) → p < t.limit → t.nodes p ≡ Some node → LocatedUnder level keys node → u.nodes p ≡ Some node
    same_under p node in_limit at_node under = elim (cases_eq p page) [
      | inl e ↦ absurd (let n : KeyNode (suc level) keys children ≡ node = same_Some (KeyNode (suc level) keys children) node (sym page_between ∙ ap t.nodes (sym e) ∙ at_node) in
          let l : LocatedUnder level keys (KeyNode (suc level) keys children) = subst (LocatedUnder level keys) (sym n) under in omega (arith, l.no_higher))
      | inr ne ↦ writes.others p ne ∙ at_node
    ]

    put_represents : (after : List Version) → IsKeyOf (current_range keys 0) v.key → IsAbove all v.stamp → Adds all v after → NodeRepresentsIn u after (suc level) keys page
    unfolding place
    put_represents after of_key above adds =
        let inner : Keys = child_keys keys children i child in
        let in_child : IsKeyOf (current_range inner 0) v.key = record { low = from; high = under_end keys.high (slice_get children (suc i)) refl of_key.high } in
        let two = splits.represents_all all after inner in_child above adds (k.stand inner child place) in
        let children' : List Child = insert children (suc i) new in
        rw (writes.blocks, writes.next)
        (key_node_written t.nodes u.nodes t.limit u.limit t.blocks t.next after (let h : t.limit ≤ u.limit = omega (arith, writes.limit) in h) level keys page children'
        (let h : page < u.limit = omega (arith, writes.limit, splits.limit_grows, k.in_limit) in h)
        (AreChildren-insert keys children i child new at_child two.0 two.1 k.are)
        same_under
        (rw (← same_keys) writes.at)
        (λ r other is. elim (other_or_two keys children i child new at_child two.0 two.1 k.are r other is) [
          | inl was ↦ others_represent_all s.nodes t.nodes s.limit t.limit s.blocks t.blocks s.next t.next all after v
              (record { adds = adds; above = above; grows = splits.grows; next_grows = splits.next_grows; limit_grows = splits.limit_grows })
              level keys children inner child k.are place in_child keeps r other was.0 was.1 (k.stand r other was.0)
          | inr halves ↦ elim halves [
            | inl l ↦ rw (l.0, l.1) two.2
            | inr r' ↦ rw (r'.0, r'.1) two.3
          ]
        ]))

  pub Splits-put : Splits s u v (suc level) page None
  Splits-put = record {
    grows = rw writes.blocks splits.grows;
    next_grows = omega (arith, writes.next, splits.next_grows);
    limit_grows = omega (arith, writes.limit, splits.limit_grows);
    represents_all = λ all after keys of_key above adds represents_all. put_represents all keys represents_all after of_key above adds;
    others = λ all keys represents_all. put_others all keys represents_all;
  }

-- a child that stayed one
pub Splits-child : (s t : Store) (v : Version) (level page : ℕ) (wide : Keys) (children : List Child) (i : ℕ) (child : Child) → s.nodes page ≡ Some (KeyNode (suc level) wide children) → slice_get children i ≡ Some child → child.low ≤ v.key
    → ((c : Child) → slice_get children (suc i) ≡ Some c → v.key < c.low) → Splits s t v level child.page None → Splits s t v (suc level) page None
Splits-child s t v level page wide children i child at at_child from up_to splits =
    let one : Inserts s t v level child.page = record { grows = splits.grows; next_grows = splits.next_grows; limit_grows = splits.limit_grows; represents_all = splits.represents_all; others = splits.others } in
    let all = Inserts-child s t v level page wide children i child at at_child from up_to one in
    record { grows = all.grows; next_grows = all.next_grows; limit_grows = all.limit_grows; represents_all = all.represents_all; others = all.others }
