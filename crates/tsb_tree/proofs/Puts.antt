-- A key node takes the new half of a child.
use Rattle.std.proofs.Common.{◌≡◌, ℕ, suc, ◌+◌, ◌<◌, ◌≤◌, List, Some, None, slice_get, take, drop, refl, sym, ◌∙◌, ap, arith}
use Rattle.std.specs.List.{insert}
use Rattle.version_model.specs.declared.child.Child.{Child}
use Rattle.version_model.specs.Versions.{Version}
use Rattle.version_model.specs.Pages.{Keys, PageNode, KeyNode, Store}
use Rattle.version_model.specs.Inserts.{Splits}
use Rattle.version_model.proofs.api.Put.{Splits-put}
use Rattle.tsb_tree.specs.Wholes.{keys}
use Rattle.tsb_tree.proofs.Laying.{put, put_same, put_other}
use Rattle.tsb_tree.proofs.KeySplit.{key_node_two, Splits-two}

-- the store with another page
abbrev pub with_page : Store → ℕ → PageNode → Store
with_page t page node = record { nodes = put page node t.nodes; limit = t.limit; blocks = t.blocks; next = t.next }

-- the store with another page, and one more, the next fresh one
abbrev pub with_two : Store → ℕ → PageNode → PageNode → Store
with_two t page node fresh = record { nodes = put t.limit fresh (put page node t.nodes); limit = t.limit + 1; blocks = t.blocks; next = t.next }

module _ (s t : Store) (v : Version) (level page : ℕ) (wide : Keys) (children children' : List Child) (i : ℕ) (child new : Child)
    (at : s.nodes page ≡ Some (KeyNode (suc level) wide children)) (at_child : slice_get children i ≡ Some child) (from : child.low ≤ v.key)
    (up_to : (c : Child) → slice_get children (suc i) ≡ Some c → v.key < c.low) (is : children' ≡ insert children (suc i) new) (splits : Splits s t v level child.page (Some new)) where
  -- the node's page alone is written
  pub puts_one : Splits s (with_page t page (KeyNode (suc level) wide children')) v (suc level) page None
  puts_one = Splits-put s t (with_page t page (KeyNode (suc level) wide children')) v level page wide children i child new at at_child from up_to splits (record {
    at = put_same page (KeyNode (suc level) wide children') t.nodes ∙ ap (λ x. Some (KeyNode (suc level) wide x)) is;
    others = λ p ne. put_other page (KeyNode (suc level) wide children') t.nodes p ne;
    limit = refl;
    blocks = refl;
    next = refl;
  })

  -- the node's page and a fresh one are written
  pub puts_two : (place : ℕ) (mid : Child) → slice_get children' place ≡ Some mid → 0 < place
      → Splits s (with_two t page (KeyNode (suc level) (keys wide.low mid.low) (take place children')) (KeyNode (suc level) (keys mid.low wide.high) (drop place children'))) v (suc level) page (Some (record { low = mid.low; page = t.limit }))
  puts_two place mid at_mid some =
      let n : PageNode = KeyNode (suc level) wide children' in
      let f : PageNode = KeyNode (suc level) (keys wide.low mid.low) (take place children') in
      let b : PageNode = KeyNode (suc level) (keys mid.low wide.high) (drop place children') in
      let m : Store = with_page t page n in
      let u : Store = with_two t page f b in
      let others : (p : ℕ) → p < t.limit → (p ≡ page → ⊥) → u.nodes p ≡ m.nodes p = λ p in_limit ne. put_other t.limit b (put page f t.nodes) p (λ e. omega (arith, e, in_limit)) ∙ put_other page f t.nodes p ne ∙ sym (put_other page n t.nodes p ne) in
      let two = key_node_two m u level page wide children' place mid (put_same page n t.nodes) at_mid some
      (λ in_limit. put_other t.limit b (put page f t.nodes) page (λ e. omega (arith, e, in_limit)) ∙ put_same page f t.nodes)
      (put_same t.limit b (put page f t.nodes))
      others (omega arith) refl refl in
      Splits-two s m u v level page wide children (record { low = mid.low; page = t.limit }) at puts_one two others (omega arith) refl refl
