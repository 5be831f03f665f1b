-- Pages that represent something else.
use Rattle.std.proofs.Common.{◌≡◌, ℕ, Option, Some, sym, ◌∙◌, ap, arith, cond}
use Rattle.std.specs.Prelude.{nat_eq}
use Rattle.std.proofs.lemmas.Bool.Decides.{nat_tests}
use Rattle.std.proofs.lemmas.Option.{same_Some}
use Rattle.version_model.specs.Pages.{PageNode}
use Rattle.tsb_tree.specs.declared.whole.Whole.{Whole}
use Rattle.tsb_tree.specs.Wholes.{IsAt, column_node, leaf_node}

-- one of them represents something else
abbrev pub put : {X : Type 0} → ℕ → X → (ℕ → Option X) → ℕ → Option X
put page node nodes n = cond (nat_eq n page) (Some node) (nodes n)

pub put_same : {X : Type 0} (page : ℕ) (node : X) (nodes : ℕ → Option X) → put page node nodes page ≡ Some node
put_same page node nodes = grind (arith, nat_tests)

pub put_other : {X : Type 0} (page : ℕ) (node : X) (nodes : ℕ → Option X) (n : ℕ) → (n ≡ page → ⊥) → put page node nodes n ≡ nodes n
put_other page node nodes n ne = grind (arith, nat_tests)

-- a column and its leaf are in different pages
pub apart : (nodes : ℕ → Option PageNode) (page current : ℕ) (w : Whole) → IsAt nodes page current w → page ≡ current → ⊥
apart nodes page current w is e =
    let same : column_node w current ≡ leaf_node w = same_Some _ _ (sym is.at ∙ ap nodes e ∙ is.at_current) in
    cc

-- both pages of a column are written
abbrev pub written : (ℕ → Option PageNode) → ℕ → ℕ → Whole → ℕ → Option PageNode
written nodes page current w = put current (leaf_node w) (put page (column_node w current) nodes)

-- another page is written
pub IsAt-kept : (nodes : ℕ → Option PageNode) (page current : ℕ) (w : Whole) (p : ℕ) (node : PageNode) → (page ≡ p → ⊥) → (current ≡ p → ⊥) → IsAt nodes page current w → IsAt (put p node nodes) page current w
IsAt-kept nodes page current w p node ne ne' is = record {
  at = put_other p node nodes page ne ∙ is.at;
  at_current = put_other p node nodes current ne' ∙ is.at_current;
}

pub IsAt-written : (nodes : ℕ → Option PageNode) (page current : ℕ) (w : Whole) → (page ≡ current → ⊥) → IsAt (written nodes page current w) page current w
IsAt-written nodes page current w ne = record {
  at = put_other current (leaf_node w) (put page (column_node w current) nodes) page ne ∙ put_same page (column_node w current) nodes;
  at_current = put_same current (leaf_node w) (put page (column_node w current) nodes);
}

-- the leaf's page alone is written
pub IsAt-leaf : (nodes : ℕ → Option PageNode) (page current : ℕ) (w w' : Whole) → column_node w' current ≡ column_node w current → IsAt nodes page current w → IsAt (put current (leaf_node w') nodes) page current w'
IsAt-leaf nodes page current w w' same is = record {
  at = put_other current (leaf_node w') nodes page (apart nodes page current w is) ∙ is.at ∙ ap Some (sym same);
  at_current = put_same current (leaf_node w') nodes;
}

pub others_written : (nodes : ℕ → Option PageNode) (page current : ℕ) (w : Whole) (p : ℕ) → (p ≡ page → ⊥) → (p ≡ current → ⊥) → written nodes page current w p ≡ nodes p
others_written nodes page current w p ne ne' = put_other current (leaf_node w) (put page (column_node w current) nodes) p ne' ∙ put_other page (column_node w current) nodes p ne

-- two columns, of which the second lies in other pages
pub IsAt-first : (nodes : ℕ → Option PageNode) (page current q r : ℕ) (left right : Whole) → (page ≡ current → ⊥) → (page ≡ q → ⊥) → (page ≡ r → ⊥) → (current ≡ q → ⊥) → (current ≡ r → ⊥)
    → IsAt (written (written nodes page current left) q r right) page current left
IsAt-first nodes page current q r left right ne pq pr cq cr =
    let first : ℕ → Option PageNode = written nodes page current left in
    IsAt-kept (put q (column_node right r) first) page current left r (leaf_node right) pr cr
    (IsAt-kept first page current left q (column_node right r) pq cq (IsAt-written nodes page current left ne))
