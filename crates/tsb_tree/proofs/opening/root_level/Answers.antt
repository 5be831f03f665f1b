use Rattle.std.proofs.Common.{◌≡◌, ◌∙◌, Result, Some, Ok, Err, IsErr, inl, inr, sym, ap, subst}
use Rattle.std.proofs.lemmas.Bool.{false≢true}
use Rattle.tsb_node.specs.declared.heads.KeyNodeHead.{KeyNodeHead}
use Rattle.tsb_node.specs.declared.leaf.NotANode.{NotANode}
use Rattle.tsb_node.specs.Children.{BeginsAsKeyNode}
use Rattle.tsb_node.specs.Parts.{BeginsAsColumn}
use Rattle.tsb_node.specs.Views.{keys_between}
use Rattle.tsb_tree.proofs.Roots.{root_cases}
use Rattle.tsb_tree.proofs.opening.root_level.Goals as goal

pub returns-then-not-are_its_keys-clause-level : goal.returns-then-not-are_its_keys-clause-level
returns-then-not-are_its_keys-clause-level c = λ level is. elim (root_cases c.args.page.now level is) [
  | inl column ↦ (
      let no = c.key_node_head.ensures.column column.1.column (subst (BeginsAsColumn column.1.column) (sym c.octets.ensures.value) column.1.begins) in
      absurd (false≢true (subst (λ (r : Result KeyNodeHead NotANode). IsErr r) c.in-Ok.is no)))
  | inr node ↦ (
      let head = c.key_node_head.ensures.head node.node (subst (BeginsAsKeyNode node.node) (sym c.octets.ensures.value) node.begins) in
      let bounds : c.in-Ok.head.bounds ≡ node.node.bounds = cc (c.in-Ok.is, head) in
      absurd (cc (c.are_its_keys.ensures.1 (ap keys_between bounds ∙ node.keys ∙ sym c.root-root.ensures.keys), c.if-not-are_its_keys.true)))
]

pub returns-in-Ok-clause-level : goal.returns-in-Ok-clause-level
returns-in-Ok-clause-level c = λ level is. elim (root_cases c.args.page.now level is) [
  | inl column ↦ (
      let no = c.key_node_head.ensures.column column.1.column (subst (BeginsAsColumn column.1.column) (sym c.octets.ensures.value) column.1.begins) in
      absurd (false≢true (subst (λ (r : Result KeyNodeHead NotANode). IsErr r) c.in-Ok.is no)))
  | inr node ↦ (
      let head = c.key_node_head.ensures.head node.node (subst (BeginsAsKeyNode node.node) (sym c.octets.ensures.value) node.begins) in
      let same : c.in-Ok.head.level ≡ node.node.level = cc (c.in-Ok.is, head) in
      ap Some (same ∙ node.level_is))
]

pub returns-in_default-column_head-clause-level : goal.returns-in_default-column_head-clause-level
returns-in_default-column_head-clause-level c = λ level is. elim (root_cases c.args.page.now level is) [
  | inl column ↦ absurd (c.in_default-column_head.not-Ok _ (c.column_head.ensures.column column.1.column (subst (BeginsAsColumn column.1.column) (sym c.octets-2.ensures.value) column.1.begins)))
  | inr node ↦ absurd (c.in_default.not-Ok _ (c.key_node_head.ensures.head node.node (subst (BeginsAsKeyNode node.node) (sym c.octets.ensures.value) node.begins)))
]

pub returns-then-not-are_its_keys-2-clause-level : goal.returns-then-not-are_its_keys-2-clause-level
returns-then-not-are_its_keys-2-clause-level c = λ level is. elim (root_cases c.args.page.now level is) [
  | inl column ↦ (
      let head = c.column_head.ensures.column column.1.column (subst (BeginsAsColumn column.1.column) (sym c.octets-2.ensures.value) column.1.begins) in
      let bounds : c.in-Ok-column_head.bounds ≡ column.1.column.bounds = cc (c.in-Ok-column_head.is, head) in
      absurd (cc (c.are_its_keys-2.ensures.1 (ap keys_between bounds ∙ column.1.keys ∙ sym c.root-root.ensures.keys), c.if-not-are_its_keys-2.true)))
  | inr node ↦ absurd (c.in_default.not-Ok _ (c.key_node_head.ensures.head node.node (subst (BeginsAsKeyNode node.node) (sym c.octets.ensures.value) node.begins)))
]

pub returns-clause-level : goal.returns-clause-level
returns-clause-level c = λ level is. elim (root_cases c.args.page.now level is) [
  | inl column ↦ ap Some (sym column.0)
  | inr node ↦ absurd (c.in_default.not-Ok _ (c.key_node_head.ensures.head node.node (subst (BeginsAsKeyNode node.node) (sym c.octets.ensures.value) node.begins)))
]
