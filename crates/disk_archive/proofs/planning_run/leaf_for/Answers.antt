use Rattle.std.proofs.Common.{◌≡◌, inl, inr, ℕ, sym, ◌∙◌, ap, subst, arith, Err}
use Rattle.page_tx.specs.declared.error.PageError.TheVariants as pages
use Rattle.version_model.specs.Pages.{TreeRepresents}
use Rattle.route_history.specs.Stamps.{stamp_of}
use Rattle.tsb_tree.specs.declared.error.TreeError.TheVariants as trees
use Rattle.tsb_tree.specs.Refusals.{ReadRefusal}
use Rattle.tsb_tree.specs.OpenLeaves.{IsOpen}
use Rattle.tsb_tree.specs.Trees.{TreeHas}
use Rattle.archive_head.specs.Head.{Contents}
use Rattle.disk_archive.specs.declared.apply_error.ApplyError.TheVariants as applies
use Rattle.disk_archive.specs.declared.change_error.ChangeError.TheVariants as changes
use Rattle.disk_archive.proofs.Faults.{done_not_reported, keeps_reported, keeps_then, one_reported}
use Rattle.disk_archive.proofs.planning_run.leaf_for.Goals as goal

pub returns-in-Ok-open_leaf-clause-leaf : goal.returns-in-Ok-open_leaf-clause-leaf
returns-in-Ok-open_leaf-clause-leaf g c count o start shown low versions shows t =
    let h = c.args.head.now in
    let view = c.head.view_is in
    let root = ap (λ (x : Contents). x.root) view in
    let least : c.new-least.result ≡ stamp_of h.last h.applied = c.new-least.ensures.number ∙ (ap (λ (t : ℕ). stamp_of t c.head.inside.applied) (c.number.ensures.number ∙ ap (λ (x : Contents). x.last) view) ∙ ap (λ (n : ℕ). stamp_of h.last n) (ap (λ (x : Contents). x.applied) view)) in
    let level = c.in-Ok.ensures.opened start shown shows t.store versions t.level t.represents_node (subst (λ (r : ℕ). TreeRepresents t.store versions r t.level) (sym root) t.has.represents_all) in
    let here = c.in-Ok.ensures.root ∙ root in
    let place = c.in-Ok.place in
    let has = subst (λ (n : ℕ). TreeHas t.store versions place.root place.level n) (sym (c.in-Ok.ensures.least ∙ least))
    (subst (λ (n : ℕ). TreeHas t.store versions place.root n (stamp_of h.last h.applied)) (sym level) (subst (λ (n : ℕ). TreeHas t.store versions n t.level (stamp_of h.last h.applied)) (sym here) t.has)) in
    let later = c.requires.later in
    let k = c.in-Ok-open_leaf.ensures.leaf start shown t.store versions (c.open.ensures.reads.shown start shown shows) t.represents_node has (let e = c.in-Ok.ensures.least in omega (arith, later, e, least)) in
    subst (λ (r : ℕ). IsOpen shown r c.in-Ok-open_leaf.leaf) here k

-- ---- how often the device failed

pub returns-in-Err-clause-device : goal.returns-in-Err-clause-device
returns-in-Err-clause-device g c =
    keeps_reported _ _ _ _ _ _
    (λ reported. (let is : c.of_tree.result ≡ changes.Apply applies.Fault = cc in elim (c.of_tree.ensures.fault.0 is) [
      | inl pages ↦ c.in-Err.is ∙ ap Err pages
      | inr once ↦ absurd (subst (ReadRefusal _) once c.in-Err.ensures.refused)
    ]))
    (λ failed. ap Err (c.of_tree.ensures.fault.1 (inl (one_reported c.open.result c.in-Err.refusal (trees.Pages pages.Fault) c.in-Err.is failed))))
    c.open.ensures.reads.device

pub returns-in-Ok-open_leaf-clause-device : goal.returns-in-Ok-open_leaf-clause-device
returns-in-Ok-open_leaf-clause-device g c =
    keeps_then _ _ _ _ _ _ _ (keeps_reported _ _ _ _ _ _ (λ f. absurd f) (done_not_reported c.open.result c.in-Ok.place (trees.Pages pages.Fault) c.in-Ok.is) c.open.ensures.reads.device)
    (keeps_reported _ _ _ _ _ _ (λ reported. absurd cc) (λ failed. absurd (done_not_reported c.open_leaf.result c.in-Ok-open_leaf.leaf (trees.Pages pages.Fault) c.in-Ok-open_leaf.is failed)) c.open_leaf.ensures.reads.device)

pub returns-in-Err-open_leaf-clause-device : goal.returns-in-Err-open_leaf-clause-device
returns-in-Err-open_leaf-clause-device g c =
    keeps_then _ _ _ _ _ _ _ (keeps_reported _ _ _ _ _ _ (λ f. absurd f) (done_not_reported c.open.result c.in-Ok.place (trees.Pages pages.Fault) c.in-Ok.is) c.open.ensures.reads.device)
    (keeps_reported _ _ _ _ _ _
    (λ reported. (let is : c.of_tree-in-Err-open_leaf.result ≡ changes.Apply applies.Fault = cc in elim (c.of_tree-in-Err-open_leaf.ensures.fault.0 is) [
      | inl pages ↦ c.in-Err-open_leaf.is ∙ ap Err pages
      | inr once ↦ absurd (subst (ReadRefusal _) once c.in-Err-open_leaf.ensures.refused)
    ]))
    (λ failed. ap Err (c.of_tree-in-Err-open_leaf.ensures.fault.1 (inl (one_reported c.open_leaf.result c.in-Err-open_leaf.refusal (trees.Pages pages.Fault) c.in-Err-open_leaf.is failed))))
    c.open_leaf.ensures.reads.device)
