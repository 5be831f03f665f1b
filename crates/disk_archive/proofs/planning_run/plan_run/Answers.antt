use Rattle.std.proofs.Common.{rules, ◌≡◌, ℕ, Bool, List, sym, ◌∙◌, ap, subst, Err}
use Rattle.disk_models.specs.Once.{settled_in}
use Rattle.archive_pages.specs.Places.{tree_low}
use Rattle.disk_archive.specs.declared.apply_error.ApplyError.TheVariants as applies
use Rattle.disk_archive.specs.declared.change_error.ChangeError.TheVariants as changes
use Rattle.disk_archive.specs.inner.Applications.{MovesOn}
use Rattle.disk_archive.specs.inner.Runs.{WithLeaf}
use Rattle.disk_archive.proofs.Faults.{keeps_reported, one_reported}
use Rattle.disk_archive.proofs.Running.{leaf_opened, moves_shown}
use Rattle.disk_archive.proofs.planning_run.plan_run.Goals as goal

pub returns-in-Some-push_changes-clause-moves : goal.returns-in-Some-push_changes-clause-moves
returns-in-Some-push_changes-clause-moves g c whole is count o start shown h later shows b here below =
    let P = g.P.Pages in
    let s = c.args.settings in
    let head = c.args.head.now in
    let leaf = c.in_ok-leaf.leaf in
    let opened = c.in_ok-leaf.ensures.leaf count o start shown (tree_low s) b.versions shows b.tree in
    let m = c.in-Some-push_changes.ensures.moves count o shown shown h later (leaf_opened shown head.root leaf opened) b here below in
    let shows' = c.leaf_for.ensures.reads start shown shows in
    let same : c.in-Some-push_changes.whole ≡ whole = cc in
    subst (λ (w : Bool). MovesOn count s (settled_in o) (P.shows c.lay.new.pages start) c.push_changes.new.head w h) same
    (moves_shown count s (settled_in o) (WithLeaf shown head.root c.push_changes.new.leaf) (P.shows c.lay.new.pages start) c.push_changes.new.head c.in-Some-push_changes.whole h
    (λ pages at. subst (λ (l : List (List ℕ)). P.shows c.lay.new.pages start l) (sym at.laid) (c.in_ok-lay-in-Some-push_changes.ensures.laid start shown shows')) m)

-- ---- how often the device failed

pub returns-in_err-leaf-clause-device : goal.returns-in_err-leaf-clause-device
returns-in_err-leaf-clause-device g c =
    let e = c.in_err-leaf.field-0.0 in
    let r : c.leaf_for.result ≡ Err e = search rules in
    let d : c.from_residual.result ≡ Err e = search rules in
    keeps_reported _ _ _ _ _ _ (λ reported. r ∙ ap Err (one_reported c.from_residual.result e (changes.Apply applies.Fault) d reported)) (λ failed. d ∙ ap Err (one_reported c.leaf_for.result e (changes.Apply applies.Fault) r failed)) c.leaf_for.ensures.device
