use Rattle.std.proofs.Common.{◌≡◌, ℕ, sym, ◌∙◌, ap, subst, Err}
use Rattle.page_tx.specs.declared.error.PageError.TheVariants as pages
use Rattle.tsb_tree.specs.declared.error.TreeError.TheVariants as trees
use Rattle.archive_head.specs.Head.{Contents}
use Rattle.version_model.specs.Pages.{TreeRepresents}
use Rattle.tsb_tree.specs.Refusals.{ReadRefusal}
use Rattle.disk_archive.specs.declared.ask_error.AskError.TheVariants as asks
use Rattle.disk_archive.proofs.Asking.{at_root, root_blames}
use Rattle.disk_archive.proofs.Faults.{keeps_reported}
use Rattle.disk_archive.proofs.answering.root_of.Goals as goal

pub of_root-requires : goal.of_root-requires
of_root-requires g c = record { read = (g.P.Pages.down c.args.pages.now, c.in-Err.ensures.refused) }

pub returns-in-Ok-clause-represents_all : goal.returns-in-Ok-clause-represents_all
returns-in-Ok-clause-represents_all g c start shown s all level shows are t =
    let root = ap (λ (x : Contents). x.root) c.head.view_is in
    let reported = c.in-Ok.ensures.opened start shown shows s all level are (subst (λ (r : ℕ). TreeRepresents s all r level) (sym root) t) in
    at_root shown s all c.args.head.now.root level c.root.result (c.root.ensures.page ∙ c.in-Ok.ensures.root ∙ root) (c.root.ensures.level ∙ reported) c.root.ensures.keys are t

pub returns-in-Err-clause-blames : goal.returns-in-Err-clause-blames
returns-in-Err-clause-blames g c start shown s all level shows are t =
    let root = ap (λ (x : Contents). x.root) c.head.view_is in
    let honest = c.in-Err.ensures.honest start shown shows s all level are (subst (λ (r : ℕ). TreeRepresents s all r level) (sym root) t) in
    root_blames c.in-Err.refusal c.of_root.result honest c.of_root.ensures.bad c.of_root.ensures.damaged

pub returns-in-Err-clause-refused : goal.returns-in-Err-clause-refused
returns-in-Err-clause-refused g c = c.of_root.ensures.refused _ c.in-Err.ensures.refused

pub returns-in-Err-clause-undamaged : goal.returns-in-Err-clause-undamaged
returns-in-Err-clause-undamaged g c block is =
    let reported : c.of_root.result ≡ asks.Damaged block = cc in
    subst (ReadRefusal (g.P.Pages.down c.args.pages.now)) (c.of_root.ensures.damaged block reported) c.in-Err.ensures.refused

pub returns-in-Ok-clause-device : goal.returns-in-Ok-clause-device
returns-in-Ok-clause-device g c = keeps_reported _ _ _ _ _ _ (λ reported. absurd (cc)) (λ failed. absurd (cc)) c.open.ensures.reads.device

pub returns-in-Err-clause-device : goal.returns-in-Err-clause-device
returns-in-Err-clause-device g c =
    keeps_reported _ _ _ _ _ _
    (λ reported. (let is : c.of_root.result ≡ asks.Fault = cc in c.in-Err.is ∙ ap Err (c.of_root.ensures.fault.0 is)))
    (λ failed. (let is : c.in-Err.refusal ≡ trees.Pages pages.Fault = cc in ap Err (c.of_root.ensures.fault.1 is)))
    c.open.ensures.reads.device
