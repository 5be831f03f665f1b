use Rattle.std.proofs.Common.{◌≡◌, ℕ, sym, ◌∙◌, ap, subst, Err}
use Rattle.page_tx.specs.declared.error.PageError.TheVariants as pages
use Rattle.tsb_tree.specs.declared.error.TreeError.{TreeError}
use Rattle.tsb_tree.specs.declared.error.TreeError.TheVariants as trees
use Rattle.version_model.specs.Pages.{TreeRepresents}
use Rattle.disk_archive.specs.declared.check_error.CheckError.TheVariants as checks
use Rattle.disk_archive.proofs.Counts.{root_finds}
use Rattle.disk_archive.proofs.Faults.{keeps_reported}
use Rattle.disk_archive.proofs.checking.root_of.Goals as goal

pub of_root-requires : goal.of_root-requires
of_root-requires g c = record { read = (g.P.Pages.down c.args.pages.now, c.in-Err.ensures.refused) }

pub returns-in-Ok-clause-place : goal.returns-in-Ok-clause-place
returns-in-Ok-clause-place g c = record { page = c.root.ensures.page ∙ c.in-Ok.ensures.root; keys = c.root.ensures.keys }

pub returns-in-Ok-clause-represents_all : goal.returns-in-Ok-clause-represents_all
returns-in-Ok-clause-represents_all g c start shown s all level shows are t =
    let reported = c.in-Ok.ensures.opened start shown shows s all level are t in
    subst (λ (r : ℕ). TreeRepresents s all r c.root.result.level) (sym (c.root.ensures.page ∙ c.in-Ok.ensures.root))
    (subst (λ (l : ℕ). TreeRepresents s all c.args.root l) (sym (c.root.ensures.level ∙ reported)) t)

pub returns-in-Err-clause-finds : goal.returns-in-Err-clause-finds
returns-in-Err-clause-finds g c start shown s all level shows are t =
    let honest = c.in-Err.ensures.honest start shown shows s all level are t in
    root_finds c.in-Err.refusal c.of_root.result honest c.of_root.ensures.bad c.of_root.ensures.damaged

pub returns-in-Err-clause-refused : goal.returns-in-Err-clause-refused
returns-in-Err-clause-refused g c = c.of_root.ensures.refused _ c.in-Err.ensures.refused

pub returns-in-Err-clause-bad : goal.returns-in-Err-clause-bad
returns-in-Err-clause-bad g c start shown shows page is =
    let same : c.of_root.result ≡ checks.BadNode page = cc in
    c.in-Err.ensures.bad start shown shows page (ap (λ (e : TreeError). Err e) (c.of_root.ensures.bad page same))

pub returns-in-Ok-clause-device : goal.returns-in-Ok-clause-device
returns-in-Ok-clause-device g c = keeps_reported _ _ _ _ _ _ (λ reported. absurd (cc)) (λ failed. absurd (cc)) c.open.ensures.reads.device

pub returns-in-Err-clause-device : goal.returns-in-Err-clause-device
returns-in-Err-clause-device g c =
    keeps_reported _ _ _ _ _ _
    (λ reported. (let is : c.of_root.result ≡ checks.Fault = cc in c.in-Err.is ∙ ap Err (c.of_root.ensures.fault.0 is)))
    (λ failed. (let is : c.in-Err.refusal ≡ trees.Pages pages.Fault = cc in ap Err (c.of_root.ensures.fault.1 is)))
    c.open.ensures.reads.device
