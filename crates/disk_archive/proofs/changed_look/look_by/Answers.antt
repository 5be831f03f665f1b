use Rattle.std.proofs.Common.{rules, ◌≡◌, ◌∙◌, Bool, Ok, Err, IfErr, ap, refl, subst}
use Rattle.route_history.specs.Blame.{BlamesNone as NodeBlamesNone}
use Rattle.tsb_walk.specs.AllVersions.{VersionsRefusal}
use Rattle.disk_archive.specs.declared.ask_error.AskError.TheVariants as refusals
use Rattle.disk_archive.specs.inner.Asking.{ask_of_node, BlamesNone, LookRefusal}
use Rattle.disk_archive.proofs.Asking.{tree_read, ask_blames, ask_refused, if_err}
use Rattle.disk_archive.proofs.Faults.{done_not_reported, keeps_reported, one_reported}
use Rattle.disk_archive.proofs.Failing.{reports_first}
use Rattle.disk_archive.proofs.ReadFaults.{ask_either, read_done, read_refused, read_then}
use Rattle.disk_archive.proofs.changed_look.look_by.Goals as goal

pub returns-in_err-root-clause-blames : goal.returns-in_err-root-clause-blames
returns-in_err-root-clause-blames g c ps t =
    let b = c.root_of.ensures.blames t.start t.shown t.located.store t.versions t.located.level t.shows t.located.represents_node t.located.has.represents_all in
    search (rules, b)

pub returns-clause-changed : goal.returns-clause-changed
returns-clause-changed g c ps t has =
    let represents_all = c.in_ok-root.ensures.represents_all t.start t.shown t.located.store t.versions t.located.level t.shows t.located.represents_node t.located.has.represents_all in
    let read = tree_read g.P.Pages c.args.pages.now c.root_of.new.pages g.O.OnceDisk c.args.reader.now c.args.seen.now c.args.head.now.root c.args.head.now.fresh c.args.head.now.block c.args.burnt c.requires.burnt ps t c.in_ok-root.root c.root_of.ensures.reads represents_all in
    c.in_ok-found.ensures.changed t.versions ps read (c.versions_report.ensures.changed ps t.versions c.args.cursor.now.question t.kept) has

pub returns-clause-answer : goal.returns-clause-answer
returns-clause-answer g c ps t has =
    let represents_all = c.in_ok-root.ensures.represents_all t.start t.shown t.located.store t.versions t.located.level t.shows t.located.represents_node t.located.has.represents_all in
    let read = tree_read g.P.Pages c.args.pages.now c.root_of.new.pages g.O.OnceDisk c.args.reader.now c.args.seen.now c.args.head.now.root c.args.head.now.fresh c.args.head.now.block c.args.burnt c.requires.burnt ps t c.in_ok-root.root c.root_of.ensures.reads represents_all in
    c.in_ok-found.ensures.answer t.versions ps read (c.versions_report.ensures.changed ps t.versions c.args.cursor.now.question t.kept) has

pub returns-in_err-found-clause-blames : goal.returns-in_err-found-clause-blames
returns-in_err-found-clause-blames g c ps t =
    let represents_all = c.in_ok-root.ensures.represents_all t.start t.shown t.located.store t.versions t.located.level t.shows t.located.represents_node t.located.has.represents_all in
    let read = tree_read g.P.Pages c.args.pages.now c.root_of.new.pages g.O.OnceDisk c.args.reader.now c.args.seen.now c.args.head.now.root c.args.head.now.fresh c.args.head.now.block c.args.burnt c.requires.burnt ps t c.in_ok-root.root c.root_of.ensures.reads represents_all in
    let b : IfErr c.changed_look.result (λ e. BlamesNone (ask_of_node e)) = if_err ask_of_node NodeBlamesNone BlamesNone c.changed_look.result ask_blames (c.changed_look.ensures.blames t.versions read) in
    search (rules, b)

pub returns-in_err-found-clause-refused : goal.returns-in_err-found-clause-refused
returns-in_err-found-clause-refused g c =
    let r = subst (λ (d : Bool). IfErr c.changed_look.result (VersionsRefusal d)) c.root_of.ensures.down c.changed_look.ensures.refused in
    let b : IfErr c.changed_look.result (λ e. LookRefusal (g.P.Pages.down c.args.pages.now) (ask_of_node e)) = if_err ask_of_node (VersionsRefusal (g.P.Pages.down c.args.pages.now)) (LookRefusal (g.P.Pages.down c.args.pages.now)) c.changed_look.result (ask_refused (g.P.Pages.down c.args.pages.now)) r in
    search (rules, b)

pub returns-clause-keeps : goal.returns-clause-keeps
returns-clause-keeps g c ps t =
    let represents_all = c.in_ok-root.ensures.represents_all t.start t.shown t.located.store t.versions t.located.level t.shows t.located.represents_node t.located.has.represents_all in
    let read = tree_read g.P.Pages c.args.pages.now c.root_of.new.pages g.O.OnceDisk c.args.reader.now c.args.seen.now c.args.head.now.root c.args.head.now.fresh c.args.head.now.block c.args.burnt c.requires.burnt ps t c.in_ok-root.root c.root_of.ensures.reads represents_all in
    (c.changed_look.ensures.stays t.versions read).well

pub returns-in_err-found-clause-keeps : goal.returns-in_err-found-clause-keeps
returns-in_err-found-clause-keeps g c ps t =
    let represents_all = c.in_ok-root.ensures.represents_all t.start t.shown t.located.store t.versions t.located.level t.shows t.located.represents_node t.located.has.represents_all in
    let read = tree_read g.P.Pages c.args.pages.now c.root_of.new.pages g.O.OnceDisk c.args.reader.now c.args.seen.now c.args.head.now.root c.args.head.now.fresh c.args.head.now.block c.args.burnt c.requires.burnt ps t c.in_ok-root.root c.root_of.ensures.reads represents_all in
    (c.changed_look.ensures.stays t.versions read).well

pub returns-in_err-root-clause-keeps : goal.returns-in_err-root-clause-keeps
returns-in_err-root-clause-keeps g c ps t = t.well

-- ---- failures

pub returns-in_err-root-clause-failed : goal.returns-in_err-root-clause-failed
returns-in_err-root-clause-failed g c =
    let e = c.in_err-root.field-0.0 in
    let r : c.root_of.result ≡ Err e = search rules in
    let d : c.from_residual.result ≡ Err e = search rules in
    reports_first _ _ _ _ _ _ (keeps_reported _ _ _ _ _ _
    (λ reported. r ∙ ap Err (one_reported c.from_residual.result e refusals.Fault d reported))
    (λ failed. d ∙ ap Err (one_reported c.root_of.result e refusals.Fault r failed))
    c.root_of.ensures.device)

pub returns-clause-failed : goal.returns-clause-failed
returns-clause-failed g c =
    let root : c.root_of.result ≡ Ok c.in_ok-root.root = search rules in
    let first = c.root_of.ensures.device.quiet (done_not_reported c.root_of.result c.in_ok-root.root refusals.Fault root) in
    let r : c.changed_look.result ≡ Ok c.in_ok-found.found = search rules in
    read_then _ _ _ _ _ _ first (read_done c.changed_look.result c.in_ok-found.found _ _ _ _ _ _ _ r (done_not_reported _ _ refusals.Fault refl) c.changed_look.ensures.same.device c.changed_look.ensures.quiet c.changed_look.ensures.counted)

pub returns-in_err-found-clause-failed : goal.returns-in_err-found-clause-failed
returns-in_err-found-clause-failed g c =
    let root : c.root_of.result ≡ Ok c.in_ok-root.root = search rules in
    let first = c.root_of.ensures.device.quiet (done_not_reported c.root_of.result c.in_ok-root.root refusals.Fault root) in
    let e = c.in_err-found.field-0.0 in
    let r : c.changed_look.result ≡ Err e = search rules in
    let d : c.from_residual-in_err-found.result ≡ Err (ask_of_node e) = search rules in
    read_then _ _ _ _ _ _ first (read_refused c.changed_look.result c.from_residual-in_err-found.result ask_of_node refusals.Fault e _ _ _ _ _ _ ask_either refl refl r d c.changed_look.ensures.same.device c.changed_look.ensures.quiet c.changed_look.ensures.counted)
