use Rattle.std.proofs.Common.{rules, ◌≡◌, ◌∙◌, Bool, Ok, Err, IfErr, ap, refl, sym, subst}
use Rattle.interleaving_core.specs.Headline.{IsAnswered}
use Rattle.interleaving_core.specs.declared.query.Query.{Query}
use Rattle.interleaving_core.specs.declared.query.Answer.TheVariants.{Rows, Events}
use Rattle.route_history.specs.Blame.{BlamesNone as NodeBlamesNone}
use Rattle.tsb_walk.specs.AllVersions.{VersionsRefusal}
use Rattle.disk_archive.specs.declared.ask_error.AskError.TheVariants as refusals
use Rattle.disk_archive.specs.inner.Asking.{ask_of_node, BlamesNone, LookRefusal}
use Rattle.disk_archive.proofs.Asking.{tree_read, ask_blames, ask_refused, if_err}
use Rattle.disk_archive.proofs.Faults.{done_not_reported, keeps_reported, one_reported}
use Rattle.disk_archive.proofs.Failing.{reports_first}
use Rattle.disk_archive.proofs.ReadFaults.{ask_either, read_done, read_refused, read_then}
use Rattle.disk_archive.proofs.answering.answer_by.Goals as goal

pub returns-in_err-root-clause-blames : goal.returns-in_err-root-clause-blames
returns-in_err-root-clause-blames g c ps t =
    let b = c.root_of.ensures.blames t.start t.shown t.located.store t.versions t.located.level t.shows t.located.represents_node t.located.has.represents_all in
    search (rules, b)

pub returns-in_ok-answer-in-Rows-clause-answer : goal.returns-in_ok-answer-in-Rows-clause-answer
returns-in_ok-answer-in-Rows-clause-answer g c ps t =
    let represents_all = c.in_ok-root.ensures.represents_all t.start t.shown t.located.store t.versions t.located.level t.shows t.located.represents_node t.located.has.represents_all in
    let read = tree_read g.P.Pages c.args.pages.now c.root_of.new.pages g.O.OnceDisk c.args.reader.now c.args.seen.now c.args.head.now.root c.args.head.now.fresh c.args.head.now.block c.args.burnt c.requires.burnt ps t c.in_ok-root.root c.root_of.ensures.reads represents_all in
    let reported = c.in_ok-answer-in-Rows.ensures.answer t.versions ps read (c.versions_report.ensures.rows ps t.versions c.in-Rows.question.moment t.timely t.kept) in
    subst (λ (q : Query). IsAnswered ps q (Rows c.in_ok-answer-in-Rows.answer)) (sym c.in-Rows.is) reported

pub returns-in_err-answer-in-Rows-clause-blames : goal.returns-in_err-answer-in-Rows-clause-blames
returns-in_err-answer-in-Rows-clause-blames g c ps t =
    let represents_all = c.in_ok-root.ensures.represents_all t.start t.shown t.located.store t.versions t.located.level t.shows t.located.represents_node t.located.has.represents_all in
    let read = tree_read g.P.Pages c.args.pages.now c.root_of.new.pages g.O.OnceDisk c.args.reader.now c.args.seen.now c.args.head.now.root c.args.head.now.fresh c.args.head.now.block c.args.burnt c.requires.burnt ps t c.in_ok-root.root c.root_of.ensures.reads represents_all in
    let b : IfErr c.rows.result (λ e. BlamesNone (ask_of_node e)) = if_err ask_of_node NodeBlamesNone BlamesNone c.rows.result ask_blames (c.rows.ensures.blames t.versions read) in
    search (rules, b)

pub returns-in_err-answer-in-Rows-clause-refused : goal.returns-in_err-answer-in-Rows-clause-refused
returns-in_err-answer-in-Rows-clause-refused g c =
    let r = subst (λ (d : Bool). IfErr c.rows.result (VersionsRefusal d)) c.root_of.ensures.down c.rows.ensures.refused in
    let b : IfErr c.rows.result (λ e. LookRefusal (g.P.Pages.down c.args.pages.now) (ask_of_node e)) = if_err ask_of_node (VersionsRefusal (g.P.Pages.down c.args.pages.now)) (LookRefusal (g.P.Pages.down c.args.pages.now)) c.rows.result (ask_refused (g.P.Pages.down c.args.pages.now)) r in
    search (rules, b)

pub returns-in_ok-answer-in-Events-clause-answer : goal.returns-in_ok-answer-in-Events-clause-answer
returns-in_ok-answer-in-Events-clause-answer g c ps t =
    let represents_all = c.in_ok-root.ensures.represents_all t.start t.shown t.located.store t.versions t.located.level t.shows t.located.represents_node t.located.has.represents_all in
    let read = tree_read g.P.Pages c.args.pages.now c.root_of.new.pages g.O.OnceDisk c.args.reader.now c.args.seen.now c.args.head.now.root c.args.head.now.fresh c.args.head.now.block c.args.burnt c.requires.burnt ps t c.in_ok-root.root c.root_of.ensures.reads represents_all in
    let reported = c.in_ok-answer-in-Events.ensures.answer t.versions ps read (c.versions_report.ensures.events ps t.versions c.in-Events.question t.timely t.kept c.encoded_len-len.ensures.valid c.address-address.ensures.valid) in
    subst (λ (q : Query). IsAnswered ps q (Events c.in_ok-answer-in-Events.answer)) (sym c.in-Events.is) reported

pub returns-in_err-answer-in-Events-clause-blames : goal.returns-in_err-answer-in-Events-clause-blames
returns-in_err-answer-in-Events-clause-blames g c ps t =
    let represents_all = c.in_ok-root.ensures.represents_all t.start t.shown t.located.store t.versions t.located.level t.shows t.located.represents_node t.located.has.represents_all in
    let read = tree_read g.P.Pages c.args.pages.now c.root_of.new.pages g.O.OnceDisk c.args.reader.now c.args.seen.now c.args.head.now.root c.args.head.now.fresh c.args.head.now.block c.args.burnt c.requires.burnt ps t c.in_ok-root.root c.root_of.ensures.reads represents_all in
    let b : IfErr c.events.result (λ e. BlamesNone (ask_of_node e)) = if_err ask_of_node NodeBlamesNone BlamesNone c.events.result ask_blames (c.events.ensures.blames t.versions read) in
    search (rules, b)

pub returns-in_err-answer-in-Events-clause-refused : goal.returns-in_err-answer-in-Events-clause-refused
returns-in_err-answer-in-Events-clause-refused g c =
    let r = subst (λ (d : Bool). IfErr c.events.result (VersionsRefusal d)) c.root_of.ensures.down c.events.ensures.refused in
    let b : IfErr c.events.result (λ e. LookRefusal (g.P.Pages.down c.args.pages.now) (ask_of_node e)) = if_err ask_of_node (VersionsRefusal (g.P.Pages.down c.args.pages.now)) (LookRefusal (g.P.Pages.down c.args.pages.now)) c.events.result (ask_refused (g.P.Pages.down c.args.pages.now)) r in
    search (rules, b)

pub returns-in_ok-answer-in-Rows-clause-keeps : goal.returns-in_ok-answer-in-Rows-clause-keeps
returns-in_ok-answer-in-Rows-clause-keeps g c ps t =
    let represents_all = c.in_ok-root.ensures.represents_all t.start t.shown t.located.store t.versions t.located.level t.shows t.located.represents_node t.located.has.represents_all in
    let read = tree_read g.P.Pages c.args.pages.now c.root_of.new.pages g.O.OnceDisk c.args.reader.now c.args.seen.now c.args.head.now.root c.args.head.now.fresh c.args.head.now.block c.args.burnt c.requires.burnt ps t c.in_ok-root.root c.root_of.ensures.reads represents_all in
    (c.rows.ensures.stays t.versions read).well

pub returns-in_err-answer-in-Rows-clause-keeps : goal.returns-in_err-answer-in-Rows-clause-keeps
returns-in_err-answer-in-Rows-clause-keeps g c ps t =
    let represents_all = c.in_ok-root.ensures.represents_all t.start t.shown t.located.store t.versions t.located.level t.shows t.located.represents_node t.located.has.represents_all in
    let read = tree_read g.P.Pages c.args.pages.now c.root_of.new.pages g.O.OnceDisk c.args.reader.now c.args.seen.now c.args.head.now.root c.args.head.now.fresh c.args.head.now.block c.args.burnt c.requires.burnt ps t c.in_ok-root.root c.root_of.ensures.reads represents_all in
    (c.rows.ensures.stays t.versions read).well

pub returns-in_ok-answer-in-Events-clause-keeps : goal.returns-in_ok-answer-in-Events-clause-keeps
returns-in_ok-answer-in-Events-clause-keeps g c ps t =
    let represents_all = c.in_ok-root.ensures.represents_all t.start t.shown t.located.store t.versions t.located.level t.shows t.located.represents_node t.located.has.represents_all in
    let read = tree_read g.P.Pages c.args.pages.now c.root_of.new.pages g.O.OnceDisk c.args.reader.now c.args.seen.now c.args.head.now.root c.args.head.now.fresh c.args.head.now.block c.args.burnt c.requires.burnt ps t c.in_ok-root.root c.root_of.ensures.reads represents_all in
    (c.events.ensures.stays t.versions read).well

pub returns-in_err-answer-in-Events-clause-keeps : goal.returns-in_err-answer-in-Events-clause-keeps
returns-in_err-answer-in-Events-clause-keeps g c ps t =
    let represents_all = c.in_ok-root.ensures.represents_all t.start t.shown t.located.store t.versions t.located.level t.shows t.located.represents_node t.located.has.represents_all in
    let read = tree_read g.P.Pages c.args.pages.now c.root_of.new.pages g.O.OnceDisk c.args.reader.now c.args.seen.now c.args.head.now.root c.args.head.now.fresh c.args.head.now.block c.args.burnt c.requires.burnt ps t c.in_ok-root.root c.root_of.ensures.reads represents_all in
    (c.events.ensures.stays t.versions read).well

pub returns-in_err-root-clause-keeps : goal.returns-in_err-root-clause-keeps
returns-in_err-root-clause-keeps g c ps t = t.well

-- ---- failures

pub returns-in_err-root-clause-failed : goal.returns-in_err-root-clause-failed
returns-in_err-root-clause-failed g c =
    let e = c.in_err-root.field-0.0 in
    let r : c.root_of.result ≡ Err e = search rules in
    let d : c.from_residual.result ≡ Err e = search rules in
    reports_first _ _ _ _ _ _ (keeps_reported _ _ _ _ _ _
    (λ reported. r ∙ ap Err (one_reported c.from_residual.result e refusals.Fault d reported))
    (λ failed. d ∙ ap Err (one_reported c.root_of.result e refusals.Fault r failed))
    c.root_of.ensures.device)

pub returns-in_ok-answer-in-Rows-clause-failed : goal.returns-in_ok-answer-in-Rows-clause-failed
returns-in_ok-answer-in-Rows-clause-failed g c =
    let root : c.root_of.result ≡ Ok c.in_ok-root.root = search rules in
    let first = c.root_of.ensures.device.quiet (done_not_reported c.root_of.result c.in_ok-root.root refusals.Fault root) in
    let r : c.rows.result ≡ Ok c.in_ok-answer-in-Rows.answer = search rules in
    read_then _ _ _ _ _ _ first (read_done c.rows.result c.in_ok-answer-in-Rows.answer _ _ _ _ _ _ _ r (done_not_reported _ _ refusals.Fault refl) c.rows.ensures.same.device c.rows.ensures.quiet c.rows.ensures.counted)

pub returns-in_err-answer-in-Rows-clause-failed : goal.returns-in_err-answer-in-Rows-clause-failed
returns-in_err-answer-in-Rows-clause-failed g c =
    let root : c.root_of.result ≡ Ok c.in_ok-root.root = search rules in
    let first = c.root_of.ensures.device.quiet (done_not_reported c.root_of.result c.in_ok-root.root refusals.Fault root) in
    let e = c.in_err-answer-in-Rows.field-0.0 in
    let r : c.rows.result ≡ Err e = search rules in
    let d : c.from_residual-in_err-answer-in-Rows.result ≡ Err (ask_of_node e) = search rules in
    read_then _ _ _ _ _ _ first (read_refused c.rows.result c.from_residual-in_err-answer-in-Rows.result ask_of_node refusals.Fault e _ _ _ _ _ _ ask_either refl refl r d c.rows.ensures.same.device c.rows.ensures.quiet c.rows.ensures.counted)

pub returns-in_ok-answer-in-Events-clause-failed : goal.returns-in_ok-answer-in-Events-clause-failed
returns-in_ok-answer-in-Events-clause-failed g c =
    let root : c.root_of.result ≡ Ok c.in_ok-root.root = search rules in
    let first = c.root_of.ensures.device.quiet (done_not_reported c.root_of.result c.in_ok-root.root refusals.Fault root) in
    let r : c.events.result ≡ Ok c.in_ok-answer-in-Events.answer = search rules in
    read_then _ _ _ _ _ _ first (read_done c.events.result c.in_ok-answer-in-Events.answer _ _ _ _ _ _ _ r (done_not_reported _ _ refusals.Fault refl) c.events.ensures.same.device c.events.ensures.quiet c.events.ensures.counted)

pub returns-in_err-answer-in-Events-clause-failed : goal.returns-in_err-answer-in-Events-clause-failed
returns-in_err-answer-in-Events-clause-failed g c =
    let root : c.root_of.result ≡ Ok c.in_ok-root.root = search rules in
    let first = c.root_of.ensures.device.quiet (done_not_reported c.root_of.result c.in_ok-root.root refusals.Fault root) in
    let e = c.in_err-answer-in-Events.field-0.0 in
    let r : c.events.result ≡ Err e = search rules in
    let d : c.from_residual-in_err-answer-in-Events.result ≡ Err (ask_of_node e) = search rules in
    read_then _ _ _ _ _ _ first (read_refused c.events.result c.from_residual-in_err-answer-in-Events.result ask_of_node refusals.Fault e _ _ _ _ _ _ ask_either refl refl r d c.events.ensures.same.device c.events.ensures.quiet c.events.ensures.counted)
