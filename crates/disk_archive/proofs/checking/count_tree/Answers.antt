use Rattle.std.proofs.Common.{rules, ◌≡◌, ◌<◌, ◌^◌, ℕ, [], ◌∷◌, inl, inr, refl, sym, ◌∙◌, ap, subst, Ok, Err, IfErr, length}
use Rattle.once_store.specs.Readers.{reader_disk}
use Rattle.archive_head.specs.Head.{Contents}
use Rattle.route_history.specs.Kept.{timed}
use Rattle.version_model.specs.Pages.{TreeRepresents}
use Rattle.tsb_tree.specs.Opened.{IsShownRoot}
use Rattle.disk_archive.specs.declared.check_error.CheckError.TheVariants as checks
use Rattle.tsb_check.specs.declared.in_use.InUse.{InUse}
use Rattle.tsb_check.specs.InUse.{AreInUse, IsUnusedUnder, IsWithin}
use Rattle.disk_archive.specs.Checks.{IsBadPage, IsRootPlace, no_root, bad_under, unused_under, other_number}
use Rattle.disk_archive.specs.inner.Checking.{check_of_node}
use Rattle.disk_archive.proofs.Asking.{at_root}
use Rattle.disk_archive.proofs.Counts.{as_many, finds_none, known_of, passed, passed_node, reported_is, within_of}
use Rattle.disk_archive.proofs.Faults.{done_not_reported, keeps_reported, one_reported}
use Rattle.disk_archive.proofs.Failing.{reports_first}
use Rattle.disk_archive.proofs.ReadFaults.{check_either, read_done, read_refused, read_then}
use Rattle.disk_archive.proofs.checking.count_tree.Goals as goal

pub returns-in_err-root-clause-finds : goal.returns-in_err-root-clause-finds
returns-in_err-root-clause-finds g c ps t number few =
    let root = ap (λ (x : Contents). x.root) c.head.view_is in
    let represents_all = subst (λ (r : ℕ). TreeRepresents t.located.store t.versions r t.located.level) (sym root) t.located.has.represents_all in
    let f = c.root_of.ensures.finds t.start t.shown t.located.store t.versions t.located.level t.shows t.located.represents_node represents_all in
    search (rules, f)

pub returns-in_err-count-clause-finds : goal.returns-in_err-count-clause-finds
returns-in_err-count-clause-finds g c ps t number few =
    let root = c.in_ok-root.root in
    let top = ap (λ (x : Contents). x.root) c.head.view_is in
    let tree = c.in_ok-root.ensures.represents_all t.start t.shown t.located.store t.versions t.located.level t.shows t.located.represents_node (subst (λ (r : ℕ). TreeRepresents t.located.store t.versions r t.located.level) (sym top) t.located.has.represents_all) in
    let shows = c.root_of.ensures.reads t.start t.shown t.shows in
    let represents_all = at_root t.shown t.located.store t.versions root.page root.level root refl refl c.in_ok-root.ensures.place.keys t.located.represents_node tree in
    let known = known_of g.P.Pages c.args.pages.now g.O.OnceDisk c.args.reader.now c.args.seen.now c.args.head.now.root c.args.head.now.fresh c.args.head.now.block ps t in
    let within = subst (IsWithin t.located.store) (sym c.in_use_by-in_use.ensures) (within_of g.P.Pages c.args.pages.now g.O.OnceDisk c.args.reader.now c.args.seen.now c.args.head.now.root c.args.head.now.fresh c.args.head.now.block c.args.burnt c.requires.burnt ps t) in
    let f = finds_none c.check.result (λ page e. c.check.ensures.blames t.start t.shown shows t.located.store t.versions represents_all within page e) (λ block e. c.check.ensures.never t.start t.shown shows t.located.store t.versions represents_all t.well known block e) in
    search (rules, f)

pub returns-in_err-root-clause-bad : goal.returns-in_err-root-clause-bad
returns-in_err-root-clause-bad g c start shown shows well page is =
    let reported : IfErr c.from_residual.result (λ e. e ≡ c.in_err-root.field-0.0) = search rules in
    let was = passed c.from_residual.result c.root_of.result c.in_err-root.field-0.0 page reported c.in_err-root.was is in
    let top = ap (λ (x : Contents). x.root) c.head.view_is in
    let bad = c.root_of.ensures.bad start shown shows page was in
    let known = g.O.OnceDisk.known c.args.seen.now in
    let blocks = g.O.OnceDisk.block_count (reader_disk c.args.reader.now) in
    let in_use : InUse = record { recorded_on = 0; pages = c.args.head.now.fresh; blocks = c.args.head.now.block; burnt = c.args.burnt } in
    subst (λ (p : ℕ). IsBadPage shown known blocks c.args.head.now.root c.args.head.now.applied in_use p) (sym (bad.0 ∙ top))
    (no_root (subst (λ (r : ℕ). (level : ℕ) → IsShownRoot shown r level → ⊥) top bad.1))

pub returns-in_err-count-clause-bad : goal.returns-in_err-count-clause-bad
returns-in_err-count-clause-bad g c start shown shows well page is =
    let reported : IfErr c.from_residual-in_err-count.result (λ e. e ≡ check_of_node c.in_err-count.field-0.0) = search rules in
    let was = passed_node c.from_residual-in_err-count.result c.check.result c.in_err-count.field-0.0 page reported c.in_err-count.was is in
    let top = ap (λ (x : Contents). x.root) c.head.view_is in
    let place = subst (λ (r : ℕ). IsRootPlace r c.in_ok-root.root) top c.in_ok-root.ensures.place in
    elim (c.check.ensures.bad start shown (c.root_of.ensures.reads start shown shows) page was) [
      | inl bad ↦ bad_under c.in_ok-root.root place page bad
      | inr unused ↦ unused_under c.in_ok-root.root place page (subst (λ (u : InUse). IsUnusedUnder shown u (c.in_ok-root.root ∷ []) page) c.in_use_by-in_use.ensures unused)
    ]

pub returns-then-count-head-clause-finds : goal.returns-then-count-head-clause-finds
returns-then-count-head-clause-finds g c ps t number few =
    let top = ap (λ (x : Contents). x.root) c.head.view_is in
    let tree = c.in_ok-root.ensures.represents_all t.start t.shown t.located.store t.versions t.located.level t.shows t.located.represents_node (subst (λ (r : ℕ). TreeRepresents t.located.store t.versions r t.located.level) (sym top) t.located.has.represents_all) in
    let shows = c.root_of.ensures.reads t.start t.shown t.shows in
    let known = known_of g.P.Pages c.args.pages.now g.O.OnceDisk c.args.reader.now c.args.seen.now c.args.head.now.root c.args.head.now.fresh c.args.head.now.block ps t in
    let counted = c.in_ok-count.ensures.counted t.start t.shown shows t.located.store t.versions t.located.represents_node c.in_ok-root.ensures.place.keys tree t.well known in
    let many = as_many 0 (timed ps) t.versions t.kept in
    let is = reported_is c.in_ok-count.count (length t.versions) (length (timed ps)) counted many (subst (λ n. n < 2 ^ 64) number few) in
    let applied = ap (λ (x : Contents). x.applied) c.head.view_is in
    c.if-count-head.true (is ∙ sym (applied ∙ number))

pub returns-then-count-head-clause-bad : goal.returns-then-count-head-clause-bad
returns-then-count-head-clause-bad g c start shown shows well page is =
    let top = ap (λ (x : Contents). x.root) c.head.view_is in
    let applied = ap (λ (x : Contents). x.applied) c.head.view_is in
    let place = subst (λ (r : ℕ). IsRootPlace r c.in_ok-root.root) top c.in_ok-root.ensures.place in
    let known = g.O.OnceDisk.known c.args.seen.now in
    let blocks = g.O.OnceDisk.block_count (reader_disk c.args.reader.now) in
    let read = c.in_ok-count.ensures.checked start shown (c.root_of.ensures.reads start shown shows) well in
    let used = subst (λ (u : InUse). AreInUse shown u (c.in_ok-root.root ∷ [])) c.in_use_by-in_use.ensures (c.in_ok-count.ensures.used start shown (c.root_of.ensures.reads start shown shows)) in
    let here : 0 ≡ page = cc in
    let in_use : InUse = record { recorded_on = 0; pages = c.args.head.now.fresh; blocks = c.args.head.now.block; burnt = c.args.burnt } in
    subst (λ (p : ℕ). IsBadPage shown known blocks c.args.head.now.root c.args.head.now.applied in_use p) here
    (other_number c.in_ok-count.count (record { place = c.in_ok-root.root; top = place; read = read; used = used })
    (λ e. c.if-count-head.true (e ∙ sym applied)))

pub returns-clause-read : goal.returns-clause-read
returns-clause-read g c start shown shows well =
    let top = ap (λ (x : Contents). x.root) c.head.view_is in
    record {
      place = c.in_ok-root.root;
      top = subst (λ (r : ℕ). IsRootPlace r c.in_ok-root.root) top c.in_ok-root.ensures.place;
      read = c.in_ok-count.ensures.checked start shown (c.root_of.ensures.reads start shown shows) well;
      used = subst (λ (u : InUse). AreInUse shown u (c.in_ok-root.root ∷ [])) c.in_use_by-in_use.ensures (c.in_ok-count.ensures.used start shown (c.root_of.ensures.reads start shown shows));
    }

-- ---- failures

pub returns-in_err-root-clause-failed : goal.returns-in_err-root-clause-failed
returns-in_err-root-clause-failed g c =
    let e = c.in_err-root.field-0.0 in
    let r : c.root_of.result ≡ Err e = search rules in
    let d : c.from_residual.result ≡ Err e = search rules in
    reports_first _ _ _ _ _ _ (keeps_reported _ _ _ _ _ _
    (λ reported. r ∙ ap Err (one_reported c.from_residual.result e checks.Fault d reported))
    (λ failed. d ∙ ap Err (one_reported c.root_of.result e checks.Fault r failed))
    c.root_of.ensures.device)

pub returns-in_err-count-clause-failed : goal.returns-in_err-count-clause-failed
returns-in_err-count-clause-failed g c =
    let root : c.root_of.result ≡ Ok c.in_ok-root.root = search rules in
    let first = c.root_of.ensures.device.quiet (done_not_reported c.root_of.result c.in_ok-root.root checks.Fault root) in
    let e = c.in_err-count.field-0.0 in
    let r : c.check.result ≡ Err e = search rules in
    let d : c.from_residual-in_err-count.result ≡ Err (check_of_node e) = search rules in
    read_then _ _ _ _ _ _ first (read_refused c.check.result c.from_residual-in_err-count.result check_of_node checks.Fault e _ _ _ _ _ _ check_either refl refl r d c.check.ensures.pages.device c.check.ensures.quiet c.check.ensures.once)

pub returns-then-count-head-clause-failed : goal.returns-then-count-head-clause-failed
returns-then-count-head-clause-failed g c =
    let root : c.root_of.result ≡ Ok c.in_ok-root.root = search rules in
    let first = c.root_of.ensures.device.quiet (done_not_reported c.root_of.result c.in_ok-root.root checks.Fault root) in
    let r : c.check.result ≡ Ok c.in_ok-count.count = search rules in
    read_then _ _ _ _ _ _ first (read_done c.check.result c.in_ok-count.count _ _ _ _ _ _ _ r (λ reported. cc) c.check.ensures.pages.device c.check.ensures.quiet c.check.ensures.once)

pub returns-clause-failed : goal.returns-clause-failed
returns-clause-failed g c =
    let root : c.root_of.result ≡ Ok c.in_ok-root.root = search rules in
    let first = c.root_of.ensures.device.quiet (done_not_reported c.root_of.result c.in_ok-root.root checks.Fault root) in
    let r : c.check.result ≡ Ok c.in_ok-count.count = search rules in
    read_then _ _ _ _ _ _ first (read_done c.check.result c.in_ok-count.count _ _ _ _ _ _ _ r (done_not_reported _ _ checks.Fault refl) c.check.ensures.pages.device c.check.ensures.quiet c.check.ensures.once)
