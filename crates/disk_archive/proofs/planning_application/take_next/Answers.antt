use Rattle.std.proofs.Common.{rules, [], ◌∷◌, inr, sym, subst}
use Rattle.disk_models.specs.Once.{settled_in}
use Rattle.once_store.specs.Shelves.{disk_of, pen_of}
use Rattle.archive_head.specs.Head.{Contents}
use Rattle.route_meaning.specs.Merged.{placed}
use Rattle.version_model.specs.Entries.{version_of}
use Rattle.version_model.specs.Versions.{Version}
use Rattle.route_history.specs.Kept.{AreVersions}
use Rattle.archive_pages.specs.Changes.{next_change}
use Rattle.sequencer.proofs.api.Calls.{if_ok}
use Rattle.disk_archive.specs.inner.Applications.{TakesNext}
use Rattle.disk_archive.proofs.Failing.{reports_none}
use Rattle.disk_archive.proofs.Changing.{change_as}
use Rattle.disk_archive.proofs.Lacking.{lacks_as, none_versions}
use Rattle.disk_archive.proofs.Outcomes.{if_err, if_none_at, if_some_at, ok_then}
use Rattle.disk_archive.proofs.Stepping.{takes_none, takes_one}
use Rattle.disk_archive.proofs.planning_application.take_next.Goals as goal

pub returns-in-None-clause-takes : goal.returns-in-None-clause-takes
returns-in-None-clause-takes g c start shown collector versions shows honest settings t =
    let h = c.args.head.now in
    let count = g.O.OnceDisk.block_count (disk_of c.args.shelf.now) in
    let settled = settled_in (g.O.OnceDisk.model (pen_of c.args.shelf.now)) in
    let k = takes_none count settings settled (g.P.Pages.shows c.args.pages.now start) h (placed collector c.args.admission.now) versions shown (if_none_at c.in_ok-next.next _ c.in-None.is c.in_ok-next.ensures.none collector) shows t in
    subst (λ (x : Contents). TakesNext count settings settled (g.P.Pages.shows c.args.pages.now start) h (placed collector c.args.admission.now) x.root x.fresh x.block versions shown) (sym c.head.view_is) k

pub returns-in-Some-clause-takes : goal.returns-in-Some-clause-takes
returns-in-Some-clause-takes g c start shown collector versions shows honest settings t =
    if_ok _ _ c.take_version.result
    (λ place took. takes_one _ settings _ _ c.args.head.now (placed collector c.args.admission.now) place.root place.fresh place.block versions (version_of c.in-Some.entry) shown (if_some_at c.in_ok-next.next c.in-Some.entry _ c.in-Some.is c.in_ok-next.ensures.some collector) took)
    (c.take_version.ensures.takes start shown _ versions shows honest t)

-- ---- what there is too little of

pub returns-in-Some-clause-lacks : goal.returns-in-Some-clause-lacks
returns-in-Some-clause-lacks g c start shown low collector versions shows honest t =
    let is = if_some_at c.in_ok-next.next c.in-Some.entry _ c.in-Some.is c.in_ok-next.ensures.some collector in
    if_err c.take_version.result _ _
    (λ e. change_as _ _ e (λ refusal. lacks_as _ _ shown _ _ refusal (λ v same. subst (λ (x : Version). AreVersions c.args.head.now.applied (next_change c.args.head.now.begun (placed collector c.args.admission.now)) (x ∷ [])) (sym same) is)))
    (c.take_version.ensures.lacks start shown low versions shows honest t)

-- ---- what there is enough of

pub returns-in-Some-clause-room : goal.returns-in-Some-clause-room
returns-in-Some-clause-room g c start shown low collector versions shows honest t =
    let is = if_some_at c.in_ok-next.next c.in-Some.entry _ c.in-Some.is c.in_ok-next.ensures.some collector in
    ok_then c.take_version.result _ _ (λ lacks. inr (version_of c.in-Some.entry, is, lacks)) (c.take_version.ensures.room start shown low versions shows honest t)

pub returns-in-None-clause-room : goal.returns-in-None-clause-room
returns-in-None-clause-room g c start shown low collector versions shows honest t = none_versions _ shown _ _ _ _ (if_none_at c.in_ok-next.next _ c.in-None.is c.in_ok-next.ensures.none collector)

-- ---- how often both disks failed

pub returns-in_err-next-clause-failed : goal.returns-in_err-next-clause-failed
returns-in_err-next-clause-failed g c = reports_none _ _ _ (λ reported. search (rules, reported))

pub returns-in-None-clause-failed : goal.returns-in-None-clause-failed
returns-in-None-clause-failed g c = reports_none _ _ _ (λ reported. absurd cc)
