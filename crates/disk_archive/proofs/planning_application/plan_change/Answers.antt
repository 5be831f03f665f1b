use Rattle.std.proofs.Common.{rules, ◌≡◌, inl, inr, ℕ, suc, length, min, sym, ◌∙◌, ap, arith, true≢false, Ok, Err}
use Rattle.std.proofs.lemmas.Bool.{cases_lt}
use Rattle.route_meaning.specs.Merged.{placed}
use Rattle.disk_models.specs.Once.{settled_in}
use Rattle.once_store.specs.Shelves.{disk_of, pen_of}
use Rattle.archive_head.specs.Head.{Contents}
use Rattle.archive_pages.proofs.api.Passing.{Passes}
use Rattle.disk_archive.specs.declared.apply_error.ApplyError.TheVariants as applies
use Rattle.disk_archive.specs.declared.change_error.ChangeError.TheVariants as changes
use Rattle.disk_archive.proofs.Failing.{reports_none, reports_as}
use Rattle.disk_archive.proofs.Faults.{done_not_reported, one_reported}
use Rattle.disk_archive.proofs.Changing.{change_as}
use Rattle.disk_archive.proofs.Lacking.{lacks_as, next_version, one_as, version_next}
use Rattle.disk_archive.proofs.Limited.{on_reported}
use Rattle.disk_archive.proofs.Outcomes.{is_less}
use Rattle.disk_archive.proofs.Plans.{lane_at}
use Rattle.disk_archive.proofs.Stepping.{moves_on, kept_passed, last_no_later}
use Rattle.disk_archive.proofs.planning_application.plan_change.Goals as goal

pub returns-in_err-place-clause-sound : goal.returns-in_err-place-clause-sound
returns-in_err-place-clause-sound g c start shown h later shows honest b here page bad = c.take_next.ensures.sound start shown _ b.versions shows honest b.tree page (search (rules, bad))

pub returns-clause-moves : goal.returns-clause-moves
returns-clause-moves g c start shown h later shows honest b here below =
    let head = c.args.head.now in
    let lane = lane_at c.args.collector head.lanes c.requires.collector in
    let place = c.in_ok-place.place in
    let passes : Passes c.args.settings head c.pass_change.new.head (placed c.args.collector c.args.admission.now) place.fresh place.block place.root = record { stays = c.pass_change.ensures.stays; leaves = c.pass_change.ensures.leaves } in
    moves_on _ c.args.settings _ _ _ head c.pass_change.new.head c.pass_change.result place.root place.fresh place.block shown h c.args.collector c.args.admission.now later lane.0 b here below lane.1 passes c.pass_change.ensures.whole
    (c.in_ok-place.ensures.takes start shown c.args.collector b.versions shows honest c.args.settings b.tree)

pub returns-clause-lanes : goal.returns-clause-lanes
returns-clause-lanes g c =
    let head = c.args.head.now in
    let lane = lane_at c.args.collector head.lanes c.requires.collector in
    let place = c.in_ok-place.place in
    let passes : Passes c.args.settings head c.pass_change.new.head (placed c.args.collector c.args.admission.now) place.fresh place.block place.root = record { stays = c.pass_change.ensures.stays; leaves = c.pass_change.ensures.leaves } in
    (kept_passed c.args.settings head c.pass_change.new.head (placed c.args.collector c.args.admission.now) place.fresh place.block place.root lane.0 lane.1 passes).lanes

pub returns-clause-next : goal.returns-clause-next
returns-clause-next g c =
    let head = c.args.head.now in
    let lane = lane_at c.args.collector head.lanes c.requires.collector in
    let place = c.in_ok-place.place in
    let passes : Passes c.args.settings head c.pass_change.new.head (placed c.args.collector c.args.admission.now) place.fresh place.block place.root = record { stays = c.pass_change.ensures.stays; leaves = c.pass_change.ensures.leaves } in
    let k = kept_passed c.args.settings head c.pass_change.new.head (placed c.args.collector c.args.admission.now) place.fresh place.block place.root lane.0 lane.1 passes in
    c.in_ok-place.ensures.fresh ∙ ap (λ (n : ℕ). min n (g.P.Pages.homes c.take_next.new.pages)) (sym k.fresh)

pub returns-clause-block : goal.returns-clause-block
returns-clause-block g c =
    let head = c.args.head.now in
    let lane = lane_at c.args.collector head.lanes c.requires.collector in
    let place = c.in_ok-place.place in
    let passes : Passes c.args.settings head c.pass_change.new.head (placed c.args.collector c.args.admission.now) place.fresh place.block place.root = record { stays = c.pass_change.ensures.stays; leaves = c.pass_change.ensures.leaves } in
    let k = (kept_passed c.args.settings head c.pass_change.new.head (placed c.args.collector c.args.admission.now) place.fresh place.block place.root lane.0 lane.1 passes).block in
    let low = c.in_ok-place.ensures.block in
    omega (arith, k, low)

pub returns-then-lt-clause-sound : goal.returns-then-lt-clause-sound
returns-then-lt-clause-sound g c start shown h later shows honest b here page bad =
    let low = last_no_later (g.O.OnceDisk.block_count (disk_of c.args.shelf.now)) c.args.settings (settled_in (g.O.OnceDisk.model (pen_of c.args.shelf.now))) c.args.head.now shown h (placed c.args.collector c.args.admission.now) later b here in
    let lt = is_less c.lt.result c.time.result c.head.inside.last c.lt.ensures c.if-lt.true in
    let time = c.time.ensures.time in
    let last = ap (λ (x : Contents). x.last) c.head.view_is in
    absurd (omega (arith, low, lt, time, last))

pub returns-clause-stays : goal.returns-clause-stays
returns-clause-stays g c part =
    let head = c.args.head.now in
    elim (cases_lt (suc head.begun) (length c.args.admission.now.changes)) [
      | inl lt ↦ ap (λ (x : Contents). x.lanes) (c.pass_change.ensures.stays lt)
      | inr ge ↦ absurd (true≢false (sym (c.pass_change.ensures.whole.1 ge) ∙ part))
    ]

pub returns-in_err-place-clause-high : goal.returns-in_err-place-clause-high
returns-in_err-place-clause-high g c start shown shows reported = c.take_next.ensures.high start shown shows (search (rules, reported))

pub returns-in_err-place-clause-lacks : goal.returns-in_err-place-clause-lacks
returns-in_err-place-clause-lacks g c start shown h later shows honest b here =
    let e = c.in_err-place.field-0.0 in
    on_reported c.from_residual.result e _ c.from_residual.ensures.1
    (change_as _ _ e (λ refusal. lacks_as _ _ shown _ _ refusal (λ v is. next_version _ c.args.settings _ c.args.head.now shown h (placed c.args.collector c.args.admission.now) later v b here is))
    (c.in_err-place.ensures.lacks start shown _ c.args.collector b.versions shows honest b.tree))

pub returns-clause-room : goal.returns-clause-room
returns-clause-room g c start shown h later shows honest b here =
    let head = c.args.head.now in
    let first = placed c.args.collector c.args.admission.now in
    let view = ap (λ (x : Contents). x.applied) c.head.view_is in
    let most = c.if-head.false in
    record {
      counted = omega (arith, view, most);
      version = one_as _ _ shown _ _ _ (λ v is. next_version _ c.args.settings _ head shown h first later v b here is) (λ v is. version_next _ c.args.settings _ head shown h first later v b here is)
          (c.in_ok-place.ensures.room start shown _ c.args.collector b.versions shows honest b.tree);
    }

pub returns-in_err-place-clause-first : goal.returns-in_err-place-clause-first
returns-in_err-place-clause-first g c few is = c.take_next.ensures.first few (search (rules, is))

-- ---- how often both disks failed

pub returns-then-head-clause-failed : goal.returns-then-head-clause-failed
returns-then-head-clause-failed g c = reports_none _ _ _ (λ reported. absurd cc)

pub returns-then-lt-clause-failed : goal.returns-then-lt-clause-failed
returns-then-lt-clause-failed g c = reports_none _ _ _ (λ reported. absurd cc)

pub returns-in_err-place-clause-failed : goal.returns-in_err-place-clause-failed
returns-in_err-place-clause-failed g c =
    let e = c.in_err-place.field-0.0 in
    let r : c.take_next.result ≡ Err e = search rules in
    let d : c.from_residual.result ≡ Err e = search rules in
    reports_as _ _ _ _ _ _ (λ reported. r ∙ ap Err (one_reported c.from_residual.result e (changes.Apply applies.Fault) d reported)) (λ failed. d ∙ ap Err (one_reported c.take_next.result e (changes.Apply applies.Fault) r failed)) c.take_next.ensures.failed

pub returns-clause-failed : goal.returns-clause-failed
returns-clause-failed g c =
    let r : c.take_next.result ≡ Ok c.in_ok-place.place = search rules in
    reports_as _ _ _ _ _ _ (λ reported. absurd cc) (λ failed. absurd (done_not_reported c.take_next.result c.in_ok-place.place (changes.Apply applies.Fault) r failed)) c.take_next.ensures.failed
