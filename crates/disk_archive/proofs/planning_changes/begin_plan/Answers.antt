use Rattle.std.proofs.Common.{rules, ◌≡◌, ◌<◌, List, length, sym, ◌∙◌, ap, subst, arith, min, Ok, Err, Some}
use Rattle.disk_models.specs.Once.{settled_in}
use Rattle.archive_head.specs.Head.{Contents}
use Rattle.archive_pages.specs.Represented.{HeadRepresents}
use Rattle.sequencer.proofs.api.Calls.{first_in}
use Rattle.std.specs.List.{slice_get}
use Rattle.sequencer.specs.Lanes.{Waiting, waiting_times}
use Rattle.sequencer.specs.First.{IsNext}
use Rattle.disk_archive.specs.Mirrors.{Mirrors}
use Rattle.disk_archive.specs.Trees.{TreeLocated}
use Rattle.disk_archive.specs.declared.apply_error.ApplyError.TheVariants as applies
use Rattle.disk_archive.proofs.Faults.{done_not_reported, keeps_none, keeps_reported, one_reported}
use Rattle.disk_archive.proofs.Reaching.{first_found, first_sound}
use Rattle.disk_archive.proofs.planning_changes.begin_plan.Goals as goal

pub overflow_cast-collector : goal.overflow_cast-collector
overflow_cast-collector g c =
    let next = c.requires.first in
    let lt = first_in c.args.sequencer.now c.args.number next.time next.first in
    let few = c.requires.few in
    omega (arith, lt, few)

pub front_of-requires : goal.front_of-requires
front_of-requires g c =
    let next = c.requires.first in
    let lt = first_in c.args.sequencer.now c.args.number next.time next.first in
    let n = c.requires.lanes in
    let m = ap (λ (x : Contents). length x.lanes) c.in_ok-next.ensures.copy in
    omega (arith, lt, n, m)

pub returns-clause-reached : goal.returns-clause-reached
returns-clause-reached g c count o start shown h shows b m =
    let lanes = c.args.sequencer.now in
    let next = c.requires.first in
    let lt = first_in lanes c.args.number next.time next.first in
    let copy = c.in_ok-next.ensures.copy in
    let b' = subst (λ (x : Contents). HeadRepresents (TreeLocated count) c.args.settings (settled_in o) x shown h) (sym copy) b in
    let low : c.args.number < length c.in_ok-next.next.lanes = (let n = c.requires.lanes in let l = ap (λ (x : Contents). length x.lanes) copy in omega (arith, lt, n, l)) in
    record {
      pages = shown;
      shown = c.front_of.ensures.reads start shown shows;
      head_represents = b';
      mirrors = subst (λ (l : List Waiting). Mirrors l h) (sym c.in_ok-ahead.ensures.same) m;
      first = λ _. first_found count c.args.settings (settled_in o) c.in_ok-next.next shown lanes h c.args.number c.time_of_next-time.result c.in_ok-admission.admission low b' m next
          (λ times there. c.time_of_next-time.ensures.time times (subst (λ (l : List Waiting). slice_get (waiting_times l) c.args.number ≡ Some times) (sym c.in_ok-ahead.ensures.same) there))
          (λ lane waits at holds first. c.in_ok-admission.ensures.front start shown lane waits shows at holds first);
    }

pub returns-clause-fits : goal.returns-clause-fits
returns-clause-fits g c block next low =
    let copy = c.in_ok-next.ensures.copy in
    let lanes = c.args.sequencer.now in
    let is = c.requires.first in
    let lt = first_in lanes c.args.number is.time is.first in
    let n = c.requires.lanes in
    let l = ap (λ (x : Contents). length x.lanes) copy in
    record {
      pages = next ∙ sym (ap (λ (x : Contents). min x.fresh (g.P.Pages.homes c.args.pages.now)) copy);
      blocks = (let e = ap (λ (x : Contents). x.block) copy in omega (arith, e, low));
      lanes = l ∙ n;
      count = c.in_ok-ahead.ensures.count;
      hand = λ _. record {
        next = subst (λ (x : List Waiting). IsNext x c.args.number) (sym c.in_ok-ahead.ensures.same) is;
        inside = omega (arith, lt, n, l);
        fits = c.in_ok-admission.ensures.fits;
      };
    }

pub returns-in_err-admission-clause-sound : goal.returns-in_err-admission-clause-sound
returns-in_err-admission-clause-sound g c count o start shown h shows b m page bad =
    let lanes = c.args.sequencer.now in
    let next = c.requires.first in
    let lt = first_in lanes c.args.number next.time next.first in
    let copy = c.in_ok-next.ensures.copy in
    let b' = subst (λ (x : Contents). HeadRepresents (TreeLocated count) c.args.settings (settled_in o) x shown h) (sym copy) b in
    let low : c.args.number < length c.in_ok-next.next.lanes = (let n = c.requires.lanes in let l = ap (λ (x : Contents). length x.lanes) copy in omega (arith, lt, n, l)) in
    first_sound count (g.P.Pages.homes c.args.pages.now) c.args.settings (settled_in o) c.in_ok-next.next shown lanes h c.args.number _ low b' m next (g.met.P.Pages.count c.args.pages.now start shown shows)
    (λ lane first rest at ring holds reported. c.front_of.ensures.sound start shown lane first rest shows at ring holds page reported) (search (rules, bad))

-- ---- how often the device failed

pub returns-in_err-next-clause-device : goal.returns-in_err-next-clause-device
returns-in_err-next-clause-device g c = keeps_none _ _ _ (λ reported. search (rules, reported))

pub returns-in_err-ahead-clause-device : goal.returns-in_err-ahead-clause-device
returns-in_err-ahead-clause-device g c = keeps_none _ _ _ (λ reported. search (rules, reported))

pub returns-in_err-admission-clause-device : goal.returns-in_err-admission-clause-device
returns-in_err-admission-clause-device g c =
    let e = c.in_err-admission.field-0.0 in
    let r : c.front_of.result ≡ Err e = search rules in
    let d : c.from_residual-in_err-admission.result ≡ Err e = search rules in
    keeps_reported _ _ _ _ _ _
    (λ reported. r ∙ ap Err (one_reported c.from_residual-in_err-admission.result e applies.Fault d reported))
    (λ failed. d ∙ ap Err (one_reported c.front_of.result e applies.Fault r failed))
    c.front_of.ensures.device

pub returns-clause-device : goal.returns-clause-device
returns-clause-device g c =
    let r : c.front_of.result ≡ Ok c.in_ok-admission.admission = search rules in
    keeps_reported _ _ _ _ _ _ (λ reported. absurd cc) (λ failed. absurd (done_not_reported c.front_of.result c.in_ok-admission.admission applies.Fault r failed)) c.front_of.ensures.device
