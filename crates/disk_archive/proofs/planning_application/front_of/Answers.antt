use Rattle.std.proofs.Common.{rules, ◌≡◌, ◌≤◌, ◌∷◌, [], ℕ, List, length, suc, sym, ◌∙◌, ap, subst, slice_get, Err, Option, Some, None, IfSome, arith}
use Rattle.page_tx.specs.declared.error.PageError.TheVariants as pages
use Rattle.archive_head.specs.declared.lane.Lane.{Lane}
use Rattle.intake.specs.declared.encoded.Encoded.{Encoded}
use Rattle.intake.specs.declared.ring.Ring.{Ring}
use Rattle.route_model.specs.Admission.{Admitted}
use Rattle.intake.specs.Ring.{IsRing, RingRepresents, entry}
use Rattle.intake.specs.Calls.{PageRefusal, ReadRefusal}
use Rattle.intake.proofs.api.Leaving.{any_time}
use Rattle.archive_pages.specs.Batches.{CanPop}
use Rattle.archive_pages.specs.Places.{ring_of}
use Rattle.archive_pages.proofs.api.Stored.{front_stored, holds_length}
use Rattle.sequencer.proofs.api.Setting.{one_there}
use Rattle.disk_archive.specs.declared.apply_error.ApplyError.TheVariants as applies
use Rattle.disk_archive.proofs.Faults.{keeps_none, keeps_reported}
use Rattle.disk_archive.proofs.planning_application.front_of.Goals as goal

no_first : (xs : List Admitted) (n : ℕ) → length xs ≡ suc n → ◌≡◌ {A = Option Admitted} (slice_get xs 0) None → ⊥
no_first [] n long none = absurd (let bad : 0 ≡ suc n = long in cc)
no_first (a ∷ xs) n long none = cc

pub returns-in-Ok-Some-clause-front : goal.returns-in-Ok-Some-clause-front
returns-in-Ok-Some-clause-front g c start shown lane waits shows at holds timed =
    let same = one_there (slice_get c.args.head.now.lanes c.args.collector) lane c.lane_of.result at c.lane_of.ensures.lane in
    let here = subst (λ (r : Ring). RingRepresents shown r holds.stored) (ap (λ (l : Lane). ring_of c.args.settings c.args.collector l) same ∙ sym c.ring-ring.ensures) holds.represents in
    let is : c.in-Ok-Some.field-0 ≡ Some c.in-Ok-Some.admission = search rules in
    front_stored c.args.settings shown c.args.collector lane waits c.in-Ok-Some.admission c.args.time holds (sym (c.in-Ok-Some.ensures.front start shown holds.stored shows here) ∙ is) timed ∙ ap Some (sym c.at.ensures.admission)

pub returns-in-Ok-Some-clause-fits : goal.returns-in-Ok-Some-clause-fits
returns-in-Ok-Some-clause-fits g c lane at =
    let same = one_there (slice_get c.args.head.now.lanes c.args.collector) lane c.lane_of.result at c.lane_of.ensures.lane in
    let within : IsRing c.home_pages.result c.ring-ring.result = search rules in
    let ring = subst (IsRing c.home_pages.result) c.ring-ring.ensures within in
    let is : c.in-Ok-Some.field-0 ≡ Some c.in-Ok-Some.admission = search rules in
    let fits = subst (λ (o : Option Encoded). IfSome o (λ a. length (entry a) ≤ c.ring-ring.result.used)) is c.in-Ok-Some.ensures.fits in
    let used = ap (λ (r : Ring). r.used) c.ring-ring.ensures in
    let one : length (entry c.at.result) ≡ length (entry c.in-Ok-Some.admission) = ap (λ (a : Admitted). length (entry a)) c.at.ensures.admission ∙ any_time c.in-Ok-Some.admission c.args.time in
    subst (λ (l : Lane). CanPop c.args.settings c.args.collector l c.at.result) (sym same) (record { start = ring.start; used = ring.used; fits = omega (arith, fits, used, one) })

pub returns-in-Ok-None-clause-sound : goal.returns-in-Ok-None-clause-sound
returns-in-Ok-None-clause-sound g c start shown lane first rest shows at place holds page e =
    let same = one_there (slice_get c.args.head.now.lanes c.args.collector) lane c.lane_of.result at c.lane_of.ensures.lane in
    let here = subst (λ (r : Ring). RingRepresents shown r holds.stored) (ap (λ (l : Lane). ring_of c.args.settings c.args.collector l) same ∙ sym c.ring-ring.ensures) holds.represents in
    let is : c.in-Ok-None.field-0 ≡ None = search rules in
    no_first holds.stored (length rest) (holds_length c.args.settings shown c.args.collector lane (first ∷ rest) holds) (sym (c.in-Ok-None.ensures.front start shown holds.stored shows here) ∙ is)

pub returns-in-Err-BadNode-clause-sound : goal.returns-in-Err-BadNode-clause-sound
returns-in-Err-BadNode-clause-sound g c start shown lane first rest shows at place holds page e =
    let same = one_there (slice_get c.args.head.now.lanes c.args.collector) lane c.lane_of.result at c.lane_of.ensures.lane in
    let here = subst (λ (r : Ring). RingRepresents shown r holds.stored) (ap (λ (l : Lane). ring_of c.args.settings c.args.collector l) same ∙ sym c.ring-ring.ensures) holds.represents in
    c.front.ensures.damaged c.in-Err-BadNode.page (search rules) start shown holds.stored shows here

pub returns-in-Err-Pages-clause-refused : goal.returns-in-Err-Pages-clause-refused
returns-in-Err-Pages-clause-refused g c = let down = g.P.Pages.down c.args.pages.now in c.of_pages.ensures.reads down (subst (PageRefusal down) (sym c.in-Err-Pages.refusal-is) (subst (ReadRefusal down) c.in-Err-Pages.field-0-is c.in-Err-Pages.ensures.refused))

-- ---- how often the device failed

pub returns-then-not-is_within-clause-device : goal.returns-then-not-is_within-clause-device
returns-then-not-is_within-clause-device g c = keeps_none _ _ _ (λ reported. cc)

pub returns-in-Ok-Some-clause-device : goal.returns-in-Ok-Some-clause-device
returns-in-Ok-Some-clause-device g c = keeps_reported _ _ _ _ _ _ (λ reported. absurd cc) (λ failed. absurd cc) c.front.ensures.same.device

pub returns-in-Ok-None-clause-device : goal.returns-in-Ok-None-clause-device
returns-in-Ok-None-clause-device g c = keeps_reported _ _ _ _ _ _ (λ reported. absurd cc) (λ failed. absurd cc) c.front.ensures.same.device

pub returns-in-Err-BadNode-clause-device : goal.returns-in-Err-BadNode-clause-device
returns-in-Err-BadNode-clause-device g c = keeps_reported _ _ _ _ _ _ (λ reported. absurd cc) (λ failed. absurd cc) c.front.ensures.same.device

pub returns-in-Err-Pages-clause-device : goal.returns-in-Err-Pages-clause-device
returns-in-Err-Pages-clause-device g c =
    keeps_reported _ _ _ _ _ _
    (λ reported. (let is : c.of_pages.result ≡ applies.Fault = cc in let e = c.of_pages.ensures.fault.0 is in cc))
    (λ failed. (let is : c.in-Err-Pages.refusal ≡ pages.Fault = cc in ap Err (c.of_pages.ensures.fault.1 (c.in-Err-Pages.refusal-is ∙ is))))
    c.front.ensures.same.device
