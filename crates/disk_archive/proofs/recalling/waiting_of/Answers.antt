use Rattle.std.proofs.Common.{rules, ◌≡◌, ℕ, List, length, map, sym, ◌∙◌, ap, subst, slice_get}
use Rattle.std.specs.List.{AllByRecursion}
use Rattle.route_model.specs.Admission.{Admitted}
use Rattle.route_model.specs.Moments.{IsMoment}
use Rattle.route_model.specs.Units.{moments_in}
use Rattle.route_model.specs.declared.unit.Unit.TheVariants.{Seconds}
use Rattle.archive_head.specs.declared.lane.Lane.{Lane}
use Rattle.intake.specs.declared.ring.Ring.{Ring}
use Rattle.intake.specs.Ring.{RingRepresents, time_of}
use Rattle.archive_pages.specs.declared.settings.Settings.{Settings}
use Rattle.archive_pages.specs.Places.{ring_of}
use Rattle.archive_pages.specs.Stored.{LaneHolds, older_of, scaled_times}
use Rattle.archive_pages.proofs.api.Stored.{holds_moments, holds_times}
use Rattle.sequencer.proofs.api.Setting.{one_there}
use Rattle.disk_archive.proofs.recalling.waiting_of.Goals as goal

-- the times that wait, by those that were read
times_read : (s : Settings) (shown : List (List ℕ)) (c : ℕ) (lane other : Lane) (waits : List Admitted) (h : LaneHolds s shown c lane waits) (ts : List ℕ) → lane ≡ other → ts ≡ map time_of h.stored → map time_of waits ≡ scaled_times (moments_in Seconds) (older_of other (length ts)) ts
times_read s shown c lane other waits h ts same read =
    let stored = map time_of h.stored in
    holds_times s shown c lane waits h
    ∙ (ap (λ (x : Lane). scaled_times (moments_in Seconds) (older_of x (length stored)) stored) same
    ∙ ap (λ (l : List ℕ). scaled_times (moments_in Seconds) (older_of other (length l)) l) (sym read))

pub returns-in_default-clause-sound : goal.returns-in_default-clause-sound
returns-in_default-clause-sound g c start shown lane waits shows at place since holds page e =
    let same = one_there (slice_get c.args.head.now.lanes c.args.collector) lane c.lane_of-lane.result at c.lane_of-lane.ensures.lane in
    let here = subst (λ (r : Ring). RingRepresents shown r holds.stored) (ap (λ (l : Lane). ring_of c.args.settings c.args.collector l) same ∙ sym c.ring-ring.ensures) holds.represents in
    let read = c.in-Ok.ensures.times start shown holds.stored shows here in
    c.in_default.ensures.none (subst (AllByRecursion IsMoment) (times_read c.args.settings shown c.args.collector lane c.lane_of-lane.result waits holds c.in-Ok.times.items same read) (holds_moments c.args.settings shown c.args.collector lane waits holds))

pub returns-in-Some-clause-times : goal.returns-in-Some-clause-times
returns-in-Some-clause-times g c start shown lane waits shows at holds =
    let same = one_there (slice_get c.args.head.now.lanes c.args.collector) lane c.lane_of-lane.result at c.lane_of-lane.ensures.lane in
    let here = subst (λ (r : Ring). RingRepresents shown r holds.stored) (ap (λ (l : Lane). ring_of c.args.settings c.args.collector l) same ∙ sym c.ring-ring.ensures) holds.represents in
    let read = c.in-Ok.ensures.times start shown holds.stored shows here in
    c.in-Some.ensures.scaled ∙ sym (times_read c.args.settings shown c.args.collector lane c.lane_of-lane.result waits holds c.in-Ok.times.items same read)

pub returns-in-Err-BadNode-clause-sound : goal.returns-in-Err-BadNode-clause-sound
returns-in-Err-BadNode-clause-sound g c start shown lane waits shows at place since holds page e =
    let same = one_there (slice_get c.args.head.now.lanes c.args.collector) lane c.lane_of-lane.result at c.lane_of-lane.ensures.lane in
    let here = subst (λ (r : Ring). RingRepresents shown r holds.stored) (ap (λ (l : Lane). ring_of c.args.settings c.args.collector l) same ∙ sym c.ring-ring.ensures) holds.represents in
    c.waiting_times.ensures.damaged c.in-Err-BadNode.page (search rules) start shown holds.stored shows here
