-- The pages after a batch that was given represent the history of then.
use Rattle.std.proofs.Common.{◌≡◌, ℕ, ◌+◌, List, [], ◌++◌, length, sym, ap, subst, Some}
use Rattle.std.specs.List.{AllByRecursion, slice_get}
use Rattle.route_model.specs.Admission.{Admitted, IsAdmission}
use Rattle.route_meaning.specs.Merged.{part}
use Rattle.route_meaning.specs.Holds.{admitted_time}
use Rattle.route_meaning.specs.History.{Intake, History, waiting}
use Rattle.sequencer.specs.Late.{timely}
use Rattle.interleaving_core.specs.Steps.{given}
use Rattle.interleaving_core.proofs.api.Right.{right_given}
use Rattle.archive_head.specs.declared.lane.Lane.{Lane}
use Rattle.archive_head.specs.Head.{Contents}
use Rattle.intake.specs.Ring.{octets_for, Gains, RingRepresents, RepresentsAlone}
use Rattle.archive_pages.specs.declared.settings.Settings.{Settings}
use Rattle.archive_pages.specs.Places.{ring_of}
use Rattle.archive_pages.specs.Represented.{TreeOn, IsFramed, HeadRepresents}
use Rattle.archive_pages.specs.Changes.{with_lane, lane_given}
use Rattle.archive_pages.specs.Batches.{Kept, IsKeptOf, HasLane, lane_with}
use Rattle.archive_pages.proofs.api.Representing.{head_represents_given}

-- Pages are shown that represent the history with this head.
pub record Shows (Tree : TreeOn) (s : Settings) (settled : ℕ → List ℕ → Type 0) (shows : List (List ℕ) → Type 0) (head : Contents) (h : History) : Type 0 where
  pub pages : List (List ℕ)
  pub shown : shows pages
  pub head_represents : HeadRepresents Tree s settled head pages h

-- what the head keeps then is what the history says
pub lane_is_given : (lane : Lane) (before : ℕ) (batch : List Admitted) (kept : Kept) → IsKeptOf before batch kept → lane_with lane kept ≡ lane_given lane before batch (lane.used + octets_for kept.timely)
lane_is_given lane before batch kept is =
    let o = is.count in
    let a = ap length is.items in
    let m = is.mark in
    λ x. record lane { offered = lane.offered + o x; admitted = lane.admitted + a x; mark = m x; used = lane.used + octets_for kept.timely }

-- Where the collector's ring gained what is kept of a batch, and no page of another owner changed, the history was given the batch.
pub shows_given : (Tree : TreeOn) (s : Settings) (settled : ℕ → List ℕ → Type 0) → IsFramed Tree settled → (shows : List (List ℕ) → Type 0) (head : Contents) (old : List (List ℕ)) (h : History) (c : ℕ) (batch : List Admitted) (kept : Kept) (lane : Lane) (i : Intake)
    → HeadRepresents Tree s settled head old h → AllByRecursion IsAdmission batch → HasLane head c lane → slice_get h.intakes c ≡ Some i → IsKeptOf i.mark batch kept
    → ((waits : List Admitted) → RingRepresents old (ring_of s c lane) waits → Gains shows old (ring_of s c (lane_with lane kept)) (waits ++ kept.timely))
    → Shows Tree s settled shows (with_lane head c (lane_with lane kept)) (given h c batch)
shows_given Tree s settled framed shows head old h c batch kept lane i b valid at here is gains =
    let own = b.lanes c lane i at here in
    let gained = gains own.holds.stored own.holds.represents in
    let used = lane.used + octets_for kept.timely in
    let same = lane_is_given lane i.mark batch kept is in
    let represents_all : RepresentsAlone gained.pages (record (ring_of s c lane) { used = used }) (own.holds.stored ++ timely admitted_time i.mark [] batch) = subst (λ (l : List Admitted). RepresentsAlone gained.pages (record (ring_of s c lane) { used = used }) (own.holds.stored ++ l)) is.items gained.represents_all in
    record {
      pages = gained.pages;
      shown = gained.shown;
      head_represents = subst (λ (l : Lane). HeadRepresents Tree s settled (with_lane head c l) gained.pages (given h c batch)) (sym same)
          (head_represents_given Tree s settled framed head old gained.pages h c batch lane i used b (right_given h c batch valid b.right) at here (record { count = gained.changes.count; below = gained.changes.below; above = gained.changes.above }) own.holds represents_all);
    }
