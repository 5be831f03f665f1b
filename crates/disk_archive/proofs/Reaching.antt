-- What was planned reaches further histories, change by change.
use Rattle.std.proofs.Common.{◌≡◌, ◌≢◌, ◌⊎◌, ◌<◌, ℕ, List, [], ◌∷◌, length, map, set, true, false, refl, sym, ◌∙◌, ap, subst, inl, inr, ⊎_elim, arith, Some, length-set, get_or-set_same, get_or-set_other}
use Rattle.std.specs.List.{slice_get, slice_set}
use Rattle.route_model.specs.Admission.{Admitted}
use Rattle.route_meaning.specs.Holds.{admitted_time}
use Rattle.route_meaning.specs.Merged.{part}
use Rattle.route_meaning.specs.History.{History, IsBelowMarks, waiting}
use Rattle.interleaving_core.specs.Steps.{moved}
use Rattle.sequencer.specs.Lanes.{Waiting, Releases, waiting_times}
use Rattle.sequencer.specs.First.{IsNext}
use Rattle.sequencer.specs.Ahead.{beyond}
use Rattle.archive_head.specs.declared.lane.Lane.{Lane}
use Rattle.archive_head.specs.Head.{Contents, IsHead, head_octets}
use Rattle.archive_head.proofs.api.Heads.{encodes_written}
use Rattle.intake.specs.Ring.{IsRing, time_of}
use Rattle.archive_pages.specs.declared.settings.Settings.{Settings}
use Rattle.archive_pages.specs.Places.{ring_of}
use Rattle.archive_pages.specs.Stored.{LaneHolds}
use Rattle.archive_pages.specs.Represented.{HeadRepresents}
use Rattle.archive_pages.specs.Batches.{HasLane}
use Rattle.archive_pages.proofs.api.Representing.{head_represents_grown, head_represents_headed}
use Rattle.disk_archive.specs.declared.planning_changes.Front.{Front}
use Rattle.disk_archive.specs.declared.planning_changes.Plan.{Plan}
use Rattle.disk_archive.specs.declared.planning_changes.Application.{Application}
use Rattle.disk_archive.specs.Mirrors.{Mirrors}
use Rattle.disk_archive.specs.Moves.{Moves}
use Rattle.disk_archive.specs.Trees.{TreeLocated}
use Rattle.disk_archive.specs.inner.Planning.{Planned}
use Rattle.disk_archive.specs.inner.Applications.{Advances, IsFirst, MovesOn, PlansMove, Reached, Reaches}
use Rattle.disk_archive.proofs.Fronts.{next_is, mirror_moved}
use Rattle.disk_archive.proofs.Mirroring.{times_there}
use Rattle.disk_archive.proofs.Stepping.{first_is, front_holds, moves_then}
use Rattle.disk_archive.proofs.api.Trees.{tree_framed, tree_grows}

-- ---- the admission at hand

-- what is next in memory, and its ring's first admission: the first that waits
pub first_found : (count : ℕ) (s : Settings) (settled : ℕ → List ℕ → Type 0) (head : Contents) (pages : List (List ℕ)) (lanes : List Waiting) (h : History) (c time : ℕ) (a : Admitted) → c < length head.lanes → HeadRepresents (TreeLocated count) s settled head pages h → Mirrors lanes h → IsNext lanes c
    → ((times : List ℕ) → slice_get (waiting_times lanes) c ≡ Some times → slice_get times 0 ≡ Some time)
    → ((lane : Lane) (waits : List Admitted) → HasLane head c lane → LaneHolds s pages c lane waits → slice_get (map time_of waits) 0 ≡ Some time → slice_get waits 0 ≡ Some a) → IsFirst h (record { collector = c; admission = a })
first_found count s settled head pages lanes h c time a low b m next timed reported =
    let inside : c < length h.intakes = (let n = b.number in let l = b.lanes_number in omega (arith, low, n, l)) in
    let f = next_is lanes h c inside m next in
    let k = front_holds count s settled head pages h c f.first f.later low b f.next in
    let first : slice_get (map time_of (f.first ∷ k.rest)) 0 ≡ Some time = ap (λ (l : List Admitted). slice_get (map time_of l) 0) (sym k.waits) ∙ timed (map admitted_time (part c (waiting h))) (times_there lanes h c m inside) in
    let is = reported k.lane (f.first ∷ k.rest) k.at k.holds first in
    let same : f.first ≡ a = cc in
    record {
      later = f.later;
      here = first_is h c f.first a f.later k.rest f.next is;
      below = subst (λ (x : Admitted). IsBelowMarks h x.time) same f.below;
    }

-- the admission may be replaced by one that is equal to it
pub at_hand : (h : History) (front : Front) (a : Admitted) → IsFirst h front → front.admission ≡ a → IsFirst h (record { collector = front.collector; admission = a })
at_hand h front a f same = subst (λ (x : Admitted). IsFirst h (record { collector = front.collector; admission = x })) same f

-- its page isn't reported as damaged
pub first_sound : (count homes : ℕ) (s : Settings) (settled : ℕ → List ℕ → Type 0) (head : Contents) (pages : List (List ℕ)) (lanes : List Waiting) (h : History) (c : ℕ) (blamed : Type 0) → c < length head.lanes → HeadRepresents (TreeLocated count) s settled head pages h → Mirrors lanes h → IsNext lanes c → length pages ≡ homes
    → ((lane : Lane) (first : Admitted) (rest : List Admitted) → HasLane head c lane → IsRing homes (ring_of s c lane) → LaneHolds s pages c lane (first ∷ rest) → blamed → ⊥) → blamed → ⊥
first_sound count homes s settled head pages lanes h c blamed low b m next len never =
    let f = next_is lanes h c (let n = b.number in let l = b.lanes_number in omega (arith, low, n, l)) m next in
    let k = front_holds count s settled head pages h c f.first f.later low b f.next in
    never k.lane f.first k.rest k.at (subst (λ n. IsRing n (ring_of s c k.lane)) len k.ring) k.holds

-- ---- a change is applied

-- the first that waits is the same until it is wholly applied
first_stays : (h g : History) (front : Front) → (some : ℕ) × (g ≡ moved h h.whole some) → IsFirst h front → IsFirst g front
first_stays h g front part f = subst (λ (x : History). IsFirst x front) (sym part.1) (record { later = f.later; here = f.here; below = f.below })

pub advances : (count : ℕ) (s : Settings) (few many : ℕ → List ℕ → Type 0) (old new : List (List ℕ) → Type 0) (lanes : List Waiting) (plan after : Plan) (h : History) → (r : Reached count s few old lanes plan h) → IsFirst h plan.front → plan.front.collector < length h.intakes → after.front ≡ plan.front
    → (after.whole ≡ true → Releases (beyond plan.ahead lanes) plan.front.collector (beyond after.ahead lanes)) → (after.whole ≡ false → beyond after.ahead lanes ≡ beyond plan.ahead lanes)
    → MovesOn count s many new after.head after.whole h → Advances count s many new lanes after h
advances count s few many old new lanes plan after h r f low front leaves stays m = record {
  after = m.after;
  moves = m.moves;
  reached = record {
    pages = m.pages;
    shown = m.shown;
    head_represents = m.head_represents;
    mirrors = mirror_moved (beyond plan.ahead lanes) (beyond after.ahead lanes) h m.after plan.front.collector after.whole
        (record { first = plan.front.admission; later = f.later; next = f.here; below = f.below }) low r.mirrors m.stays m.leaves leaves stays;
    first = λ part. first_stays h m.after after.front (m.stays part) (subst (λ (x : Front). IsFirst h x) (sym front) f);
  };
}

-- ---- nothing is applied

-- more blocks are settled, and the same pages are shown
pub reached_grown : (count : ℕ) (s : Settings) (few many : ℕ → List ℕ → Type 0) (old new : List (List ℕ) → Type 0) (lanes : List Waiting) (plan : Plan) (h : History) → ((b : ℕ) (octets : List ℕ) → few b octets → many b octets) → ((pages : List (List ℕ)) → old pages → new pages) → Reached count s few old lanes plan h → Reached count s many new lanes plan h
reached_grown count s few many old new lanes plan h more shows r = record {
  pages = r.pages;
  shown = shows r.pages r.shown;
  head_represents = head_represents_grown (TreeLocated count) (tree_grows count) s few many more plan.head r.pages h r.head_represents;
  mirrors = r.mirrors;
  first = r.first;
}

pub reaches_same : (count : ℕ) (s : Settings) (settled : ℕ → List ℕ → Type 0) (shows : List (List ℕ) → Type 0) (lanes : List Waiting) (plan : Plan) (h : History) → Reached count s settled shows lanes plan h → Reaches count s settled shows lanes plan h
reaches_same count s settled shows lanes plan h r = record { after = h; is = inl refl; reached = r }

pub reaches_one : (count : ℕ) (s : Settings) (settled : ℕ → List ℕ → Type 0) (shows : List (List ℕ) → Type 0) (lanes : List Waiting) (plan : Plan) (h : History) → Advances count s settled shows lanes plan h → Reaches count s settled shows lanes plan h
reaches_one count s settled shows lanes plan h a = record { after = a.after; is = inr a.moves; reached = a.reached }

-- ---- one after another

onward : (h m g : History) → (m ≡ h) ⊎ Moves h m → (g ≡ m) ⊎ Moves m g → (g ≡ h) ⊎ Moves h g
onward h m g (inl same) (inl same') = inl (same' ∙ same)
onward h m g (inl same) (inr moves) = inr (subst (λ (x : History). Moves x g) same moves)
onward h m g (inr moves) (inl same) = inr (subst (λ (x : History). Moves h x) (sym same) moves)
onward h m g (inr moves) (inr more) = inr (moves_then h m g moves more)

pub reaches_then : (count : ℕ) (s : Settings) (few many : ℕ → List ℕ → Type 0) (old new : List (List ℕ) → Type 0) (lanes : List Waiting) (plan after : Plan) (h : History) → Reaches count s few old lanes plan h → ((g : History) → Reached count s few old lanes plan g → Reaches count s many new lanes after g) → Reaches count s many new lanes after h
reaches_then count s few many old new lanes plan after h r step =
    let next = step r.after r.reached in
    record { after = next.after; is = onward h r.after next.after r.is next.is; reached = next.reached }

pub advances_then : (count : ℕ) (s : Settings) (few many : ℕ → List ℕ → Type 0) (old new : List (List ℕ) → Type 0) (lanes : List Waiting) (plan after : Plan) (h : History) → Advances count s few old lanes plan h → ((g : History) → Reached count s few old lanes plan g → Reaches count s many new lanes after g) → Advances count s many new lanes after h
advances_then count s few many old new lanes plan after h a step =
    let next = step a.after a.reached in
    record { after = next.after; moves = ⊎_elim (λ same. subst (λ (x : History). Moves h x) (sym same) a.moves) (λ more. moves_then h a.after next.after a.moves more) next.is; reached = next.reached }

-- ---- and the head is laid over page 0

pub plans_move : (count : ℕ) (s : Settings) (settled : ℕ → List ℕ → Type 0) (mid new : List (List ℕ) → Type 0) (lanes : List Waiting) (plan : Plan) (reported : Application) (h : History) → reported.head ≡ plan.head → reported.ahead ≡ plan.ahead
    → IsHead plan.head → ((pages : List (List ℕ)) → mid pages → 0 < length pages) → ((pages : List (List ℕ)) → mid pages → new (slice_set pages 0 (head_octets plan.head))) → Advances count s settled mid lanes plan h → PlansMove count s settled new lanes reported h
plans_move count s settled mid new lanes plan reported h head ahead valid some written a =
    let r = a.reached in
    record {
      after = a.after;
      moves = a.moves;
      planned = subst (λ (x : Contents). Planned count s settled new x a.after) (sym head) (record {
        pages = slice_set r.pages 0 (head_octets plan.head);
        shown = written r.pages r.shown;
        headed = record {
          valid = valid;
          first = encodes_written plan.head _ valid (get_or-set_same r.pages 0 (head_octets plan.head) [] (some r.pages r.shown));
          head_represents = head_represents_headed (TreeLocated count) s settled (tree_framed count settled) plan.head r.pages (set r.pages 0 (head_octets plan.head)) a.after (length-set r.pages 0 (head_octets plan.head))
              (λ n ge. get_or-set_other r.pages 0 n (head_octets plan.head) [] (let other : n ≢ 0 = omega arith in other)) r.head_represents;
        };
      });
      mirrors = subst (λ (ns : List ℕ). Mirrors (beyond ns lanes) a.after) (sym ahead) r.mirrors;
    }
