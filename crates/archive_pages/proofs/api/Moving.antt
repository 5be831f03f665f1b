-- The pages after an applied change represent the history of then.
use Rattle.std.proofs.Common.{◌≡◌, ◌<◌, ◌≤◌, ℕ, zero, suc, ◌+◌, List, [], ◌∷◌, ◌++◌, length, drop, refl, sym, ◌∙◌, ap, subst, arith, Some, length-set, length-append}
use Rattle.std.specs.List.{slice_get, slice_set, flat_map}
use Rattle.std.proofs.lemmas.Bool.{eq-eqb, ne_eqb}
use Rattle.std.proofs.lemmas.Option.{slice_get_within}
use Rattle.route_model.specs.Admission.{Admitted}
use Rattle.route_meaning.specs.Merged.{Placed, part}
use Rattle.route_meaning.specs.History.{Intake, History, IsHistory, all_of, waiting, applied}
use Rattle.interleaving_core.specs.Steps.{changed, moved}
use Rattle.route_history.specs.Kept.{timed, AreVersions}
use Rattle.archive_head.specs.declared.lane.Lane.{Lane}
use Rattle.archive_head.specs.Head.{Contents}
use Rattle.intake.specs.Ring.{entry}
use Rattle.intake.proofs.api.Leaving.{is_ring_popped}
use Rattle.archive_pages.specs.declared.settings.Settings.{Settings}
use Rattle.archive_pages.specs.Places.{SamePages, ring_low, ring_of}
use Rattle.archive_pages.specs.Stored.{LaneHolds}
use Rattle.archive_pages.specs.Represented.{TreeOn, LaneRepresents, HeadRepresents, last_time}
use Rattle.archive_pages.specs.Changes.{next_change, head_moved, lane_popped, Takes}
use Rattle.archive_pages.proofs.api.Stored.{holds_after, holds_size}
use Rattle.archive_pages.proofs.Lanes.{lanes_changed, lane_framed, ring_before_tree}
use Rattle.archive_pages.proofs.Timing.{timed_part, timed_whole, versions_more, last_time-append}

moved_with : (Tree : TreeOn) (s : Settings) (settled few : ℕ → List ℕ → Type 0) (head : Contents) (some fresh block root : ℕ) (lanes : List Lane) (old new : List (List ℕ)) (h g : History) (next : Placed Admitted)
    → (b : HeadRepresents Tree s few head old h) → IsHistory g → g.intakes ≡ h.intakes → timed (applied g) ≡ timed (applied h) ++ next_change some next
    → Takes Tree s settled head (head_moved head some next g.some fresh block root lanes) some next b.versions old new → length lanes ≡ length head.lanes
    → ((k : ℕ) (l : Lane) (j : Intake) → slice_get lanes k ≡ Some l → slice_get g.intakes k ≡ Some j → LaneRepresents s new k l j (part k (waiting g)))
    → HeadRepresents Tree s settled (head_moved head some next g.some fresh block root lanes) new g
moved_with Tree s settled few head some fresh block root lanes old new h g next b right is changes t len stand =
    record {
      right = right;
      number = ap length is ∙ b.number;
      lanes_number = len ∙ b.lanes_number;
      lanes = stand;
      begun = refl;
      numbered = ap (λ n. n + length (next_change some next)) b.numbered ∙ (sym (length-append (timed (applied h)) (next_change some next)) ∙ ap length (sym changes));
      last = ap (λ d. last_time d (next_change some next)) b.last ∙ (sym (last_time-append 0 (timed (applied h)) (next_change some next)) ∙ ap (last_time 0) (sym changes));
      versions = b.versions ++ t.more;
      kept = subst (λ ts. AreVersions 0 ts (b.versions ++ t.more)) (sym changes) (versions_more 0 head.applied (timed (applied h)) (next_change some next) b.versions t.more (let o = b.numbered in omega arith) b.kept t.versions);
      tree = t.tree;
    }

-- Other changes of the admission follow.
pub head_represents_part : (Tree : TreeOn) (s : Settings) (settled few : ℕ → List ℕ → Type 0) (head : Contents) (fresh block root : ℕ) (old new : List (List ℕ)) (h : History) (next : Placed Admitted) (later : List (Placed Admitted))
    → (b : HeadRepresents Tree s few head old h) → IsHistory (moved h h.whole (suc h.some)) → waiting h ≡ next ∷ later
    → Takes Tree s settled head (head_moved head h.some next (suc h.some) fresh block root head.lanes) h.some next b.versions old new
    → HeadRepresents Tree s settled (head_moved head h.some next (suc h.some) fresh block root head.lanes) new (moved h h.whole (suc h.some))
head_represents_part Tree s settled few head fresh block root old new h next later b right here t =
    moved_with Tree s settled few head h.some fresh block root head.lanes old new h (moved h h.whole (suc h.some)) next b right refl (timed_part h next later here) t refl
    (λ k l j at there.
    let n = b.lanes_number in
    let beyond = ring_before_tree s k (let w = slice_get_within head.lanes k l at in omega arith) in
    lane_framed s old new k l j (part k (waiting h)) t.changes.count (λ i ge lt. t.changes.below i (omega arith)) (b.lanes k l j at there))

drop_next : {X : Type 0} (n : ℕ) (xs : List X) (x : X) (later : List X) → drop n xs ≡ x ∷ later → drop (suc n) xs ≡ later
drop_next zero [] x later e = cc
drop_next zero (y ∷ xs) x later e = let same : xs ≡ later = cc in same
drop_next (suc n) [] x later e = cc
drop_next (suc n) (y ∷ xs) x later e = drop_next n xs x later e

changed_none : (c : ℕ) (is : List Intake) → changed c (λ i. i) is ≡ is
changed_none c [] = refl
changed_none zero (i ∷ is) = refl
changed_none (suc c) (i ∷ is) = ap (λ (l : List Intake). i ∷ l) (changed_none c is)

-- It was the last change of the admission, which leaves its ring.
pub head_represents_whole : (Tree : TreeOn) (s : Settings) (settled few : ℕ → List ℕ → Type 0) (head : Contents) (fresh block root : ℕ) (old new : List (List ℕ)) (h : History) (next : Placed Admitted) (later : List (Placed Admitted)) (lane : Lane) (i : Intake)
    → (b : HeadRepresents Tree s few head old h) → IsHistory (moved h (suc h.whole) 0) → waiting h ≡ next ∷ later → length next.item.changes ≤ suc h.some
    → slice_get head.lanes next.collector ≡ Some lane → slice_get h.intakes next.collector ≡ Some i
    → Takes Tree s settled head (head_moved head h.some next 0 fresh block root (slice_set head.lanes next.collector (lane_popped s next.collector lane next.item))) h.some next b.versions old new
    → HeadRepresents Tree s settled (head_moved head h.some next 0 fresh block root (slice_set head.lanes next.collector (lane_popped s next.collector lane next.item))) new (moved h (suc h.whole) 0)
head_represents_whole Tree s settled few head fresh block root old new h next later lane i b right here le at there t =
    let c = next.collector in
    let lane' = lane_popped s next.collector lane next.item in
    let g = moved h (suc h.whole) 0 in
    let waits : waiting g ≡ later = drop_next h.whole (all_of h) next later here in
    let n = b.lanes_number in
    let own = lane_framed s old new c lane i (part c (waiting h)) t.changes.count (beyond c (let w = slice_get_within head.lanes c lane at in omega arith)) (b.lanes c lane i at there) in
    let first : part c (waiting h) ≡ next.item ∷ part c later = ap (part c) here ∙ rw (eq-eqb c c refl) refl in
    let held = subst (LaneHolds s new c lane) first own.holds in
    let fits : length (entry next.item) ≤ lane.used = (let size = holds_size s new c lane (next.item ∷ part c later) held in let both = length-append (entry next.item) (flat_map entry (part c later)) in omega arith) in
    let place = is_ring_popped (length new) (ring_of s c lane) next.item fits own.place in
    let holds = holds_after s new c lane next.item (part c later) own.place.start own.place.used held in
    moved_with Tree s settled few head h.some fresh block root (slice_set head.lanes c lane') old new h g next b right refl (timed_whole h next later here le) t (length-set head.lanes c lane')
    (lanes_changed s old new h g c (λ j. j) head.lanes lane' i (sym (changed_none c h.intakes)) there (slice_get_within head.lanes c lane at) b.lanes
    (record { offered = own.offered; admitted = own.admitted; mark = own.mark; place = place; since = own.since; holds = subst (λ l. LaneHolds s new c lane' (part c l)) (sym waits) holds })
    t.changes.count
    (λ k ne lt. beyond k (omega arith))
    (λ k j ne had. ap (part k) waits ∙ sym (ap (part k) here ∙ rw (ne_eqb c k (λ e. ne (sym e))) refl)))
  where
    beyond : (k : ℕ) → k < s.collectors → SamePages (ring_low s k) (ring_low s k + s.ring) old new
    beyond k lt m ge below = let r = ring_before_tree s k lt in t.changes.below m (omega arith)
