-- What the head keeps of the collectors, and their rings, before and after a step.
use Rattle.std.proofs.Common.{◌≡◌, ◌≢◌, ◌<◌, ◌≤◌, ℕ, zero, suc, ◌+◌, ◌*◌, List, [], ◌∷◌, length, refl, sym, ◌∙◌, ap, subst, inl, inr, arith, Some}
use Rattle.std.specs.List.{slice_get, slice_set}
use Rattle.std.proofs.Math.Nat.{mul-le-mul_right}
use Rattle.std.proofs.lemmas.Bool.{cases_eq}
use Rattle.std.proofs.lemmas.Option.{slice_get_within}
use Rattle.route_model.specs.Admission.{Admitted}
use Rattle.route_meaning.specs.Merged.{part}
use Rattle.route_meaning.specs.History.{Intake, History, waiting}
use Rattle.interleaving_core.specs.Steps.{changed}
use Rattle.archive_head.specs.declared.lane.Lane.{Lane}
use Rattle.intake.specs.Ring.{IsRing}
use Rattle.archive_pages.specs.declared.settings.Settings.{Settings}
use Rattle.archive_pages.specs.Places.{SamePages, ring_low, ring_of, tree_low}
use Rattle.archive_pages.specs.Represented.{LaneRepresents}
use Rattle.archive_pages.proofs.api.Histories.{changed_there, changed_other}
use Rattle.archive_pages.proofs.api.Stored.{holds_framed}

-- ---- where the parts of the map lie

pub rings_apart : (s : Settings) (c k : ℕ) → c < k → ring_low s c + s.ring ≤ ring_low s k
rings_apart s c k lt = let le : suc c * s.ring ≤ k * s.ring = mul-le-mul_right s.ring lt in omega (arith, le)

pub ring_before_tree : (s : Settings) (c : ℕ) → c < s.collectors → ring_low s c + s.ring ≤ tree_low s
ring_before_tree s c lt = let le : suc c * s.ring ≤ s.collectors * s.ring = mul-le-mul_right s.ring lt in omega (arith, le)

-- ---- lanes

pub lane_framed : (s : Settings) (old new : List (List ℕ)) (c : ℕ) (lane : Lane) (i : Intake) (waits : List Admitted) → length new ≡ length old → SamePages (ring_low s c) (ring_low s c + s.ring) old new → LaneRepresents s old c lane i waits → LaneRepresents s new c lane i waits
lane_framed s old new c lane i waits len same l = record {
  offered = l.offered;
  admitted = l.admitted;
  mark = l.mark;
  place = subst (λ n. IsRing n (ring_of s c lane)) (sym len) l.place;
  since = l.since;
  holds = holds_framed s old c lane new waits l.place same l.holds;
}

pub lane_as : (s : Settings) (pages : List (List ℕ)) (c k : ℕ) (lane lane' : Lane) (i i' : Intake) (w w' : List Admitted) → k ≡ c → lane' ≡ lane → i' ≡ i → w' ≡ w → LaneRepresents s pages c lane i w → LaneRepresents s pages k lane' i' w'
lane_as s pages c k lane lane' i i' w w' ck el ei ew l =
    subst (λ n. LaneRepresents s pages n lane' i' w') (sym ck)
    (subst (λ (x : Lane). LaneRepresents s pages c x i' w') (sym el)
    (subst (λ (x : Intake). LaneRepresents s pages c lane x w') (sym ei)
    (subst (λ (x : List Admitted). LaneRepresents s pages c lane i x) (sym ew) l)))

got_there : {X : Type 0} (xs : List X) (c : ℕ) (x y : X) → c < length xs → slice_get (slice_set xs c x) c ≡ Some y → y ≡ x
got_there [] c x y lt e = absurd (omega arith)
got_there (z ∷ xs) zero x y lt e = cc
got_there (z ∷ xs) (suc c) x y lt e = got_there xs c x y (omega arith) e

got_other : {X : Type 0} (xs : List X) (c k : ℕ) (x : X) → k ≢ c → slice_get (slice_set xs c x) k ≡ slice_get xs k
got_other [] c k x ne = refl
got_other (z ∷ xs) zero zero x ne = absurd (ne refl)
got_other (z ∷ xs) zero (suc k) x ne = refl
got_other (z ∷ xs) (suc c) zero x ne = refl
got_other (z ∷ xs) (suc c) (suc k) x ne = got_other xs c k x (λ e. ne (ap suc e))

same_one : (o p : Intake) (f : Intake → Intake) (is : List Intake) (c k : ℕ) → k ≡ c → slice_get is c ≡ Some o → slice_get (changed c f is) k ≡ Some p → p ≡ f o
same_one o p f is c k e here there =
    let a : slice_get (changed c f is) k ≡ Some (f o) = ap (slice_get (changed c f is)) e ∙ changed_there c f is o here in
    cc

-- Each lane stands after one of them was replaced.
pub lanes_changed : (s : Settings) (old new : List (List ℕ)) (h g : History) (c : ℕ) (f : Intake → Intake) (lanes : List Lane) (lane : Lane) (i : Intake)
    → g.intakes ≡ changed c f h.intakes → slice_get h.intakes c ≡ Some i → c < length lanes
    → ((k : ℕ) (l : Lane) (j : Intake) → slice_get lanes k ≡ Some l → slice_get h.intakes k ≡ Some j → LaneRepresents s old k l j (part k (waiting h)))
    → LaneRepresents s new c lane (f i) (part c (waiting g))
    → length new ≡ length old → ((k : ℕ) → k ≢ c → k < length lanes → SamePages (ring_low s k) (ring_low s k + s.ring) old new)
    → ((k : ℕ) (j : Intake) → k ≢ c → slice_get h.intakes k ≡ Some j → part k (waiting g) ≡ part k (waiting h))
    → (k : ℕ) (l : Lane) (j : Intake) → slice_get (slice_set lanes c lane) k ≡ Some l → slice_get g.intakes k ≡ Some j → LaneRepresents s new k l j (part k (waiting g))
lanes_changed s old new h g c f lanes lane i is here lt stand own len same others k l j at there =
    let there' : slice_get (changed c f h.intakes) k ≡ Some j = ap (λ (x : List Intake). slice_get x k) (sym is) ∙ there in
    elim (cases_eq k c) [
      | inl e ↦
          let at' : slice_get (slice_set lanes c lane) c ≡ Some l = ap (slice_get (slice_set lanes c lane)) (sym e) ∙ at in
          lane_as s new c k lane l (f i) j (part c (waiting g)) (part k (waiting g)) e (got_there lanes c lane l lt at') (same_one i j f h.intakes c k e here there') (ap (λ n. part n (waiting g)) e) own
      | inr ne ↦
          let was : slice_get lanes k ≡ Some l = sym (got_other lanes c k lane ne) ∙ at in
          let had : slice_get h.intakes k ≡ Some j = sym (changed_other c k f h.intakes ne) ∙ there' in
          lane_as s new k k l l j j (part k (waiting h)) (part k (waiting g)) refl refl refl (others k j ne had)
          (lane_framed s old new k l j (part k (waiting h)) len (same k ne (slice_get_within lanes k l was)) (stand k l j was had))
    ]
