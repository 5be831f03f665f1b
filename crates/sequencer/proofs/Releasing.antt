-- The first lane's first time is the first of all that waits.
use Rattle.std.proofs.Common.{◌≡◌, ℕ, ◌<◌, ◌≤◌, List, [], ◌∷◌, length, get_or, refl, sym, ap, ◌∙◌, subst, arith, Some, suc}
use Rattle.std.specs.List.{AllByRecursion, slice_get, slice_set}
use Rattle.route_meaning.specs.Merged.{by_time}
use Rattle.route_meaning.specs.Merged.{Placed, placed, all_placed, merged, IsRising}
use Rattle.route_meaning.proofs.api.Sorting.{all_weaker, rises_by_time}
use Rattle.route_meaning.proofs.api.OneOrder.{merged-first}
use Rattle.sequencer.specs.Lanes.{Waiting, waiting_times, in_order, IsOpen, IsLane, NoneOpen, Releases}
use Rattle.sequencer.specs.First.{IsFirstLane}
use Rattle.sequencer.specs.inner.Searching.{NoneWaits}
use Rattle.sequencer.proofs.Firsts.{at_lane, past_end}
use Rattle.sequencer.proofs.api.Setting.{times_set}

pub lane_in : (lanes : List Waiting) (c t : ℕ) → IsFirstLane lanes c t → c < length lanes
lane_in lanes c t f = past_end lanes c (t ∷ f.rest) f.here

pub lane_times : (lanes : List Waiting) (c t : ℕ) (w : Waiting) (f : IsFirstLane lanes c t) → w ≡ get_or lanes c w → w.times ≡ t ∷ f.rest
lane_times lanes c t w f e = let a = at_lane lanes c w (lane_in lanes c t f) e in let b = f.here in cc

all_rising : (lanes : List Waiting) → AllByRecursion IsLane lanes → AllByRecursion (IsRising (λ t. t)) (waiting_times lanes)
all_rising [] a = tt
all_rising (w ∷ lanes) a = (a.0.rising, all_rising lanes a.1)

next_is : (lanes : List Waiting) (c t : ℕ) (f : IsFirstLane lanes c t) → AllByRecursion IsLane lanes → in_order lanes ≡ placed c t ∷ merged (λ n. n) (slice_set (waiting_times lanes) c f.rest)
next_is lanes c t f a = merged-first (λ n. n) c (waiting_times lanes) t f.rest f.here f.before (all_rising lanes a)

pub releases : (lanes : List Waiting) (c t room : ℕ) (v : Waiting) → AllByRecursion IsLane lanes → (f : IsFirstLane lanes c t) → IsOpen lanes t → slice_get lanes c ≡ Some v → v.times ≡ t ∷ f.rest → Releases lanes c (slice_set lanes c (record { mark = v.mark; times = f.rest; room = room }))
releases lanes c t room v a f o here first =
    record {
      lane = v;
      time = t;
      rest = f.rest;
      room = room;
      here = here;
      first = first;
      taken = refl;
      next = next_is lanes c t f a ∙ ap (λ l. placed c t ∷ merged (λ n. n) l) (sym (times_set lanes c (record { mark = v.mark; times = f.rest; room = room })));
      below = o;
    }

no_lists : (d : ℕ) (lists : List (List ℕ)) → ((k u : ℕ) (us : List ℕ) → slice_get lists k ≡ Some (u ∷ us) → ⊥) → all_placed d lists ≡ []
no_lists d [] f = refl
no_lists d ([] ∷ lists) f = no_lists (suc d) lists (λ k u us e. f (suc k) u us e)
no_lists d ((x ∷ xs) ∷ lists) f = absurd (f 0 x xs refl)

pub none_waits : (lanes : List Waiting) → NoneWaits lanes → NoneOpen lanes
none_waits lanes n = let e : in_order lanes ≡ [] = ap (by_time (λ (p : Placed ℕ). p.item)) (no_lists 0 (waiting_times lanes) n) in subst (AllByRecursion (λ p. ¬ IsOpen lanes p.item)) (sym e) tt

pub none_open : (lanes : List Waiting) (c t : ℕ) → AllByRecursion IsLane lanes → IsFirstLane lanes c t → ¬ IsOpen lanes t → NoneOpen lanes
none_open lanes c t a f shut =
    let e = next_is lanes c t f a in
    let rising : IsRising (λ (p : Placed ℕ). p.item) (placed c t ∷ merged (λ n. n) (slice_set (waiting_times lanes) c f.rest)) = subst (IsRising (λ (p : Placed ℕ). p.item)) e (rises_by_time (λ (p : Placed ℕ). p.item) (all_placed 0 (waiting_times lanes))) in
    subst (AllByRecursion (λ p. ¬ IsOpen lanes p.item)) (sym e)
    (shut, all_weaker _ _ (λ p h o. shut (all_weaker _ _ (λ w lt. let le : t ≤ p.item = h in let lt' : p.item < w.mark = lt in omega arith) lanes o)) _ rising.0)
