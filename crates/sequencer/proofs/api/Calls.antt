-- What the calls of a sequencer leave, where its lanes are those inside and one of them was set.
use Rattle.std.proofs.Common.{◌≡◌, ℕ, ◌<◌, ◌≤◌, List, [], ◌∷◌, ◌++◌, length, get_or, true, false, zero, suc, sym, ap, ◌∙◌, subst, arith, Some, Result, Ok, Err, IfOk}
use Rattle.std.specs.List.{AllByRecursion, slice_get, slice_set}
use Rattle.route_meaning.specs.Merged.{IsRising}
use Rattle.sequencer.specs.declared.late.Sieved.{Sieved}
use Rattle.sequencer.specs.Late.{greatest, timely, lates}
use Rattle.sequencer.specs.Lanes.{Waiting, marks, waiting_times, IsLane, IsOpen, Releases, SameLanes, Raises, HasMarkAbove}
use Rattle.sequencer.specs.First.{IsFirstLane}
use Rattle.sequencer.specs.Taking.{IsSieved, MayTakeIn, TakesIn}
use Rattle.sequencer.proofs.api.Setting.{get_some, marks_at, marks_set, times_set, marks_same, times_same, all_set, all_at, set_there, one_there}
use Rattle.sequencer.proofs.api.Rising.{few_timely, taken_in, popped}
use Rattle.sequencer.proofs.Releasing.{lane_in, lane_times, releases}

-- a lane with this mark and these times
is_lane : (w : Waiting) (mark : ℕ) (times : List ℕ) → w.mark ≡ mark → w.times ≡ times → IsLane (record { mark = mark; times = times; room = w.room }) → IsLane w
is_lane w mark times m t is =
    record {
      rising = subst (IsRising (λ n. n)) (sym t) is.rising;
      below = subst (λ (n : ℕ). AllByRecursion (λ u. u ≤ n) w.times) (sym m) (subst (AllByRecursion (λ u. u ≤ mark)) (sym t) is.below);
    }

pub raises_lanes : (lanes : List Waiting) (c mark : ℕ) (v w : Waiting) → c < length lanes → v ≡ get_or lanes c v → v.mark ≤ mark → w.mark ≡ mark → w.times ≡ v.times → Raises lanes c mark (slice_set lanes c w)
raises_lanes lanes c mark v w lt is le m t =
    let here = get_some lanes c v lt is in
    record { lane = v; here = here; not_back = le; marks = marks_set lanes c w ∙ ap (slice_set (marks lanes) c) m; times = times_same lanes c v w here t }

pub not_above : (lanes : List Waiting) (c mark : ℕ) (v : Waiting) → c < length lanes → v ≡ get_or lanes c v → v.mark ≤ mark → HasMarkAbove lanes c mark → false ≡ true
not_above lanes c mark v lt is le above =
    let same : above.lane ≡ v = one_there (slice_get lanes c) above.lane v above.here (get_some lanes c v lt is) in
    let marks_are : above.lane.mark ≡ v.mark = ap (λ (w : Waiting). w.mark) same in
    let high = above.above in
    absurd (omega arith)

pub same_lanes : (lanes : List Waiting) (c : ℕ) (v w : Waiting) → c < length lanes → v ≡ get_or lanes c v → w.mark ≡ v.mark → w.times ≡ v.times → SameLanes lanes (slice_set lanes c w)
same_lanes lanes c v w lt is m t =
    let here = get_some lanes c v lt is in
    record { marks = marks_same lanes c v w here m; times = times_same lanes c v w here t }

pub same_right : (lanes : List Waiting) (c : ℕ) (v w : Waiting) → c < length lanes → v ≡ get_or lanes c v → w.mark ≡ v.mark → w.times ≡ v.times → AllByRecursion IsLane lanes → AllByRecursion IsLane (slice_set lanes c w)
same_right lanes c v w lt is m t all =
    let at = all_at IsLane lanes c v all (get_some lanes c v lt is) in
    all_set IsLane lanes c w all (is_lane w v.mark v.times m t (record { rising = at.rising; below = at.below }))

-- what was sieved at the mark of a lane that is set may be taken in
pub ready : (lanes : List Waiting) (c : ℕ) (s : Sieved) (w : Waiting) (times : List ℕ) → c < length lanes → IsSieved w.mark times s → length times ≤ w.room → MayTakeIn (slice_set lanes c w) c s
ready lanes c s w times lt sieved room =
    record { lane = w; here = set_there lanes c w lt; times = times; sieved = sieved; room = (let few = few_timely w.mark [] times in let e = ap (λ (l : List ℕ). length l) sieved.timely in omega (arith, few, e)) }

pub at_mark : (lanes : List Waiting) (c : ℕ) (s : Sieved) (v w : Waiting) (times : List ℕ) → c < length lanes → v ≡ get_or lanes c v → w.mark ≡ v.mark → IsSieved w.mark times s → (mark : ℕ) → slice_get (marks lanes) c ≡ Some mark → IsSieved mark times s
at_mark lanes c s v w times lt is m sieved mark here =
    let same : v.mark ≡ mark = one_there (slice_get (marks lanes) c) v.mark mark (marks_at lanes c v (get_some lanes c v lt is)) here in
    subst (λ (n : ℕ). IsSieved n times s) (m ∙ same) sieved

pub all_sieved : {E : Type 0} (r : Result Sieved E) (mark : ℕ) (times : List ℕ) → IfOk r (λ s. s.timely.items ≡ timely (λ t. t) mark [] times) → IfOk r (λ s. s.late.items ≡ lates (λ t. t) mark [] 0 times) → IfOk r (λ s. s.mark ≡ greatest mark times) → IfOk r (IsSieved mark times)
all_sieved (Ok s) mark times timely_is late_is mark_is = record { timely = timely_is; late = late_is; mark = mark_is }
all_sieved (Err e) mark times timely_is late_is mark_is = tt

pub if_ok : {A E : Type 0} (P Q : A → Type 0) (r : Result A E) → ((x : A) → P x → Q x) → IfOk r P → IfOk r Q
if_ok P Q (Ok x) f p = f x p
if_ok P Q (Err e) f p = tt

pub takes_in : (lanes : List Waiting) (c : ℕ) (s : Sieved) (v w : Waiting) → c < length lanes → v ≡ get_or lanes c v → w.mark ≡ s.mark → w.times ≡ v.times ++ s.timely.items → TakesIn lanes c s (slice_set lanes c w)
takes_in lanes c s v w lt is m t =
    record { lane = v; here = get_some lanes c v lt is; marks = marks_set lanes c w ∙ ap (slice_set (marks lanes) c) m; times = times_set lanes c w ∙ ap (slice_set (waiting_times lanes) c) t }

pub taken_right : (lanes : List Waiting) (c : ℕ) (s : Sieved) (v w : Waiting) (present : MayTakeIn lanes c s) → c < length lanes → v ≡ get_or lanes c v → w.mark ≡ s.mark → w.times ≡ v.times ++ s.timely.items → AllByRecursion IsLane lanes → AllByRecursion IsLane (slice_set lanes c w)
taken_right lanes c s v w present lt is m t all =
    let here = get_some lanes c v lt is in
    let same : present.lane ≡ v = one_there (slice_get lanes c) present.lane v present.here here in
    let sieved = subst (λ (x : Waiting). IsSieved x.mark present.times s) same present.sieved in
    all_set IsLane lanes c w all
    (is_lane w (greatest v.mark present.times) (v.times ++ timely (λ n. n) v.mark [] present.times) (m ∙ sieved.mark) (t ∙ ap (λ (l : List ℕ). v.times ++ l) sieved.timely) (taken_in v w.room present.times (all_at IsLane lanes c v all here)))

pub inside : (lanes : List Waiting) (c : ℕ) (s : Sieved) → MayTakeIn lanes c s → c < length lanes
inside lanes c s present = below lanes c present.lane present.here
  where
    below : (ws : List Waiting) (n : ℕ) (w : Waiting) → slice_get ws n ≡ Some w → n < length ws
    below [] n w e = cc
    below (u ∷ ws) zero w e = omega arith
    below (u ∷ ws) (suc n) w e = let ih = below ws n w e in omega (arith, ih)

pub room_is : (lanes : List Waiting) (c : ℕ) (s : Sieved) (v : Waiting) (present : MayTakeIn lanes c s) → v ≡ get_or lanes c v → length s.timely.items ≤ v.room
room_is lanes c s v present is =
    let same : present.lane ≡ v = one_there (slice_get lanes c) present.lane v present.here (get_some lanes c v (inside lanes c s present) is) in
    subst (λ (x : Waiting). length s.timely.items ≤ x.room) same present.room

-- ---- releasing

pub first_in : (lanes : List Waiting) (c t : ℕ) → IsFirstLane lanes c t → c < length lanes
first_in lanes c t f = lane_in lanes c t f

pub pops : (lanes : List Waiting) (c t : ℕ) (v w : Waiting) → AllByRecursion IsLane lanes → IsFirstLane lanes c t → IsOpen lanes t → v ≡ get_or lanes c v → w.mark ≡ v.mark → ((time : ℕ) (rest : List ℕ) → v.times ≡ time ∷ rest → w.times ≡ rest) → Releases lanes c (slice_set lanes c w)
pops lanes c t v w all f below is m ts =
    let first = lane_times lanes c t v f is in
    let here = get_some lanes c v (lane_in lanes c t f) is in
    let new : w ≡ record { mark = v.mark; times = f.rest; room = w.room } = lane_is w v.mark f.rest m (ts t f.rest first) in
    subst (λ (x : Waiting). Releases lanes c (slice_set lanes c x)) (sym new) (releases lanes c t w.room v all f below here first)
  where
    lane_is : (x : Waiting) (mark : ℕ) (times : List ℕ) → x.mark ≡ mark → x.times ≡ times → x ≡ record { mark = mark; times = times; room = x.room }
    lane_is x mark times e d = λ i. record { mark = e i; times = d i; room = x.room }

pub popped_right : (lanes : List Waiting) (c t : ℕ) (v w : Waiting) → AllByRecursion IsLane lanes → IsFirstLane lanes c t → v ≡ get_or lanes c v → w.mark ≡ v.mark → ((time : ℕ) (rest : List ℕ) → v.times ≡ time ∷ rest → w.times ≡ rest) → AllByRecursion IsLane (slice_set lanes c w)
popped_right lanes c t v w all f is m ts =
    let first = lane_times lanes c t v f is in
    let here = get_some lanes c v (lane_in lanes c t f) is in
    all_set IsLane lanes c w all (is_lane w v.mark f.rest m (ts t f.rest first) (popped v t f.rest w.room first (all_at IsLane lanes c v all here)))
