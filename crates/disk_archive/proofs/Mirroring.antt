-- What is kept in memory mirrors the history after each step.
use Rattle.std.proofs.Common.{◌≡◌, ◌≢◌, ◌<◌, ℕ, zero, suc, ◌+◌, List, [], ◌∷◌, ◌++◌, length, map, refl, sym, ◌∙◌, ap, subst, arith, Some}
use Rattle.std.specs.List.{slice_get, slice_set}
use Rattle.std.proofs.lemmas.List.{map-append}
use Rattle.std.proofs.lemmas.Option.{slice_get_within}
use Rattle.route_model.specs.Admission.{Admitted}
use Rattle.route_meaning.specs.Merged.{Placed, part, parts}
use Rattle.route_meaning.specs.Holds.{admitted_time}
use Rattle.route_meaning.specs.History.{Intake, History, IsHistory, waiting, first_or, bounds, settled, least}
use Rattle.sequencer.specs.declared.late.Sieved.{Sieved}
use Rattle.sequencer.specs.Lanes.{Waiting, marks, waiting_times, bound_of, SameLanes, Raises}
use Rattle.sequencer.specs.Late.{greatest, timely}
use Rattle.sequencer.specs.Taking.{IsSieved, TakesIn}
use Rattle.sequencer.proofs.api.Setting.{one_there}
use Rattle.interleaving_core.specs.Steps.{changed, with_batch, with_mark, given, marked}
use Rattle.interleaving_core.proofs.api.Right.{timely-map}
use Rattle.archive_pages.proofs.api.Histories.{length_changed, waits_given, waits_given_other, waits_marked}
use Rattle.disk_archive.specs.Mirrors.{Mirrors}

-- ---- lists

pub map_get : {X Y : Type 0} (f : X → Y) (xs : List X) (c : ℕ) (x : X) → slice_get xs c ≡ Some x → slice_get (map f xs) c ≡ Some (f x)
map_get f [] c x e = cc
map_get f (y ∷ xs) zero x e = let same : y ≡ x = cc in ap (λ z. Some (f z)) same
map_get f (y ∷ xs) (suc c) x e = map_get f xs c x e

pub map_set : {X Y : Type 0} (f : X → Y) (xs : List X) (c : ℕ) (x : X) → map f (slice_set xs c x) ≡ slice_set (map f xs) c (f x)
map_set f [] c x = refl
map_set f (y ∷ xs) zero x = refl
map_set {Y = Y} f (y ∷ xs) (suc c) x = ap (λ (l : List Y). f y ∷ l) (map_set f xs c x)

pub intake_at : (k : ℕ) (is : List Intake) → k < length is → (i : Intake) × (slice_get is k ≡ Some i)
intake_at k [] lt = absurd (omega arith)
intake_at zero (i ∷ is) lt = (i, refl)
intake_at (suc k) (i ∷ is) lt = intake_at k is (omega arith)

pub part_there : {X : Type 0} (k n c : ℕ) (ps : List (Placed X)) → c < n → slice_get (parts k n ps) c ≡ Some (part (k + c) ps)
part_there k zero c ps lt = absurd (omega arith)
part_there {X} k (suc n) zero ps lt = let e : k ≡ k + 0 = omega arith in ap (λ x. Some (part x ps)) e
part_there {X} k (suc n) (suc c) ps lt = let e : suc k + c ≡ k + suc c = omega arith in part_there (suc k) n c ps (omega arith) ∙ ap (λ x. Some (part x ps)) e

-- ---- what is there of a collector

pub mark_there : (lanes : List Waiting) (h : History) (c : ℕ) (i : Intake) → Mirrors lanes h → slice_get h.intakes c ≡ Some i → slice_get (marks lanes) c ≡ Some i.mark
mark_there lanes h c i m here = ap (λ l. slice_get l c) m.marks ∙ map_get (λ (j : Intake). j.mark) h.intakes c i here

pub times_there : (lanes : List Waiting) (h : History) (c : ℕ) → Mirrors lanes h → c < length h.intakes → slice_get (waiting_times lanes) c ≡ Some (map admitted_time (part c (waiting h)))
times_there lanes h c m lt =
    let e : 0 + c ≡ c = omega arith in
    ap (λ l. slice_get l c) m.times ∙ (map_get (map admitted_time) (parts 0 (length h.intakes) (waiting h)) c (part (0 + c) (waiting h)) (part_there 0 (length h.intakes) c (waiting h) lt) ∙ ap (λ x. Some (map admitted_time (part x (waiting h)))) e)

pub mirror_same : (lanes new : List Waiting) (h : History) → SameLanes lanes new → Mirrors lanes h → Mirrors new h
mirror_same lanes new h same m = record { marks = same.marks ∙ m.marks; times = same.times ∙ m.times }

-- ---- the settled watermark

bound_is : (w : Waiting) (mark : ℕ) (waits : List Admitted) → w.mark ≡ mark → w.times ≡ map admitted_time waits → bound_of w ≡ first_or admitted_time mark waits
bound_is w mark [] m e = rw e m
bound_is w mark (a ∷ others) m e = rw e refl

bounds_are : (c : ℕ) (lanes : List Waiting) (is : List Intake) (ps : List (Placed Admitted)) → marks lanes ≡ map (λ i. i.mark) is → waiting_times lanes ≡ map (map admitted_time) (parts c (length is) ps) → map bound_of lanes ≡ bounds c is ps
bounds_are c [] [] ps m t = refl
bounds_are c [] (i ∷ is) ps m t = cc
bounds_are c (w ∷ lanes) [] ps m t = cc
bounds_are c (w ∷ lanes) (i ∷ is) ps m t =
    let mark : w.mark ≡ i.mark = cc in
    let marks' : marks lanes ≡ map (λ j. j.mark) is = cc in
    let times : w.times ≡ map admitted_time (part c ps) = cc in
    let times' : waiting_times lanes ≡ map (map admitted_time) (parts (suc c) (length is) ps) = cc in
    ap (λ (n : ℕ). n ∷ map bound_of lanes) (bound_is w i.mark (part c ps) mark times)
    ∙ ap (λ (l : List ℕ). first_or admitted_time i.mark (part c ps) ∷ l) (bounds_are (suc c) lanes is ps marks' times')

pub mirror_settled : (lanes : List Waiting) (h : History) → Mirrors lanes h → least (map bound_of lanes) ≡ settled h
mirror_settled lanes h m = ap least (bounds_are 0 lanes h.intakes (waiting h) m.marks m.times)

-- ---- a batch is given

same_parts : (d n : ℕ) (v w : List (Placed Admitted)) → ((k : ℕ) → k < n → part (d + k) w ≡ part (d + k) v) → parts d n w ≡ parts d n v
same_parts d zero v w each = refl
same_parts d (suc n) v w each =
    let e : d + 0 ≡ d = omega arith in
    ap (λ l. l ∷ parts (suc d) n w) (subst (λ k. part k w ≡ part k v) e (each 0 (omega arith)))
    ∙ ap (λ l. part d v ∷ l) (same_parts (suc d) n v w (λ k low. let f : d + suc k ≡ suc d + k = omega arith in subst (λ j. part j w ≡ part j v) f (each (suc k) (omega arith))))

pub parts_changed : (d n c : ℕ) (v w : List (Placed Admitted)) (xs : List Admitted) → c < n → part (d + c) w ≡ xs → ((k : ℕ) → k < n → k ≢ c → part (d + k) w ≡ part (d + k) v) → parts d n w ≡ slice_set (parts d n v) c xs
parts_changed d zero c v w xs lt here others = absurd (omega arith)
parts_changed d (suc n) zero v w xs lt here others =
    let e : d + 0 ≡ d = omega arith in
    ap (λ l. l ∷ parts (suc d) n w) (subst (λ k. part k w ≡ xs) e here)
    ∙ ap (λ l. xs ∷ l) (same_parts (suc d) n v w (λ k low. let f : d + suc k ≡ suc d + k = omega arith in subst (λ j. part j w ≡ part j v) f (others (suc k) (omega arith) (λ z. cc))))
parts_changed d (suc n) (suc c) v w xs lt here others =
    let e : d + 0 ≡ d = omega arith in
    let f : d + suc c ≡ suc d + c = omega arith in
    ap (λ l. l ∷ parts (suc d) n w) (subst (λ k. part k w ≡ part k v) e (others 0 (omega arith) (λ z. cc)))
    ∙ ap (λ l. part d v ∷ l) (parts_changed (suc d) n c v w xs (omega arith) (subst (λ k. part k w ≡ xs) f here) (λ k low ne. let g : d + suc k ≡ suc d + k = omega arith in subst (λ j. part j w ≡ part j v) g (others (suc k) (omega arith) (λ z. ne (omega (arith, z))))))

marks_given : (c : ℕ) (batch : List Admitted) (is : List Intake) (i : Intake) → slice_get is c ≡ Some i → map (λ j. j.mark) (changed c (with_batch batch) is) ≡ slice_set (map (λ j. j.mark) is) c (greatest i.mark (map admitted_time batch))
marks_given c batch [] i e = cc
marks_given zero batch (j ∷ is) i e = let same : j ≡ i = cc in ap (λ (x : Intake). greatest x.mark (map admitted_time batch) ∷ map (λ y. y.mark) is) same
marks_given (suc c) batch (j ∷ is) i e = ap (λ l. j.mark ∷ l) (marks_given c batch is i e)

pub times_at : (lanes : List Waiting) (c : ℕ) (w : Waiting) → slice_get lanes c ≡ Some w → slice_get (waiting_times lanes) c ≡ Some w.times
times_at lanes c w e = map_get (λ (x : Waiting). x.times) lanes c w e

mirror_with : (lanes new : List Waiting) (h : History) (c : ℕ) (batch : List Admitted) (i : Intake) → IsHistory h → IsHistory (given h c batch) → slice_get h.intakes c ≡ Some i → Mirrors lanes h
    → marks new ≡ slice_set (marks lanes) c (greatest i.mark (map admitted_time batch))
    → waiting_times new ≡ slice_set (waiting_times lanes) c (map admitted_time (part c (waiting h)) ++ map admitted_time (timely admitted_time i.mark [] batch))
    → Mirrors new (given h c batch)
mirror_with lanes new h c batch i right right' here m marks_are times_are =
    let g = given h c batch in
    let n = length h.intakes in
    let low = slice_get_within h.intakes c i here in
    let late = timely admitted_time i.mark [] batch in
    let z = λ (k : ℕ). let e : k ≡ 0 + k = omega arith in e in
    let all : parts 0 n (waiting g) ≡ slice_set (parts 0 n (waiting h)) c (part c (waiting h) ++ late) =
    parts_changed 0 n c (waiting h) (waiting g) (part c (waiting h) ++ late) low (subst (λ k. part k (waiting g) ≡ part c (waiting h) ++ late) (z c) (waits_given h c batch right right' i here))
    (λ k lt ne. let j = intake_at k h.intakes lt in subst (λ x. part x (waiting g) ≡ part x (waiting h)) (z k) (waits_given_other h c k batch right right' ne j.0 j.1)) in
    record {
      marks = marks_are ∙ (ap (λ l. slice_set l c (greatest i.mark (map admitted_time batch))) m.marks ∙ sym (marks_given c batch h.intakes i here));
      times = times_are ∙ (ap (λ l. slice_set l c (map admitted_time (part c (waiting h)) ++ map admitted_time late)) m.times
          ∙ (ap (slice_set (map (map admitted_time) (parts 0 n (waiting h))) c) (sym (map-append admitted_time (part c (waiting h)) late))
          ∙ (sym (map_set (map admitted_time) (parts 0 n (waiting h)) c (part c (waiting h) ++ late))
          ∙ (ap (map (map admitted_time)) (sym all) ∙ ap (λ k. map (map admitted_time) (parts 0 k (waiting g))) (sym (length_changed c (with_batch batch) h.intakes))))));
    }

-- What was sieved of a batch is taken in.
pub mirror_given : (lanes mid new : List Waiting) (h : History) (c : ℕ) (batch : List Admitted) (i : Intake) (s : Sieved) → IsHistory h → IsHistory (given h c batch) → slice_get h.intakes c ≡ Some i → Mirrors lanes h
    → SameLanes lanes mid → TakesIn mid c s new → IsSieved i.mark (map admitted_time batch) s → Mirrors new (given h c batch)
mirror_given lanes mid new h c batch i s right right' here m same takes sieved =
    let low = slice_get_within h.intakes c i here in
    let mark = i.mark in
    let before = map admitted_time (part c (waiting h)) in
    let at : slice_get (waiting_times lanes) c ≡ Some takes.lane.times = ap (λ (l : List (List ℕ)). slice_get l c) (sym same.times) ∙ times_at mid c takes.lane takes.here in
    let before_is : takes.lane.times ≡ before = one_there (slice_get (waiting_times lanes) c) takes.lane.times before at (times_there lanes h c m low) in
    let kept : s.timely.items ≡ map admitted_time (timely admitted_time mark [] batch) = sieved.timely ∙ timely-map admitted_time mark [] batch in
    mirror_with lanes new h c batch i right right' here m
    (takes.marks ∙ (ap (λ (l : List ℕ). slice_set l c s.mark) same.marks ∙ ap (slice_set (marks lanes) c) sieved.mark))
    (takes.times ∙ (ap (λ (l : List (List ℕ)). slice_set l c (takes.lane.times ++ s.timely.items)) same.times
    ∙ (ap (λ (l : List ℕ). slice_set (waiting_times lanes) c (l ++ s.timely.items)) before_is
    ∙ ap (λ (l : List ℕ). slice_set (waiting_times lanes) c (before ++ l)) kept)))

-- ---- a mark is raised

marks_marked : (c mark : ℕ) (is : List Intake) → map (λ j. j.mark) (changed c (with_mark mark) is) ≡ slice_set (map (λ j. j.mark) is) c mark
marks_marked c mark [] = refl
marks_marked zero mark (j ∷ is) = refl
marks_marked (suc c) mark (j ∷ is) = ap (λ l. j.mark ∷ l) (marks_marked c mark is)

pub mirror_marked : (lanes new : List Waiting) (h : History) (c mark : ℕ) → Mirrors lanes h → Raises lanes c mark new → Mirrors new (marked h c mark)
mirror_marked lanes new h c mark m raises = record {
  marks = raises.marks ∙ (ap (λ l. slice_set l c mark) m.marks ∙ sym (marks_marked c mark h.intakes));
  times = raises.times ∙ (m.times ∙ (ap (λ k. map (map admitted_time) (parts 0 k (waiting h))) (sym (length_changed c (with_mark mark) h.intakes)) ∙ ap (λ w. map (map admitted_time) (parts 0 (length (marked h c mark).intakes) w)) (sym (waits_marked h c mark))));
}

pub mark_at : (lanes : List Waiting) (c : ℕ) → c < length lanes → (mark : ℕ) × (slice_get (marks lanes) c ≡ Some mark)
mark_at [] c lt = absurd (omega arith)
mark_at (w ∷ lanes) zero lt = (w.mark, refl)
mark_at (w ∷ lanes) (suc c) lt = mark_at lanes c (omega arith)
