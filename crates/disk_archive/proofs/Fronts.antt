-- The collector that is next by what is kept in memory gave the first admission that waits, and its time leaves when it is wholly applied.
use Rattle.std.proofs.Common.{◌≡◌, ◌<◌, ◌≤◌, ℕ, zero, suc, ◌+◌, List, [], ◌∷◌, ◌++◌, length, drop, map, Bool, true, false, leb, eqb, refl, sym, ◌∙◌, ap, subst, inl, inr, arith, Some}
use Rattle.std.specs.List.{AllByRecursion, slice_get, slice_set}
use Rattle.std.proofs.lemmas.Bool.{cases_Bool, eq-eqb, ne_eqb}
use Rattle.std.proofs.lemmas.List.{map-append}
use Rattle.route_model.specs.Admission.{Admitted}
use Rattle.route_meaning.specs.Holds.{admitted_time, time_of}
use Rattle.route_meaning.specs.Merged.{Placed, placed, insert_by, by_time, all_placed, merged, part, parts, IsInOrder, IsRising}
use Rattle.route_meaning.specs.History.{Intake, History, IsBelowMarks, all_of, waiting}
use Rattle.route_meaning.proofs.api.Sorting.{all_weaker, all_by_time}
use Rattle.route_meaning.proofs.api.OneOrder.{merged-parts, merged-first, IsInOrder-merged}
use Rattle.route_meaning.proofs.api.Settling.{all_drop, all_placed_within}
use Rattle.sequencer.specs.Lanes.{Waiting, marks, waiting_times, in_order, IsOpen, NoneOpen, Releases}
use Rattle.sequencer.specs.First.{IsNext}
use Rattle.sequencer.proofs.api.Setting.{one_there, marks_same, times_set}
use Rattle.interleaving_core.specs.Steps.{NothingToApply, moved}
use Rattle.disk_archive.specs.Mirrors.{Mirrors}
use Rattle.disk_archive.proofs.Mirroring.{map_set, parts_changed, times_there, times_at}

-- ---- what waits is in one order

in_order_drop : (n : ℕ) (ps : List (Placed Admitted)) → IsInOrder admitted_time ps → IsInOrder admitted_time (drop n ps)
in_order_drop zero ps o = o
in_order_drop (suc n) [] o = tt
in_order_drop (suc n) (p ∷ ps) o = in_order_drop n ps o.1

length_map : {X Y : Type 0} (f : X → Y) (xs : List X) → length (map f xs) ≡ length xs
length_map f [] = refl
length_map f (x ∷ xs) = ap suc (length_map f xs)

waits_in_order : (h : History) → IsInOrder admitted_time (waiting h)
waits_in_order h = in_order_drop h.whole (all_of h) (IsInOrder-merged admitted_time (map (λ (i : Intake). i.admitted) h.intakes))

waits_within : (h : History) → AllByRecursion (λ p. p.collector < length h.intakes) (waiting h)
waits_within h =
    let lists = map (λ (i : Intake). i.admitted) h.intakes in
    let n : length lists ≡ length h.intakes = length_map (λ (i : Intake). i.admitted) h.intakes in
    all_weaker _ _ (λ p b. let lt : p.collector < 0 + length lists = b.1 in omega (arith, lt, n)) (waiting h)
    (all_drop _ h.whole (all_of h) (all_by_time time_of _ (all_placed 0 lists) (all_placed_within 0 lists)))

waits_merged : (h : History) → merged admitted_time (parts 0 (length h.intakes) (waiting h)) ≡ waiting h
waits_merged h = merged-parts admitted_time (length h.intakes) (waiting h) (waits_in_order h) (waits_within h)

later_part : (c t : ℕ) (ps : List (Placed Admitted)) → AllByRecursion (λ p. t ≤ time_of p) ps → AllByRecursion (λ a. t ≤ admitted_time a) (part c ps)
later_part c t [] all = tt
later_part c t (p ∷ ps) all = elim (cases_Bool (eqb p.collector c)) [
  | inl e ↦ rw e (all.0, later_part c t ps all.1)
  | inr e ↦ rw e (later_part c t ps all.1)
]

part_rises : (c : ℕ) (ps : List (Placed Admitted)) → IsInOrder admitted_time ps → IsRising admitted_time (part c ps)
part_rises c [] o = tt
part_rises c (p ∷ ps) o =
    let later : AllByRecursion (λ q. time_of p ≤ time_of q) ps = all_weaker _ _ (λ q b. elim b [ inl lt ↦ omega (arith, lt) | inr e ↦ (let same = e.0 in omega (arith, same)) ]) ps o.0 in
    elim (cases_Bool (eqb p.collector c)) [
      | inl e ↦ rw e (later_part c (time_of p) ps later, part_rises c ps o.1)
      | inr e ↦ rw e (part_rises c ps o.1)
    ]

parts_rise : (c n : ℕ) (ps : List (Placed Admitted)) → IsInOrder admitted_time ps → AllByRecursion (IsRising admitted_time) (parts c n ps)
parts_rise c zero ps o = tt
parts_rise c (suc n) ps o = (part_rises c ps o, parts_rise (suc c) n ps o)

-- ---- times alone

insert_timed : (p : Placed Admitted) (ps : List (Placed Admitted)) → insert_by (λ (q : Placed ℕ). q.item) (placed p.collector p.item.time) (map (λ (q : Placed Admitted). placed q.collector q.item.time) ps) ≡ map (λ (q : Placed Admitted). placed q.collector q.item.time) (insert_by time_of p ps)
insert_timed p [] = refl
insert_timed p (q ∷ qs) = elim (cases_Bool (leb p.item.time q.item.time)) [
  | inl e ↦ rw e refl
  | inr e ↦ rw e (ap (λ (l : List (Placed ℕ)). placed q.collector q.item.time ∷ l) (insert_timed p qs))
]

by_time_timed : (ps : List (Placed Admitted)) → by_time (λ (q : Placed ℕ). q.item) (map (λ (q : Placed Admitted). placed q.collector q.item.time) ps) ≡ map (λ (q : Placed Admitted). placed q.collector q.item.time) (by_time time_of ps)
by_time_timed [] = refl
by_time_timed (p ∷ ps) = ap (insert_by (λ (q : Placed ℕ). q.item) (placed p.collector p.item.time)) (by_time_timed ps) ∙ insert_timed p (by_time time_of ps)

placed_timed : (c : ℕ) (waits : List Admitted) → map (placed c) (map admitted_time waits) ≡ map (λ (q : Placed Admitted). placed q.collector q.item.time) (map (placed c) waits)
placed_timed c [] = refl
placed_timed c (a ∷ waits) = ap (λ (l : List (Placed ℕ)). placed c a.time ∷ l) (placed_timed c waits)

all_placed_timed : (c : ℕ) (lists : List (List Admitted)) → all_placed c (map (map admitted_time) lists) ≡ map (λ (q : Placed Admitted). placed q.collector q.item.time) (all_placed c lists)
all_placed_timed c [] = refl
all_placed_timed c (waits ∷ lists) =
    ap (λ (l : List (Placed ℕ)). l ++ all_placed (suc c) (map (map admitted_time) lists)) (placed_timed c waits)
    ∙ (ap (λ (l : List (Placed ℕ)). map (λ (q : Placed Admitted). placed q.collector q.item.time) (map (placed c) waits) ++ l) (all_placed_timed (suc c) lists)
    ∙ sym (map-append (λ (q : Placed Admitted). placed q.collector q.item.time) (map (placed c) waits) (all_placed (suc c) lists)))

order_timed : (lanes : List Waiting) (h : History) → Mirrors lanes h → in_order lanes ≡ map (λ (q : Placed Admitted). placed q.collector q.item.time) (waiting h)
order_timed lanes h m =
    let lists = parts 0 (length h.intakes) (waiting h) in
    ap (λ (l : List (List ℕ)). by_time (λ (q : Placed ℕ). q.item) (all_placed 0 l)) m.times
    ∙ (ap (by_time (λ (q : Placed ℕ). q.item)) (all_placed_timed 0 lists)
    ∙ (by_time_timed (all_placed 0 lists) ∙ ap (map (λ (q : Placed Admitted). placed q.collector q.item.time)) (waits_merged h)))

all_timed : (P : ℕ → Type 0) (ps : List (Placed Admitted)) → AllByRecursion (λ (p : Placed ℕ). P p.item) (map (λ (q : Placed Admitted). placed q.collector q.item.time) ps) → AllByRecursion (λ p. P (time_of p)) ps
all_timed P [] all = tt
all_timed P (p ∷ ps) all = (all.0, all_timed P ps all.1)

-- ---- below every mark

open_below : (t : ℕ) (lanes : List Waiting) (is : List Intake) → marks lanes ≡ map (λ i. i.mark) is → AllByRecursion (λ w. t < w.mark) lanes → AllByRecursion (λ i. t < i.mark) is
open_below t [] [] e all = tt
open_below t [] (i ∷ is) e all = cc
open_below t (w ∷ lanes) [] e all = tt
open_below t (w ∷ lanes) (i ∷ is) e all =
    let mark : w.mark ≡ i.mark = cc in
    let rest : marks lanes ≡ map (λ j. j.mark) is = cc in
    (subst (λ (n : ℕ). t < n) mark all.0, open_below t lanes is rest all.1)

below_open : (t : ℕ) (lanes : List Waiting) (is : List Intake) → marks lanes ≡ map (λ i. i.mark) is → AllByRecursion (λ i. t < i.mark) is → AllByRecursion (λ w. t < w.mark) lanes
below_open t [] is e all = tt
below_open t (w ∷ lanes) [] e all = cc
below_open t (w ∷ lanes) (i ∷ is) e all =
    let mark : w.mark ≡ i.mark = cc in
    let rest : marks lanes ≡ map (λ j. j.mark) is = cc in
    (subst (λ (n : ℕ). t < n) (sym mark) all.0, below_open t lanes is rest all.1)

-- where no time that waits is below every mark, nothing may be applied
pub nothing_is : (lanes : List Waiting) (h : History) → Mirrors lanes h → NoneOpen lanes → NothingToApply h
nothing_is lanes h m none =
    let shut : AllByRecursion (λ p. IsOpen lanes (time_of p) → ⊥) (waiting h) =
    all_timed (λ t. IsOpen lanes t → ⊥) (waiting h) (subst (AllByRecursion (λ (p : Placed ℕ). IsOpen lanes p.item → ⊥)) (order_timed lanes h m) none) in
    all_weaker _ _ (λ p f below. f (below_open (time_of p) lanes h.intakes m.marks below)) (waiting h) shut

-- ---- what is next

-- the first that waits of all is this collector's first, and it is below every mark
pub record IsFront (h : History) (c : ℕ) : Type 0 where
  pub first : Admitted
  pub later : List (Placed Admitted)
  pub next : waiting h ≡ placed c first ∷ later
  pub below : IsBelowMarks h first.time

first_of : (t : ℕ) (ts : List ℕ) (waits : List Admitted) → map admitted_time waits ≡ t ∷ ts → (first : Admitted) × (rest : List Admitted) × (waits ≡ first ∷ rest) × (first.time ≡ t)
first_of t ts [] e = cc
first_of t ts (a ∷ others) e = (a, others, refl, let f : a.time ≡ t = cc in f)

part_at : (c n k : ℕ) (ps : List (Placed Admitted)) (xs : List Admitted) → slice_get (parts c n ps) k ≡ Some xs → (k < n) × (part (c + k) ps ≡ xs)
part_at c zero k ps xs e = cc
part_at c (suc n) zero ps xs e = let same : part c ps ≡ xs = cc in (omega arith, ap (λ m. part m ps) (let z : c + 0 ≡ c = omega arith in z) ∙ same)
part_at c (suc n) (suc k) ps xs e = let r = part_at (suc c) n k ps xs e in let lt = r.0 in (omega (arith, lt), ap (λ m. part m ps) (let z : c + suc k ≡ suc c + k = omega arith in z) ∙ r.1)

part_there : (k n c : ℕ) (ps : List (Placed Admitted)) → c < n → slice_get (parts k n ps) c ≡ Some (part (k + c) ps)
part_there k zero c ps lt = absurd (omega arith)
part_there k (suc n) zero ps lt = let e : k ≡ k + 0 = omega arith in ap (λ x. Some (part x ps)) e
part_there k (suc n) (suc c) ps lt = let e : suc k + c ≡ k + suc c = omega arith in part_there (suc k) n c ps (omega arith) ∙ ap (λ x. Some (part x ps)) e

pub next_is : (lanes : List Waiting) (h : History) (c : ℕ) → c < length h.intakes → Mirrors lanes h → IsNext lanes c → IsFront h c
next_is lanes h c low m n =
    let lists = parts 0 (length h.intakes) (waiting h) in
    let zero-c : 0 + c ≡ c = omega arith in
    let times : map admitted_time (part c (waiting h)) ≡ n.time ∷ n.first.rest = one_there (slice_get (waiting_times lanes) c) (map admitted_time (part c (waiting h))) (n.time ∷ n.first.rest) (times_there lanes h c m low) n.first.here in
    let a = first_of n.time n.first.rest (part c (waiting h)) times in
    let at : slice_get lists c ≡ Some (a.0 ∷ a.1) = part_there 0 (length h.intakes) c (waiting h) low ∙ (ap (λ x. Some (part x (waiting h))) zero-c ∙ ap (λ (l : List Admitted). Some l) a.2) in
    let time_is = a.3 in
    let before : (j : ℕ) (u : Admitted) (us : List Admitted) → slice_get lists j ≡ Some (u ∷ us) → (j < c → a.0.time < u.time) × (c ≤ j → a.0.time ≤ u.time) = λ (j : ℕ) (u : Admitted) (us : List Admitted) (e : slice_get lists j ≡ Some (u ∷ us)).
    let p = part_at 0 (length h.intakes) j (waiting h) (u ∷ us) e in
    let zero-j : j ≡ 0 + j = omega arith in
    let there : slice_get (waiting_times lanes) j ≡ Some (u.time ∷ map admitted_time us) =
    times_there lanes h j m p.0 ∙ (ap (λ x. Some (map admitted_time (part x (waiting h)))) zero-j ∙ ap (λ (l : List Admitted). Some (map admitted_time l)) p.1) in
    let b = n.first.before j u.time (map admitted_time us) there in
    ((λ (lt : j < c). let g : n.time < u.time = b.0 lt in let r : a.0.time < u.time = omega arith in r), (λ (le : c ≤ j). let g : n.time ≤ u.time = b.1 le in let r : a.0.time ≤ u.time = omega arith in r)) in
    record {
      first = a.0;
      later = merged admitted_time (slice_set lists c a.1);
      next = sym (waits_merged h) ∙ merged-first admitted_time c lists a.0 a.1 at before (parts_rise 0 (length h.intakes) (waiting h) (waits_in_order h));
      below = subst (λ (t : ℕ). AllByRecursion (λ i. t < i.mark) h.intakes) (sym time_is) (open_below n.time lanes h.intakes m.marks n.below);
    }

pub some_is : (h : History) (c : ℕ) → IsFront h c → NothingToApply h → ⊥
some_is h c f none = (subst (AllByRecursion (λ p. IsBelowMarks h (time_of p) → ⊥)) f.next none).0 f.below

-- ---- the step is made

drop_next : {X : Type 0} (n : ℕ) (xs : List X) (x : X) (later : List X) → drop n xs ≡ x ∷ later → drop (suc n) xs ≡ later
drop_next zero [] x later e = cc
drop_next zero (y ∷ xs) x later e = let same : xs ≡ later = cc in same
drop_next (suc n) [] x later e = cc
drop_next (suc n) (y ∷ xs) x later e = drop_next n xs x later e

-- the first that waits is wholly applied
mirror_whole : (lanes new : List Waiting) (h : History) (c : ℕ) (first : Admitted) (later : List (Placed Admitted)) → c < length h.intakes → waiting h ≡ placed c first ∷ later → Mirrors lanes h → Releases lanes c new → Mirrors new (moved h (suc h.whole) 0)
mirror_whole lanes new h c first later low here m r =
    let n = length h.intakes in
    let gone : Waiting = record { mark = r.lane.mark; times = r.rest; room = r.room } in
    let own : part c (waiting h) ≡ first ∷ part c later = ap (part c) here ∙ rw (eq-eqb c c refl) refl in
    let times : r.time ∷ r.rest ≡ first.time ∷ map admitted_time (part c later) =
    one_there (slice_get (waiting_times lanes) c) (r.time ∷ r.rest) (first.time ∷ map admitted_time (part c later)) (times_at lanes c r.lane r.here ∙ ap (λ (l : List ℕ). Some l) r.first)
    (times_there lanes h c m low ∙ ap (λ (l : List Admitted). Some (map admitted_time l)) own) in
    let rest_is : r.rest ≡ map admitted_time (part c later) = cc in
    let rest : waiting (moved h (suc h.whole) 0) ≡ later = drop_next h.whole (all_of h) (placed c first) later here in
    let all : parts 0 n later ≡ slice_set (parts 0 n (waiting h)) c (part c later) =
    parts_changed 0 n c (waiting h) later (part c later) low (let e : 0 + c ≡ c = omega arith in ap (λ k. part k later) e)
    (λ k lt ne. let e : c ≡ 0 + k → ⊥ = λ f. ne (let g : k ≡ c = omega (arith, f) in g) in sym (ap (part (0 + k)) here ∙ rw (ne_eqb c (0 + k) e) refl)) in
    record {
      marks = ap marks r.taken ∙ (marks_same lanes c r.lane gone r.here refl ∙ m.marks);
      times = ap waiting_times r.taken ∙ (times_set lanes c gone ∙ (ap (slice_set (waiting_times lanes) c) rest_is
          ∙ (ap (λ l. slice_set l c (map admitted_time (part c later))) m.times
          ∙ (sym (map_set (map admitted_time) (parts 0 n (waiting h)) c (part c later)) ∙ (ap (map (map admitted_time)) (sym all) ∙ ap (λ w. map (map admitted_time) (parts 0 n w)) (sym rest))))));
    }

-- its time leaves when it is wholly applied, and stays until then
pub mirror_moved : (lanes new : List Waiting) (h g : History) (c : ℕ) (whole : Bool) → IsFront h c → c < length h.intakes → Mirrors lanes h
    → (whole ≡ false → (some : ℕ) × (g ≡ moved h h.whole some)) → (whole ≡ true → g ≡ moved h (suc h.whole) 0) → (whole ≡ true → Releases lanes c new) → (whole ≡ false → new ≡ lanes) → Mirrors new g
mirror_moved lanes new h g c true f low m part all leaves stays = subst (Mirrors new) (sym (all refl)) (mirror_whole lanes new h c f.first f.later low f.next m (leaves refl))
mirror_moved lanes new h g c false f low m part all leaves stays =
    let some = part refl in
    let kept : Mirrors lanes (moved h h.whole some.0) = record { marks = m.marks; times = m.times } in
    subst (Mirrors new) (sym some.1) (subst (λ l. Mirrors l (moved h h.whole some.0)) (sym (stays refl)) kept)
