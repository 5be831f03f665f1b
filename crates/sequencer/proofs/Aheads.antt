-- Lanes without some first times.
use Rattle.std.proofs.Common.{◌≡◌, ℕ, ◌+◌, ◌<◌, ◌≤◌, List, [], ◌∷◌, length, take, drop, replicate, refl, sym, ap, ◌∙◌, subst, arith, Some, zero, suc}
use Rattle.std.specs.List.{AllByRecursion, slice_get, slice_set}
use Rattle.route_meaning.specs.Merged.{IsRising}
use Rattle.route_meaning.proofs.api.Settling.{all_drop}
use Rattle.sequencer.specs.Lanes.{Waiting, marks, waiting_times, IsLane, IsOpen, Releases}
use Rattle.sequencer.specs.Ahead.{later, beyond}
use Rattle.sequencer.specs.First.{IsNext}
use Rattle.sequencer.proofs.api.Setting.{one_there, times_set, marks_same}
use Rattle.sequencer.proofs.Releasing.{lane_in, releases}

-- ---- times after others

pub drop_get : {X : Type 0} (n : ℕ) (xs : List X) → slice_get (drop n xs) 0 ≡ slice_get xs n
drop_get zero xs = refl
drop_get (suc n) [] = refl
drop_get (suc n) (x ∷ xs) = drop_get n xs

pub drop_more : {X : Type 0} (n : ℕ) (xs : List X) → drop 1 (drop n xs) ≡ drop (suc n) xs
drop_more zero [] = refl
drop_more zero (x ∷ xs) = refl
drop_more (suc n) [] = refl
drop_more (suc n) (x ∷ xs) = drop_more n xs

drop_rest : {X : Type 0} (n : ℕ) (xs : List X) (x : X) (rest : List X) → drop n xs ≡ x ∷ rest → drop (suc n) xs ≡ rest
drop_rest zero [] x rest e = cc
drop_rest zero (y ∷ xs) x rest e = let same : xs ≡ rest = cc in same
drop_rest (suc n) [] x rest e = cc
drop_rest (suc n) (y ∷ xs) x rest e = drop_rest n xs x rest e

drop_some : {X : Type 0} (n : ℕ) (xs : List X) (x : X) (rest : List X) → drop n xs ≡ x ∷ rest → n < length xs
drop_some zero [] x rest e = cc
drop_some zero (y ∷ xs) x rest e = omega arith
drop_some (suc n) [] x rest e = cc
drop_some (suc n) (y ∷ xs) x rest e = let ih = drop_some n xs x rest e in omega (arith, ih)

drop_rising : (n : ℕ) (ts : List ℕ) → IsRising (λ t. t) ts → IsRising (λ t. t) (drop n ts)
drop_rising zero ts r = r
drop_rising (suc n) [] r = tt
drop_rising (suc n) (t ∷ ts) r = drop_rising n ts r.1

-- ---- lanes without their first times

pub after_length : (ns : List ℕ) (lanes : List Waiting) → length (beyond ns lanes) ≡ length lanes
after_length [] lanes = refl
after_length (n ∷ ns) [] = refl
after_length (n ∷ ns) (w ∷ lanes) = ap suc (after_length ns lanes)

pub after_marks : (ns : List ℕ) (lanes : List Waiting) → marks (beyond ns lanes) ≡ marks lanes
after_marks [] lanes = refl
after_marks (n ∷ ns) [] = refl
after_marks (n ∷ ns) (w ∷ lanes) = ap (λ (l : List ℕ). w.mark ∷ l) (after_marks ns lanes)

later_none : (w : Waiting) → later 0 w ≡ w
later_none w = refl

pub after_none : (n : ℕ) (lanes : List Waiting) → beyond (replicate n 0) lanes ≡ lanes
after_none zero lanes = refl
after_none (suc n) [] = refl
after_none (suc n) (w ∷ lanes) = ap (λ (v : Waiting). v ∷ beyond (replicate n 0) lanes) (later_none w) ∙ ap (λ (l : List Waiting). w ∷ l) (after_none n lanes)

pub after_at : (ns : List ℕ) (lanes : List Waiting) (i n : ℕ) (w : Waiting) → slice_get ns i ≡ Some n → slice_get lanes i ≡ Some w → slice_get (beyond ns lanes) i ≡ Some (later n w)
after_at [] lanes i n w e f = cc
after_at (m ∷ ns) [] i n w e f = cc
after_at (m ∷ ns) (v ∷ lanes) zero n w e f =
    let one : m ≡ n = cc in
    let two : v ≡ w = cc in
    ap (λ (k : ℕ). Some (later k v)) one ∙ ap (λ (x : Waiting). Some (later n x)) two
after_at (m ∷ ns) (v ∷ lanes) (suc i) n w e f = after_at ns lanes i n w e f

pub times_there : (lanes : List Waiting) (i : ℕ) (w : Waiting) → slice_get lanes i ≡ Some w → slice_get (waiting_times lanes) i ≡ Some w.times
times_there [] i w e = cc
times_there (v ∷ lanes) zero w e = let same : v ≡ w = cc in ap (λ (x : Waiting). Some x.times) same
times_there (v ∷ lanes) (suc i) w e = times_there lanes i w e

pub after_open : (ns : List ℕ) (lanes : List Waiting) (t : ℕ) → IsOpen lanes t → IsOpen (beyond ns lanes) t
after_open [] lanes t o = o
after_open (n ∷ ns) [] t o = tt
after_open (n ∷ ns) (w ∷ lanes) t o = (o.0, after_open ns lanes t o.1)

pub open_after : (ns : List ℕ) (lanes : List Waiting) (t : ℕ) → IsOpen (beyond ns lanes) t → IsOpen lanes t
open_after [] lanes t o = o
open_after (n ∷ ns) [] t o = tt
open_after (n ∷ ns) (w ∷ lanes) t o = (o.0, open_after ns lanes t o.1)

later_right : (n : ℕ) (w : Waiting) → IsLane w → IsLane (later n w)
later_right n w l = record { rising = drop_rising n w.times l.rising; below = all_drop _ n w.times l.below }

pub after_right : (ns : List ℕ) (lanes : List Waiting) → AllByRecursion IsLane lanes → AllByRecursion IsLane (beyond ns lanes)
after_right [] lanes all = all
after_right (n ∷ ns) [] all = tt
after_right (n ∷ ns) (w ∷ lanes) all = (later_right n w all.0, after_right ns lanes all.1)

-- ---- one more is passed over

after_set : (ns : List ℕ) (lanes : List Waiting) (c n : ℕ) (w : Waiting) → slice_get ns c ≡ Some n → slice_get lanes c ≡ Some w → slice_set (beyond ns lanes) c (later (suc n) w) ≡ beyond (slice_set ns c (suc n)) lanes
after_set [] lanes c n w e f = cc
after_set (m ∷ ns) [] c n w e f = cc
after_set (m ∷ ns) (v ∷ lanes) zero n w e f = let same : v ≡ w = cc in ap (λ (x : Waiting). later (suc n) x ∷ beyond ns lanes) (sym same)
after_set (m ∷ ns) (v ∷ lanes) (suc c) n w e f = ap (λ (l : List Waiting). later m v ∷ l) (after_set ns lanes c n w e f)

pub after_releases : (ns : List ℕ) (lanes : List Waiting) (c n : ℕ) (w : Waiting) → AllByRecursion IsLane lanes → IsNext (beyond ns lanes) c → slice_get ns c ≡ Some n → slice_get lanes c ≡ Some w → Releases (beyond ns lanes) c (beyond (slice_set ns c (suc n)) lanes)
after_releases ns lanes c n w all next e f =
    let first = next.first in
    let here = after_at ns lanes c n w e f in
    let times : drop n w.times ≡ next.time ∷ first.rest = one_there (slice_get (waiting_times (beyond ns lanes)) c) (drop n w.times) (next.time ∷ first.rest) (times_there (beyond ns lanes) c (later n w) here) first.here in
    let rest : drop (suc n) w.times ≡ first.rest = drop_rest n w.times next.time first.rest times in
    let r = releases (beyond ns lanes) c next.time w.room (later n w) (after_right ns lanes all) first next.below here times in
    subst (λ (l : List Waiting). Releases (beyond ns lanes) c l) (ap (λ (ts : List ℕ). slice_set (beyond ns lanes) c (record { mark = w.mark; times = ts; room = w.room })) (sym rest) ∙ after_set ns lanes c n w e f) r

-- of a collector that is next, not all is passed over
pub after_some : (ns : List ℕ) (lanes : List Waiting) (c n : ℕ) (w : Waiting) → IsNext (beyond ns lanes) c → slice_get ns c ≡ Some n → slice_get lanes c ≡ Some w → n < length w.times
after_some ns lanes c n w next e f =
    let first = next.first in
    let here = after_at ns lanes c n w e f in
    drop_some n w.times next.time first.rest (one_there (slice_get (waiting_times (beyond ns lanes)) c) (drop n w.times) (next.time ∷ first.rest) (times_there (beyond ns lanes) c (later n w) here) first.here)

pub next_in : (ns : List ℕ) (lanes : List Waiting) (c : ℕ) → IsNext (beyond ns lanes) c → c < length lanes
next_in ns lanes c next = let lt = lane_in (beyond ns lanes) c next.time next.first in let n = after_length ns lanes in omega (arith, lt, n)

-- ---- all that is passed over is taken

-- the lanes, where those of the first i numbers have lost that many first times
pub record AreTaken (ns : List ℕ) (old : List Waiting) (i : ℕ) (new : List Waiting) : Type 0 where
  pub marks : marks new ≡ marks old
  pub times : waiting_times new ≡ waiting_times (beyond (take i ns) old)
  pub count : length new ≡ length old

times_set_one : (ns : List ℕ) (old : List Waiting) (i n : ℕ) (v : Waiting) → slice_get ns i ≡ Some n → slice_get old i ≡ Some v → slice_set (waiting_times (beyond (take i ns) old)) i (drop n v.times) ≡ waiting_times (beyond (take (suc i) ns) old)
times_set_one [] old i n v e f = cc
times_set_one (m ∷ ns) [] i n v e f = cc
times_set_one (m ∷ ns) (w ∷ old) zero n v e f =
    let one : n ≡ m = cc in
    let two : v ≡ w = cc in
    ap (λ (k : ℕ). drop k v.times ∷ waiting_times old) one ∙ ap (λ (x : Waiting). drop m x.times ∷ waiting_times old) two
times_set_one (m ∷ ns) (w ∷ old) (suc i) n v e f = ap (λ (l : List (List ℕ)). drop m w.times ∷ l) (times_set_one ns old i n v e f)

times_at_one : (ns : List ℕ) (old : List Waiting) (i : ℕ) (v : Waiting) → slice_get old i ≡ Some v → slice_get (waiting_times (beyond (take i ns) old)) i ≡ Some v.times
times_at_one ns [] i v f = cc
times_at_one ns (w ∷ old) zero v f = let same : w ≡ v = cc in ap (λ (x : Waiting). Some x.times) same
times_at_one [] (w ∷ old) (suc i) v f = times_there old i v f
times_at_one (m ∷ ns) (w ∷ old) (suc i) v f = times_at_one ns old i v f

set_length : {X : Type 0} (xs : List X) (c : ℕ) (x : X) → length (slice_set xs c x) ≡ length xs
set_length [] c x = refl
set_length (y ∷ xs) zero x = refl
set_length (y ∷ xs) (suc c) x = ap suc (set_length xs c x)

some_at : {X : Type 0} (xs : List X) (c : ℕ) → c < length xs → (x : X) × (slice_get xs c ≡ Some x)
some_at [] c lt = absurd (omega arith)
some_at (y ∷ xs) zero lt = (y, refl)
some_at (y ∷ xs) (suc c) lt = some_at xs c (omega arith)

pub taken_none : (ns : List ℕ) (old : List Waiting) → AreTaken ns old 0 old
taken_none ns old = record { marks = refl; times = refl; count = refl }

-- one lane more
pub taken_more : (ns : List ℕ) (old new : List Waiting) (i n : ℕ) (w w' : Waiting) → AreTaken ns old i new → slice_get ns i ≡ Some n → slice_get new i ≡ Some w → i < length new → w'.mark ≡ w.mark → w'.times ≡ drop n w.times → AreTaken ns old (i + 1) (slice_set new i w')
taken_more ns old new i n w w' a e here lt mark times =
    let count = a.count in
    let v = some_at old i (omega (arith, lt, count)) in
    let same : w.times ≡ v.0.times = one_there (slice_get (waiting_times new) i) w.times v.0.times (times_there new i w here) (ap (λ (l : List (List ℕ)). slice_get l i) a.times ∙ times_at_one ns old i v.0 v.1) in
    let more : suc i ≡ i + 1 = omega arith in
    record {
      marks = marks_same new i w w' here mark ∙ a.marks;
      times = times_set new i w' ∙ (ap (slice_set (waiting_times new) i) (times ∙ ap (drop n) same) ∙ (ap (λ (l : List (List ℕ)). slice_set l i (drop n v.0.times)) a.times
          ∙ (times_set_one ns old i n v.0 e v.1 ∙ ap (λ (k : ℕ). waiting_times (beyond (take k ns) old)) more)));
      count = set_length new i w' ∙ a.count;
    }

take_all : (n : ℕ) (ns : List ℕ) → length ns ≤ n → take n ns ≡ ns
take_all zero [] le = refl
take_all zero (m ∷ ns) le = absurd (omega arith)
take_all (suc n) [] le = refl
take_all (suc n) (m ∷ ns) le = ap (λ (l : List ℕ). m ∷ l) (take_all n ns (omega arith))

pub taken_all : (ns : List ℕ) (old new : List Waiting) (i : ℕ) → length ns ≤ i → AreTaken ns old i new → waiting_times new ≡ waiting_times (beyond ns old)
taken_all ns old new i le a = a.times ∙ ap (λ (l : List ℕ). waiting_times (beyond l old)) (take_all i ns le)

-- lanes with these marks and times are right too
pub right_as : (new old : List Waiting) → marks new ≡ marks old → waiting_times new ≡ waiting_times old → AllByRecursion IsLane old → AllByRecursion IsLane new
right_as [] old m t all = tt
right_as (w ∷ new) [] m t all = cc
right_as (w ∷ new) (v ∷ old) m t all =
    let mark : w.mark ≡ v.mark = cc in
    let times : w.times ≡ v.times = cc in
    let marks' : marks new ≡ marks old = cc in
    let times' : waiting_times new ≡ waiting_times old = cc in (
      record {
        rising = subst (IsRising (λ n. n)) (sym times) all.0.rising;
        below = subst (λ (n : ℕ). AllByRecursion (λ u. u ≤ n) w.times) (sym mark) (subst (AllByRecursion (λ u. u ≤ v.mark)) (sym times) all.0.below);
      },
      right_as new old marks' times' all.1,
    )
