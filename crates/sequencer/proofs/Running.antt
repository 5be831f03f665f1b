-- What a run of calls releases, and what still waits after it, is what its collectors gave, in one order.
use Rattle.std.proofs.Common.{◌≡◌, ℕ, ◌+◌, ◌<◌, ◌≤◌, List, [], ◌∷◌, ◌++◌, length, map, refl, sym, ap, ◌∙◌, subst, arith, inl, inr, Some, zero, suc, append-nil, append_assoc, zero-add}
use Rattle.std.specs.List.{AllByRecursion, slice_get, slice_set}
use Rattle.std.proofs.lemmas.Bool.{cases_eq, eq-eqb, ne_eqb}
use Rattle.route_meaning.specs.Merged.{Placed, placed, merged, part, parts, IsBefore, IsInOrder, IsRising}
use Rattle.route_meaning.proofs.api.Sorting.{all_weaker, all_append}
use Rattle.route_meaning.proofs.api.OneOrder.{all_part, parts-merged, merged-first, IsInOrder-merged}
use Rattle.sequencer.specs.Lanes.{Waiting, marks, waiting_times, in_order, IsLane, IsOpen, SameLanes, Raises, Releases}
use Rattle.sequencer.specs.Runs.{Call, Runs, TakesTimes, mark_after, taken_in, taken_of, all_taken, released_by}
use Rattle.sequencer.specs.Runs.Call.{Sieve, TakeIn, Raise, Release}
use Rattle.sequencer.proofs.api.Setting.{marks_at, times_set, marks_same, one_there}
use Rattle.sequencer.proofs.api.Rising.{greatest-above, timely_above, rises_append, timely_rises, timely_below}

-- ---- one call, of one collector

-- what a collector gives by a call rises from its mark on, up to its mark after the call
record Gives (c mark : ℕ) (call : Call) : Type 0 where
  up : mark ≤ mark_after c mark call
  rising : IsRising (λ t. t) (taken_in c mark call)
  above : AllByRecursion (λ t. mark ≤ t) (taken_in c mark call)
  below : AllByRecursion (λ t. t ≤ mark_after c mark call) (taken_in c mark call)

gives : (c mark : ℕ) (call : Call) → mark ≤ mark_after c mark call → Gives c mark call
gives c mark (Sieve d times) up = record { up = up; rising = tt; above = tt; below = tt }
gives c mark (TakeIn d times) up =
    elim (cases_eq d c) [
      | inl e ↦ record {
        up = up;
        rising = rw (eq-eqb d c e) (timely_rises mark times);
        above = rw (eq-eqb d c e) (timely_above mark times);
        below = rw (eq-eqb d c e) (timely_below mark times);
      }
      | inr ne ↦ record { up = up; rising = rw (ne_eqb d c ne) tt; above = rw (ne_eqb d c ne) tt; below = rw (ne_eqb d c ne) tt }
    ]
gives c mark (Raise d raised) up = record { up = up; rising = tt; above = tt; below = tt }
gives c mark (Release d time) up = record { up = up; rising = tt; above = tt; below = tt }

-- ---- the marks and the times of all collectors, of which the first has the number k

-- no mark falls
abbrev NoneFalls : ℕ → Call → List ℕ → Type 0
NoneFalls k call [] = Unit {0}
NoneFalls k call (m ∷ ms) = (m ≤ mark_after k m call) × NoneFalls (suc k) call ms

abbrev marks_after : ℕ → Call → List ℕ → List ℕ
marks_after k call [] = []
marks_after k call (m ∷ ms) = mark_after k m call ∷ marks_after (suc k) call ms

abbrev times_after : ℕ → Call → List ℕ → List (List ℕ) → List (List ℕ)
times_after k call [] ts = ts
times_after k call (m ∷ ms) [] = []
times_after k call (m ∷ ms) (t ∷ ts) = (t ++ taken_in k m call) ∷ times_after (suc k) call ms ts

-- the times rise and are no later than the mark
abbrev AreRight : List ℕ → List (List ℕ) → Type 0
AreRight [] [] = Unit {0}
AreRight [] (t ∷ ts) = ⊥
AreRight (m ∷ ms) [] = ⊥
AreRight (m ∷ ms) (t ∷ ts) = (IsRising (λ n. n) t × AllByRecursion (λ n. n ≤ m) t) × AreRight ms ts

abbrev taken_with : ℕ → List Call → List ℕ → List (List ℕ) → List (List ℕ)
taken_with k calls [] ts = ts
taken_with k calls (m ∷ ms) [] = []
taken_with k calls (m ∷ ms) (t ∷ ts) = (t ++ taken_of k m calls) ∷ taken_with (suc k) calls ms ts

-- what is taken in by the calls rises from the mark on
abbrev AreAfter : ℕ → List Call → List ℕ → Type 0
AreAfter k calls [] = Unit {0}
AreAfter k calls (m ∷ ms) = (IsRising (λ n. n) (taken_of k m calls) × AllByRecursion (λ n. m ≤ n) (taken_of k m calls)) × AreAfter (suc k) calls ms

right_after : (k : ℕ) (call : Call) (ms : List ℕ) (ts : List (List ℕ)) → NoneFalls k call ms → AreRight ms ts → AreRight (marks_after k call ms) (times_after k call ms ts)
right_after k call [] [] n r = tt
right_after k call [] (t ∷ ts) n r = absurd r
right_after k call (m ∷ ms) [] n r = absurd r
right_after k call (m ∷ ms) (t ∷ ts) n r =
    let g = gives k m call n.0 in (
      (rises_append m t (taken_in k m call) r.0.0 r.0.1 g.above g.rising, all_append _ t (taken_in k m call) (all_weaker (λ u. u ≤ m) (λ u. u ≤ mark_after k m call) (λ u le. omega (arith, g.up)) t r.0.1) g.below),
      right_after (suc k) call ms ts n.1 r.1,
    )

taken_more : (k : ℕ) (call : Call) (calls : List Call) (ms : List ℕ) (ts : List (List ℕ)) → taken_with k calls (marks_after k call ms) (times_after k call ms ts) ≡ taken_with k (call ∷ calls) ms ts
taken_more k call calls [] ts = refl
taken_more k call calls (m ∷ ms) [] = refl
taken_more k call calls (m ∷ ms) (t ∷ ts) = rw (append_assoc t (taken_in k m call) (taken_of k (mark_after k m call) calls), taken_more (suc k) call calls ms ts) refl

after_more : (k : ℕ) (call : Call) (calls : List Call) (ms : List ℕ) → NoneFalls k call ms → AreAfter k calls (marks_after k call ms) → AreAfter k (call ∷ calls) ms
after_more k call calls [] n a = tt
after_more k call calls (m ∷ ms) n a =
    let g = gives k m call n.0 in (
      (rises_append (mark_after k m call) (taken_in k m call) (taken_of k (mark_after k m call) calls) g.rising g.below a.0.1 a.0.0, all_append _ (taken_in k m call) (taken_of k (mark_after k m call) calls) g.above (all_weaker (λ u. mark_after k m call ≤ u) (λ u. m ≤ u) (λ u le. omega (arith, g.up)) (taken_of k (mark_after k m call) calls) a.0.1)),
      after_more (suc k) call calls ms n.1 a.1,
    )

after_none : (k : ℕ) (ms : List ℕ) → AreAfter k [] ms
after_none k [] = tt
after_none k (m ∷ ms) = ((tt, tt), after_none (suc k) ms)

-- ---- a call of one collector, among those of all

there_below : {X : Type 0} (xs : List X) (i : ℕ) (x : X) → slice_get xs i ≡ Some x → i < length xs
there_below [] i x e = cc
there_below (y ∷ xs) zero x e = omega arith
there_below (y ∷ xs) (suc i) x e = let ih = there_below xs i x e in omega (arith, ih)

shifted : (k i : ℕ) → suc k + i ≡ k + suc i
shifted k i = omega arith

-- the call says nothing of other collectors than this one
record Concerns (d : ℕ) (call : Call) : Type 0 where
  marks : (c m : ℕ) → (c ≡ d → ⊥) → mark_after c m call ≡ m
  times : (c m : ℕ) → (c ≡ d → ⊥) → taken_in c m call ≡ []

concerns_sieve : (d : ℕ) (times : List ℕ) → Concerns d (Sieve d times)
concerns_sieve d times = record { marks = λ c m ne. refl; times = λ c m ne. refl }

concerns_take : (d : ℕ) (times : List ℕ) → Concerns d (TakeIn d times)
concerns_take d times = record { marks = λ c m ne. rw (ne_eqb d c (λ e. ne (sym e))) refl; times = λ c m ne. rw (ne_eqb d c (λ e. ne (sym e))) refl }

concerns_raise : (d mark : ℕ) → Concerns d (Raise d mark)
concerns_raise d mark = record { marks = λ c m ne. rw (ne_eqb d c (λ e. ne (sym e))) refl; times = λ c m ne. refl }

marks_others : (k d : ℕ) (call : Call) (ms : List ℕ) → Concerns d call → d < k → marks_after k call ms ≡ ms
marks_others k d call [] f lt = refl
marks_others k d call (m ∷ ms) f lt = rw (f.marks k m (λ e. omega arith), marks_others (suc k) d call ms f (omega arith)) refl

times_others : (k d : ℕ) (call : Call) (ms : List ℕ) (ts : List (List ℕ)) → Concerns d call → d < k → times_after k call ms ts ≡ ts
times_others k d call [] ts f lt = refl
times_others k d call (m ∷ ms) [] f lt = refl
times_others k d call (m ∷ ms) (t ∷ ts) f lt = rw (f.times k m (λ e. omega arith), append-nil t, times_others (suc k) d call ms ts f (omega arith)) refl

falls_others : (k d : ℕ) (call : Call) (ms : List ℕ) → Concerns d call → d < k → NoneFalls k call ms
falls_others k d call [] f lt = tt
falls_others k d call (m ∷ ms) f lt = let e = f.marks k m (λ e. omega arith) in (omega (arith, e), falls_others (suc k) d call ms f (omega arith))

marks_at_one : (k i m0 : ℕ) (call : Call) (ms : List ℕ) → Concerns (k + i) call → slice_get ms i ≡ Some m0 → marks_after k call ms ≡ slice_set ms i (mark_after (k + i) m0 call)
marks_at_one k i m0 call [] f e = cc
marks_at_one k zero m0 call (m ∷ ms) f e =
    let same : m ≡ m0 = cc in
    let here : k ≡ k + 0 = omega arith in
    rw (marks_others (suc k) (k + 0) call ms f (omega arith)) (ap (λ (n : ℕ). n ∷ ms) (ap (λ (c : ℕ). mark_after c m call) here ∙ ap (λ (n : ℕ). mark_after (k + 0) n call) same))
marks_at_one k (suc i) m0 call (m ∷ ms) f e =
    let on = subst (λ (d : ℕ). Concerns d call) (sym (shifted k i)) f in
    rw (f.marks k m (λ e'. omega arith)) (ap (λ (l : List ℕ). m ∷ l) (marks_at_one (suc k) i m0 call ms on e ∙ ap (λ (d : ℕ). slice_set ms i (mark_after d m0 call)) (shifted k i)))

falls_at_one : (k i m0 : ℕ) (call : Call) (ms : List ℕ) → Concerns (k + i) call → slice_get ms i ≡ Some m0 → m0 ≤ mark_after (k + i) m0 call → NoneFalls k call ms
falls_at_one k i m0 call [] f e le = tt
falls_at_one k zero m0 call (m ∷ ms) f e le =
    let same : m0 ≡ m = cc in
    let here : k + 0 ≡ k = omega arith in
    (subst (λ (c : ℕ). m ≤ mark_after c m call) here (subst (λ (n : ℕ). n ≤ mark_after (k + 0) n call) same le), falls_others (suc k) (k + 0) call ms f (omega arith))
falls_at_one k (suc i) m0 call (m ∷ ms) f e le =
    let on = subst (λ (d : ℕ). Concerns d call) (sym (shifted k i)) f in
    let same = f.marks k m (λ e'. omega arith) in
    (omega (arith, same), falls_at_one (suc k) i m0 call ms on e (subst (λ (d : ℕ). m0 ≤ mark_after d m0 call) (sym (shifted k i)) le))

times_at_one : (k i m0 : ℕ) (t0 : List ℕ) (call : Call) (ms : List ℕ) (ts : List (List ℕ)) → Concerns (k + i) call → slice_get ms i ≡ Some m0 → slice_get ts i ≡ Some t0 → times_after k call ms ts ≡ slice_set ts i (t0 ++ taken_in (k + i) m0 call)
times_at_one k i m0 t0 call [] ts f e e' = cc
times_at_one k i m0 t0 call (m ∷ ms) [] f e e' = cc
times_at_one k zero m0 t0 call (m ∷ ms) (t ∷ ts) f e e' =
    let same : m ≡ m0 = cc in
    let same' : t ≡ t0 = cc in
    let here : k ≡ k + 0 = omega arith in
    rw (times_others (suc k) (k + 0) call ms ts f (omega arith), same') (ap (λ (l : List ℕ). (t0 ++ l) ∷ ts) (ap (λ (c : ℕ). taken_in c m call) here ∙ ap (λ (n : ℕ). taken_in (k + 0) n call) same))
times_at_one k (suc i) m0 t0 call (m ∷ ms) (t ∷ ts) f e e' =
    let on = subst (λ (d : ℕ). Concerns d call) (sym (shifted k i)) f in
    rw (f.times k m (λ e''. omega arith), append-nil t) (ap (λ (l : List (List ℕ)). t ∷ l) (times_at_one (suc k) i m0 t0 call ms ts on e e' ∙ ap (λ (d : ℕ). slice_set ts i (t0 ++ taken_in d m0 call)) (shifted k i)))

-- the same where the first collector has the number 0
marks_at_zero : (c m0 : ℕ) (call : Call) (ms : List ℕ) → Concerns c call → slice_get ms c ≡ Some m0 → marks_after 0 call ms ≡ slice_set ms c (mark_after c m0 call)
marks_at_zero c m0 call ms = subst (λ (d : ℕ). Concerns d call → slice_get ms c ≡ Some m0 → marks_after 0 call ms ≡ slice_set ms c (mark_after d m0 call)) (zero-add c) (marks_at_one 0 c m0 call ms)

falls_at_zero : (c m0 : ℕ) (call : Call) (ms : List ℕ) → Concerns c call → slice_get ms c ≡ Some m0 → m0 ≤ mark_after c m0 call → NoneFalls 0 call ms
falls_at_zero c m0 call ms = subst (λ (d : ℕ). Concerns d call → slice_get ms c ≡ Some m0 → m0 ≤ mark_after d m0 call → NoneFalls 0 call ms) (zero-add c) (falls_at_one 0 c m0 call ms)

times_at_zero : (c m0 : ℕ) (t0 : List ℕ) (call : Call) (ms : List ℕ) (ts : List (List ℕ)) → Concerns c call → slice_get ms c ≡ Some m0 → slice_get ts c ≡ Some t0 → times_after 0 call ms ts ≡ slice_set ts c (t0 ++ taken_in c m0 call)
times_at_zero c m0 t0 call ms ts = subst (λ (d : ℕ). Concerns d call → slice_get ms c ≡ Some m0 → slice_get ts c ≡ Some t0 → times_after 0 call ms ts ≡ slice_set ts c (t0 ++ taken_in d m0 call)) (zero-add c) (times_at_one 0 c m0 t0 call ms ts)

-- ---- one call

times_there : (lanes : List Waiting) (c : ℕ) (w : Waiting) → slice_get lanes c ≡ Some w → slice_get (waiting_times lanes) c ≡ Some w.times
times_there [] c w e = cc
times_there (v ∷ lanes) zero w e = let same : v ≡ w = cc in ap (λ (x : Waiting). Some x.times) same
times_there (v ∷ lanes) (suc c) w e = times_there lanes c w e

-- what a call that releases nothing does to the marks and the times
record Moves (call : Call) (old new : List Waiting) : Type 0 where
  marks_are : marks new ≡ marks_after 0 call (marks old)
  times_are : waiting_times new ≡ times_after 0 call (marks old) (waiting_times old)
  up : NoneFalls 0 call (marks old)

marks_still : (k : ℕ) (call : Call) (ms : List ℕ) → ((c m : ℕ) → mark_after c m call ≡ m) → marks_after k call ms ≡ ms
marks_still k call [] f = refl
marks_still k call (m ∷ ms) f = rw (f k m, marks_still (suc k) call ms f) refl

times_still : (k : ℕ) (call : Call) (ms : List ℕ) (ts : List (List ℕ)) → ((c m : ℕ) → taken_in c m call ≡ []) → times_after k call ms ts ≡ ts
times_still k call [] ts f = refl
times_still k call (m ∷ ms) [] f = refl
times_still k call (m ∷ ms) (t ∷ ts) f = rw (f k m, append-nil t, times_still (suc k) call ms ts f) refl

falls_still : (k : ℕ) (call : Call) (ms : List ℕ) → ((c m : ℕ) → mark_after c m call ≡ m) → NoneFalls k call ms
falls_still k call [] f = tt
falls_still k call (m ∷ ms) f = let e = f k m in (omega (arith, e), falls_still (suc k) call ms f)

sieve_moves : (c : ℕ) (times : List ℕ) (old new : List Waiting) → SameLanes old new → Moves (Sieve c times) old new
sieve_moves c times old new s = record {
  marks_are = s.marks ∙ sym (marks_still 0 (Sieve c times) (marks old) (λ d m. refl));
  times_are = s.times ∙ sym (times_still 0 (Sieve c times) (marks old) (waiting_times old) (λ d m. refl));
  up = falls_still 0 (Sieve c times) (marks old) (λ d m. refl);
}

take_moves : (c : ℕ) (times : List ℕ) (old new : List Waiting) → TakesTimes old c times new → Moves (TakeIn c times) old new
take_moves c times old new t =
    let f = concerns_take c times in
    let lane : t.taken.lane.mark ≡ t.mark = one_there (slice_get (marks old) c) t.taken.lane.mark t.mark (marks_at old c t.taken.lane t.taken.here) t.here in
    record {
      marks_are = t.taken.marks ∙ ap (slice_set (marks old) c) (t.is.mark ∙ rw (eq-eqb c c refl) refl) ∙ sym (marks_at_zero c t.mark (TakeIn c times) (marks old) f t.here);
      times_are = t.taken.times ∙ ap (λ (l : List ℕ). slice_set (waiting_times old) c (t.taken.lane.times ++ l)) (t.is.timely ∙ rw (eq-eqb c c refl) refl) ∙ sym (times_at_zero c t.mark t.taken.lane.times (TakeIn c times) (marks old) (waiting_times old) f t.here (times_there old c t.taken.lane t.taken.here));
      up = falls_at_zero c t.mark (TakeIn c times) (marks old) f t.here (rw (eq-eqb c c refl) (greatest-above t.mark times));
    }

raise_moves : (c mark : ℕ) (old new : List Waiting) → Raises old c mark new → Moves (Raise c mark) old new
raise_moves c mark old new r =
    let f = concerns_raise c mark in
    let at = marks_at old c r.lane r.here in
    record {
      marks_are = r.marks ∙ ap (slice_set (marks old) c) (rw (eq-eqb c c refl) refl) ∙ sym (marks_at_zero c r.lane.mark (Raise c mark) (marks old) f at);
      times_are = r.times ∙ sym (times_still 0 (Raise c mark) (marks old) (waiting_times old) (λ d m. refl));
      up = falls_at_zero c r.lane.mark (Raise c mark) (marks old) f at (rw (eq-eqb c c refl) r.not_back);
    }

-- ---- a release

release_marks : (c time : ℕ) (old new : List Waiting) → Releases old c new → marks new ≡ marks old
release_marks c time old new r = ap marks r.taken ∙ marks_same old c r.lane (record { mark = r.lane.mark; times = r.rest; room = r.room }) r.here refl

release_times : (c : ℕ) (old new : List Waiting) (r : Releases old c new) → waiting_times new ≡ slice_set (waiting_times old) c r.rest
release_times c old new r = ap waiting_times r.taken ∙ times_set old c (record { mark = r.lane.mark; times = r.rest; room = r.room })

release_there : (c : ℕ) (old new : List Waiting) (r : Releases old c new) → slice_get (waiting_times old) c ≡ Some (r.time ∷ r.rest)
release_there c old new r = times_there old c r.lane r.here ∙ ap Some r.first

right_popped : (ms : List ℕ) (ts : List (List ℕ)) (c time : ℕ) (rest : List ℕ) → slice_get ts c ≡ Some (time ∷ rest) → AreRight ms ts → AreRight ms (slice_set ts c rest)
right_popped [] [] c time rest e r = cc
right_popped [] (t ∷ ts) c time rest e r = absurd r
right_popped (m ∷ ms) [] c time rest e r = absurd r
right_popped (m ∷ ms) (t ∷ ts) zero time rest e r =
    let same : t ≡ time ∷ rest = cc in
    let rising = subst (IsRising (λ n. n)) same r.0.0 in
    let below = subst (AllByRecursion (λ n. n ≤ m)) same r.0.1 in
    ((rising.1, below.1), r.1)
right_popped (m ∷ ms) (t ∷ ts) (suc c) time rest e r = (r.0, right_popped ms ts c time rest e r.1)

rising_of : (ms : List ℕ) (ts : List (List ℕ)) → AreRight ms ts → AllByRecursion (IsRising (λ n. n)) ts
rising_of [] [] r = tt
rising_of [] (t ∷ ts) r = absurd r
rising_of (m ∷ ms) [] r = absurd r
rising_of (m ∷ ms) (t ∷ ts) r = (r.0.0, rising_of ms ts r.1)

rising_all : (k : ℕ) (calls : List Call) (ms : List ℕ) (ts : List (List ℕ)) → AreRight ms ts → AreAfter k calls ms → AllByRecursion (IsRising (λ n. n)) (taken_with k calls ms ts)
rising_all k calls [] [] r a = tt
rising_all k calls [] (t ∷ ts) r a = absurd r
rising_all k calls (m ∷ ms) [] r a = absurd r
rising_all k calls (m ∷ ms) (t ∷ ts) r a = (rises_append m t (taken_of k m calls) r.0.0 r.0.1 a.0.1 a.0.0, rising_all (suc k) calls ms ts r.1 a.1)

taken_at : (k i m0 : ℕ) (t0 : List ℕ) (calls : List Call) (ms : List ℕ) (ts : List (List ℕ)) → slice_get ms i ≡ Some m0 → slice_get ts i ≡ Some t0 → slice_get (taken_with k calls ms ts) i ≡ Some (t0 ++ taken_of (k + i) m0 calls)
taken_at k i m0 t0 calls [] ts e e' = cc
taken_at k i m0 t0 calls (m ∷ ms) [] e e' = cc
taken_at k zero m0 t0 calls (m ∷ ms) (t ∷ ts) e e' =
    let same : m ≡ m0 = cc in
    let same' : t ≡ t0 = cc in
    let here : k ≡ k + 0 = omega arith in
    rw same' (ap (λ (l : List ℕ). Some (t0 ++ l)) (ap (λ (c : ℕ). taken_of c m calls) here ∙ ap (λ (n : ℕ). taken_of (k + 0) n calls) same))
taken_at k (suc i) m0 t0 calls (m ∷ ms) (t ∷ ts) e e' = taken_at (suc k) i m0 t0 calls ms ts e e' ∙ ap (λ (d : ℕ). Some (t0 ++ taken_of d m0 calls)) (shifted k i)

taken_set : (k i m0 : ℕ) (t1 : List ℕ) (calls : List Call) (ms : List ℕ) (ts : List (List ℕ)) → slice_get ms i ≡ Some m0 → taken_with k calls ms (slice_set ts i t1) ≡ slice_set (taken_with k calls ms ts) i (t1 ++ taken_of (k + i) m0 calls)
taken_set k i m0 t1 calls [] ts e = cc
taken_set k zero m0 t1 calls (m ∷ ms) [] e = refl
taken_set k (suc i) m0 t1 calls (m ∷ ms) [] e = refl
taken_set k zero m0 t1 calls (m ∷ ms) (t ∷ ts) e =
    let same : m ≡ m0 = cc in
    let here : k ≡ k + 0 = omega arith in
    ap (λ (l : List ℕ). (t1 ++ l) ∷ taken_with (suc k) calls ms ts) (ap (λ (c : ℕ). taken_of c m calls) here ∙ ap (λ (n : ℕ). taken_of (k + 0) n calls) same)
taken_set k (suc i) m0 t1 calls (m ∷ ms) (t ∷ ts) e = ap (λ (l : List (List ℕ)). (t ++ taken_of k m calls) ∷ l) (taken_set (suc k) i m0 t1 calls ms ts e ∙ ap (λ (d : ℕ). slice_set (taken_with (suc k) calls ms ts) i (t1 ++ taken_of d m0 calls)) (shifted k i))

taken_released : (k c time : ℕ) (calls : List Call) (ms : List ℕ) (ts : List (List ℕ)) → taken_with k (Release c time ∷ calls) ms ts ≡ taken_with k calls ms ts
taken_released k c time calls [] ts = refl
taken_released k c time calls (m ∷ ms) [] = refl
taken_released k c time calls (m ∷ ms) (t ∷ ts) = ap (λ (l : List (List ℕ)). (t ++ taken_of k m calls) ∷ l) (taken_released (suc k) c time calls ms ts)

-- ---- the heads after a release

part_there : (k n i : ℕ) (ps : List (Placed ℕ)) → i < n → slice_get (parts k n ps) i ≡ Some (part (k + i) ps)
part_there k zero i ps lt = absurd (omega arith)
part_there k (suc n) zero ps lt = let here : k ≡ k + 0 = omega arith in ap (λ (c : ℕ). Some (part c ps)) here
part_there k (suc n) (suc i) ps lt = part_there (suc k) n i ps (omega arith) ∙ ap (λ (c : ℕ). Some (part c ps)) (shifted k i)

heads_wait : (lists : List (List ℕ)) (c time : ℕ) (rest : List (Placed ℕ)) → AllByRecursion (IsRising (λ n. n)) lists → merged (λ n. n) lists ≡ placed c time ∷ rest → (j v : ℕ) (vs : List ℕ) → (j ≡ c → ⊥) → slice_get lists j ≡ Some (v ∷ vs) → (j < c → time < v) × (c ≤ j → time ≤ v)
heads_wait lists c time rest rising first j v vs ne e =
    let below = there_below lists j (v ∷ vs) e in
    let all = parts-merged (λ n. n) lists rising in
    let mine : part j (merged (λ n. n) lists) ≡ v ∷ vs = one_there (slice_get lists j) (part j (merged (λ n. n) lists)) (v ∷ vs) (subst (λ (l : List (List ℕ)). slice_get l j ≡ Some (part j (merged (λ n. n) lists))) all (part_there 0 (length lists) j (merged (λ n. n) lists) below ∙ ap (λ (c' : ℕ). Some (part c' (merged (λ n. n) lists))) (zero-add j))) e in
    let skip : part j (placed c time ∷ rest) ≡ part j rest = rw (ne_eqb c j (λ e'. ne (sym e'))) refl in
    let left : part j rest ≡ v ∷ vs = sym skip ∙ ap (part j) (sym first) ∙ mine in
    let order : IsInOrder (λ n. n) (placed c time ∷ rest) = subst (IsInOrder (λ n. n)) first (IsInOrder-merged (λ n. n) lists) in
    let each : AllByRecursion (IsBefore (λ n. n) (placed c time)) (map (placed j) (v ∷ vs)) = subst (λ (l : List ℕ). AllByRecursion (IsBefore (λ n. n) (placed c time)) (map (placed j) l)) left (all_part (IsBefore (λ n. n) (placed c time)) j rest order.0) in
    elim each.0 [ inl lt ↦ (λ l. lt, λ l. omega arith) | inr h ↦ (let same : time ≡ v = h.0 in let le : c ≤ j = h.1 in (λ l. absurd (omega arith), λ l. omega arith)) ]

record There (j : ℕ) (calls : List Call) (ms : List ℕ) (ts : List (List ℕ)) (l : List ℕ) : Type 0 where
  mark : ℕ
  times : List ℕ
  at_mark : slice_get ms j ≡ Some mark
  at_times : slice_get ts j ≡ Some times
  more : List ℕ
  is : l ≡ times ++ more
  above : AllByRecursion (λ n. mark ≤ n) more

there : (k j : ℕ) (calls : List Call) (ms : List ℕ) (ts : List (List ℕ)) (l : List ℕ) → AreRight ms ts → AreAfter k calls ms → slice_get (taken_with k calls ms ts) j ≡ Some l → There j calls ms ts l
there k j calls [] [] l r a e = cc
there k j calls [] (t ∷ ts) l r a e = absurd r
there k j calls (m ∷ ms) [] l r a e = absurd r
there k zero calls (m ∷ ms) (t ∷ ts) l r a e = record { mark = m; times = t; at_mark = refl; at_times = refl; more = taken_of k m calls; is = let same : t ++ taken_of k m calls ≡ l = cc in sym same; above = a.0.1 }
there k (suc j) calls (m ∷ ms) (t ∷ ts) l r a e =
    let s = there (suc k) j calls ms ts l r.1 a.1 e in
    record { mark = s.mark; times = s.times; at_mark = s.at_mark; at_times = s.at_times; more = s.more; is = s.is; above = s.above }

open_mark : (lanes : List Waiting) (time j m : ℕ) → IsOpen lanes time → slice_get (marks lanes) j ≡ Some m → time < m
open_mark [] time j m o e = cc
open_mark (w ∷ lanes) time zero m o e = let same : w.mark ≡ m = cc in let lt = o.0 in omega arith
open_mark (w ∷ lanes) time (suc j) m o e = open_mark lanes time j m o.1 e

heads : (calls : List Call) (old new : List Waiting) (c : ℕ) (r : Releases old c new) → AreRight (marks old) (waiting_times old) → AreAfter 0 calls (marks old) → (j u : ℕ) (us : List ℕ) → slice_get (taken_with 0 calls (marks old) (waiting_times old)) j ≡ Some (u ∷ us) → (j < c → r.time < u) × (c ≤ j → r.time ≤ u)
heads calls old new c r right after j u us e =
    let s = there 0 j calls (marks old) (waiting_times old) (u ∷ us) right after e in
    by_times s.mark s.more s.times s.at_times s.is (open_mark old r.time j s.mark r.below s.at_mark) s.above
  where
    by_times : (mark : ℕ) (more times : List ℕ) → slice_get (waiting_times old) j ≡ Some times → u ∷ us ≡ times ++ more → r.time < mark → AllByRecursion (λ n. mark ≤ n) more → (j < c → r.time < u) × (c ≤ j → r.time ≤ u)
    by_times mark more [] at is lt above =
        let first = subst (AllByRecursion (λ n. mark ≤ n)) (sym is) above in
        let le : mark ≤ u = first.0 in
        (λ l. omega arith, λ l. omega arith)
    by_times mark more (v ∷ vs) at is lt above =
        let same : u ≡ v = cc in
        elim (cases_eq j c) [
          | inl here ↦
              let it : v ∷ vs ≡ r.time ∷ r.rest = one_there (slice_get (waiting_times old) c) (v ∷ vs) (r.time ∷ r.rest) (subst (λ (n : ℕ). slice_get (waiting_times old) n ≡ Some (v ∷ vs)) here at) (release_there c old new r) in
              let first : v ≡ r.time = cc in
              (λ l. absurd (omega arith), λ l. omega arith)
          | inr ne ↦ rw same (heads_wait (waiting_times old) c r.time (in_order new) (rising_of (marks old) (waiting_times old) right) r.next j v vs ne at)
        ]

-- ---- runs

right_lanes : (lanes : List Waiting) → AllByRecursion IsLane lanes → AreRight (marks lanes) (waiting_times lanes)
right_lanes [] a = tt
right_lanes (w ∷ lanes) a = ((a.0.rising, a.0.below), right_lanes lanes a.1)

taken_lanes : (k : ℕ) (calls : List Call) (lanes : List Waiting) → all_taken k calls lanes ≡ taken_with k calls (marks lanes) (waiting_times lanes)
taken_lanes k calls [] = refl
taken_lanes k calls (w ∷ lanes) = ap (λ (l : List (List ℕ)). (w.times ++ taken_of k w.mark calls) ∷ l) (taken_lanes (suc k) calls lanes)

none_taken : (k : ℕ) (lanes : List Waiting) → taken_with k [] (marks lanes) (waiting_times lanes) ≡ waiting_times lanes
none_taken k [] = refl
none_taken k (w ∷ lanes) = rw (append-nil w.times, none_taken (suc k) lanes) refl

after_moved : (call : Call) (calls : List Call) (old between : List Waiting) → Moves call old between → AreAfter 0 calls (marks between) → AreAfter 0 (call ∷ calls) (marks old)
after_moved call calls old between m a = after_more 0 call calls (marks old) m.up (subst (AreAfter 0 calls) m.marks_are a)

after_released : (k c time : ℕ) (calls : List Call) (ms : List ℕ) → AreAfter k calls ms → AreAfter k (Release c time ∷ calls) ms
after_released k c time calls [] a = tt
after_released k c time calls (m ∷ ms) a = (a.0, after_released (suc k) c time calls ms a.1)

after_all : (calls : List Call) (old new : List Waiting) → Runs calls old new → AreAfter 0 calls (marks old)
after_all [] old new e = after_none 0 (marks old)
after_all (Sieve c times ∷ calls) old new (between, does, runs) = after_moved (Sieve c times) calls old between (sieve_moves c times old between does) (after_all calls between new runs)
after_all (TakeIn c times ∷ calls) old new (between, does, runs) = after_moved (TakeIn c times) calls old between (take_moves c times old between does) (after_all calls between new runs)
after_all (Raise c mark ∷ calls) old new (between, does, runs) = after_moved (Raise c mark) calls old between (raise_moves c mark old between does) (after_all calls between new runs)
after_all (Release c time ∷ calls) old new (between, (r, is), runs) = after_released 0 c time calls (marks old) (subst (AreAfter 0 calls) (release_marks c time old between r) (after_all calls between new runs))

abbrev Ordered : List Call → List Waiting → List Waiting → Type 0
Ordered calls old new = released_by calls ++ in_order new ≡ merged (λ n. n) (taken_with 0 calls (marks old) (waiting_times old))

right_moved : (call : Call) (old between : List Waiting) → Moves call old between → AreRight (marks old) (waiting_times old) → AreRight (marks between) (waiting_times between)
right_moved call old between m r = rw (m.marks_are, m.times_are) (right_after 0 call (marks old) (waiting_times old) m.up r)

taken_moved : (call : Call) (calls : List Call) (old between : List Waiting) → Moves call old between → taken_with 0 calls (marks between) (waiting_times between) ≡ taken_with 0 (call ∷ calls) (marks old) (waiting_times old)
taken_moved call calls old between m = rw (m.marks_are, m.times_are) (taken_more 0 call calls (marks old) (waiting_times old))

right_released : (c : ℕ) (old between : List Waiting) (r : Releases old c between) → AreRight (marks old) (waiting_times old) → AreRight (marks between) (waiting_times between)
right_released c old between r right = rw (release_marks c r.time old between r, release_times c old between r) (right_popped (marks old) (waiting_times old) c r.time r.rest (release_there c old between r) right)

first_released : (calls : List Call) (c : ℕ) (old between : List Waiting) (r : Releases old c between) → AreRight (marks old) (waiting_times old) → AreAfter 0 calls (marks old) → merged (λ n. n) (taken_with 0 calls (marks old) (waiting_times old)) ≡ placed c r.time ∷ merged (λ n. n) (taken_with 0 calls (marks between) (waiting_times between))
first_released calls c old between r right after =
    let lists = taken_with 0 calls (marks old) (waiting_times old) in
    let at = marks_at old c r.lane r.here in
    let more = taken_of c r.lane.mark calls in
    let here : slice_get lists c ≡ Some (r.time ∷ (r.rest ++ more)) = taken_at 0 c r.lane.mark (r.time ∷ r.rest) calls (marks old) (waiting_times old) at (release_there c old between r) ∙ ap (λ (d : ℕ). Some (r.time ∷ (r.rest ++ taken_of d r.lane.mark calls))) (zero-add c) in
    let left : taken_with 0 calls (marks between) (waiting_times between) ≡ slice_set lists c (r.rest ++ more) = rw (release_marks c r.time old between r, release_times c old between r) (taken_set 0 c r.lane.mark r.rest calls (marks old) (waiting_times old) at ∙ ap (λ (d : ℕ). slice_set lists c (r.rest ++ taken_of d r.lane.mark calls)) (zero-add c)) in
    merged-first (λ n. n) c lists r.time (r.rest ++ more) here (heads calls old between c r right after) (rising_all 0 calls (marks old) (waiting_times old) right after)
    ∙ ap (λ (l : List (List ℕ)). placed c r.time ∷ merged (λ n. n) l) (sym left)

ordered : (calls : List Call) (old new : List Waiting) → AreRight (marks old) (waiting_times old) → Runs calls old new → Ordered calls old new
ordered [] old new right e = ap in_order e ∙ ap (merged (λ n. n)) (sym (none_taken 0 old))
ordered (Sieve c times ∷ calls) old new right (between, does, runs) =
    let m = sieve_moves c times old between does in
    ordered calls between new (right_moved (Sieve c times) old between m right) runs ∙ ap (merged (λ n. n)) (taken_moved (Sieve c times) calls old between m)
ordered (TakeIn c times ∷ calls) old new right (between, does, runs) =
    let m = take_moves c times old between does in
    ordered calls between new (right_moved (TakeIn c times) old between m right) runs ∙ ap (merged (λ n. n)) (taken_moved (TakeIn c times) calls old between m)
ordered (Raise c mark ∷ calls) old new right (between, does, runs) =
    let m = raise_moves c mark old between does in
    ordered calls between new (right_moved (Raise c mark) old between m right) runs ∙ ap (merged (λ n. n)) (taken_moved (Raise c mark) calls old between m)
ordered (Release c time ∷ calls) old new right (between, (r, is), runs) =
    let after = subst (AreAfter 0 calls) (release_marks c time old between r) (after_all calls between new runs) in
    ap (λ (n : ℕ). placed c n ∷ (released_by calls ++ in_order new)) (sym is)
    ∙ (ap (λ (l : List (Placed ℕ)). placed c r.time ∷ l) (ordered calls between new (right_released c old between r right) runs)
    ∙ (sym (first_released calls c old between r right after) ∙ ap (merged (λ n. n)) (sym (taken_released 0 c time calls (marks old) (waiting_times old)))))

pub runs_ordered : (calls : List Call) (old new : List Waiting) → AllByRecursion IsLane old → Runs calls old new → released_by calls ++ in_order new ≡ merged (λ n. n) (all_taken 0 calls old)
runs_ordered calls old new lanes runs = ordered calls old new (right_lanes old lanes) runs ∙ ap (merged (λ n. n)) (sym (taken_lanes 0 calls old))
