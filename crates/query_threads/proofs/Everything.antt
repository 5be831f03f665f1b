-- A right history that reaches whatever a word may be: each collector gave as many admissions as are asked for, all at the first moment,
-- and said that nothing earlier than the last mark follows.
use Rattle.std.proofs.Common.{◌≡◌, ℕ, zero, suc, ◌<◌, ◌≤◌, List, [], ◌++◌, map, take, length, replicate, inl, refl, sym, subst, arith, le_refl}
use Rattle.route_model.specs.Moments.{last_mark}
use Rattle.std.specs.List.{AllByRecursion}
use Rattle.std.specs.Prelude.{slice_get}
use Rattle.std.proofs.Math.Nat.{le-min}
use Rattle.std.proofs.Math.Seq.{drop-length, take-length}
use Rattle.std.proofs.lemmas.List.{length-replicate}
use Rattle.route_model.specs.Admission.{Admitted, IsAdmission, admission_octets}
use Rattle.route_meaning.specs.Holds.{admitted_time, time_of}
use Rattle.route_meaning.specs.Merged.{Placed, placed, all_placed, merged, IsRising}
use Rattle.route_meaning.specs.History.{Intake, History, IsIntake, IsHistory, IsBelowMarks, all_of, bounds, least, settled}
use Rattle.route_meaning.proofs.api.Sorting.{all_append, all_by_time, all_weaker}
use Rattle.board.specs.Past.{Past, count_in}
use Rattle.query_threads.specs.inner.Unpromised.{ReachesAll}

-- an admission at the first moment, without changes
abbrev first : Admitted
first = record { time = 0; changes = [] }

-- a collector gave n of them, and gives nothing else
abbrev crowd : ℕ → Intake
crowd n = record { admitted = replicate n first; mark = last_mark; offered = n }

-- k collectors did so, and all is applied
abbrev everything : (k n : ℕ) → History
everything k n = record { intakes = replicate k (crowd n); whole = length (merged admitted_time (map (λ i. i.admitted) (replicate k (crowd n)))); some = 0 }

-- ---- all that was given is at the first moment

at_first : (c n : ℕ) → AllByRecursion (λ (p : Placed Admitted). time_of p ≡ 0) (map (placed c) (replicate n first))
at_first c zero = tt
at_first c (suc n) = (refl, at_first c n)

all_at_first : (c k n : ℕ) → AllByRecursion (λ (p : Placed Admitted). time_of p ≡ 0) (all_placed c (map (λ (i : Intake). i.admitted) (replicate k (crowd n))))
all_at_first c zero n = tt
all_at_first c (suc k) n = all_append _ (map (placed c) (replicate n first)) (all_placed (suc c) (map (λ (i : Intake). i.admitted) (replicate k (crowd n)))) (at_first c n) (all_at_first (suc c) k n)

below : (k n time : ℕ) → time ≡ 0 → AllByRecursion (λ (i : Intake). time < i.mark) (replicate k (crowd n))
below zero n time e = tt
below (suc k) n time e = (omega (arith, e), below k n time e)

released : (k n : ℕ) (ps : List (Placed Admitted)) → AllByRecursion (λ (p : Placed Admitted). time_of p ≡ 0) ps → AllByRecursion (λ p. IsBelowMarks (everything k n) (time_of p)) (take (length ps) ps ++ [])
released k n ps all = all_append _ (take (length ps) ps) [] (subst (AllByRecursion (λ p. IsBelowMarks (everything k n) (time_of p))) (sym (take-length ps)) (all_weaker _ _ (λ p e. below k n (time_of p) e) ps all)) tt

-- ---- each intake is right

each_first : (P : Admitted → Type 0) (n : ℕ) → P first → AllByRecursion P (replicate n first)
each_first P zero here = tt
each_first P (suc n) here = (here, each_first P n here)

rising : (n : ℕ) → IsRising admitted_time (replicate n first)
rising zero = tt
rising (suc n) = (each_first (λ a. 0 ≤ a.time) n (le_refl 0), rising n)

octets_first : length (admission_octets first) ≡ 14
unfolding admission_octets
octets_first = refl

right_first : IsAdmission first
right_first = record { time = omega arith; changes = tt; small = omega (arith, octets_first) }

intake : (n : ℕ) → IsIntake (crowd n)
intake n = record {
  rising = rising n;
  below = each_first (λ a. a.time ≤ last_mark) n (omega arith);
  valid = each_first IsAdmission n right_first;
  mark = le_refl last_mark;
  counted = (let e = length-replicate n first in omega (arith, e));
}

intakes : (k n : ℕ) → AllByRecursion IsIntake (replicate k (crowd n))
intakes zero n = tt
intakes (suc k) n = (intake n, intakes k n)

right : (k n : ℕ) → IsHistory (everything k n)
right k n = record {
  intakes = intakes k n;
  place = record { within = le_refl (length (all_of (everything k n))); part = inl refl };
  released = released k n (all_of (everything k n)) (all_by_time time_of _ (all_placed 0 (map (λ (i : Intake). i.admitted) (replicate k (crowd n)))) (all_at_first 0 k n));
}

-- ---- what it reaches

least_mark : (c k n : ℕ) → last_mark ≤ least (bounds c (replicate (suc k) (crowd n)) [])
least_mark c zero n = le_refl last_mark
least_mark c (suc k) n = le-min (le_refl last_mark) (least_mark (suc c) k n)

watermark : (k n : ℕ) → last_mark ≤ settled (everything (suc k) n)
watermark k n = subst (λ (ps : List (Placed Admitted)). last_mark ≤ least (bounds 0 (replicate (suc k) (crowd n)) ps)) (sym (drop-length (all_of (everything (suc k) n)))) (least_mark 0 k n)

count : (k n c : ℕ) → c < length (replicate k (crowd n)) → n ≤ count_in (slice_get (replicate k (crowd n)) c)
count zero n c lt = absurd (omega arith)
count (suc k) n zero lt = let e = length-replicate n first in omega (arith, e)
count (suc k) n (suc c) lt = count k n c (omega arith)

reaches : (k n : ℕ) → 18446744073709551615 ≤ n → ReachesAll (everything (suc k) n)
reaches k n enough = record { right = right (suc k) n; watermark = watermark k n; counts = λ c lt. (let few = count (suc k) n c lt in omega (arith, few)) }

-- a past of k collectors that reaches all
pub some_past : (k : ℕ) → 1 ≤ k → (p : Past) × ReachesAll p.history × (length p.history.intakes ≡ k)
some_past zero some = absurd (omega arith)
some_past (suc k) some = of 18446744073709551615 (le_refl 18446744073709551615)
  where
    of : (n : ℕ) → 18446744073709551615 ≤ n → (p : Past) × ReachesAll p.history × (length p.history.intakes ≡ suc k)
    of n enough = (record { history = everything (suc k) n; blocks = [] }, reaches k n enough, length-replicate (suc k) (crowd n))
