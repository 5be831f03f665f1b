-- A loop over the lanes finds the first.
use Rattle.std.proofs.Common.{◌≡◌, ℕ, ◌+◌, ◌<◌, ◌≤◌, ◌⊎◌, List, [], ◌∷◌, length, get_or, leb, sym, ap, ◌∙◌, subst, arith, inl, inr, Some, None, Option, zero, suc}
use Rattle.std.specs.List.{slice_get}
use Rattle.std.specs.Option.{IfSome, IfNone}
use Rattle.std.proofs.lemmas.Bool.{cond_both, cases_eq, cases_lt, leb-true, leb-false}
use Rattle.sequencer.specs.declared.first.Candidate.{Candidate}
use Rattle.sequencer.specs.Lanes.{Waiting, waiting_times}
use Rattle.sequencer.specs.First.{IsFirstLane}
use Rattle.sequencer.specs.inner.Searching.{NoneWaits, better_of}

-- the first of the lanes below i
pub record Best (lanes : List Waiting) (i c t : ℕ) : Type 0 where
  pub rest : List ℕ
  pub below : c < i
  pub here : slice_get (waiting_times lanes) c ≡ Some (t ∷ rest)
  pub before : (k u : ℕ) (us : List ℕ) → k < i → slice_get (waiting_times lanes) k ≡ Some (u ∷ us) → (k < c → t < u) × (c ≤ k → t ≤ u)

abbrev pub NoneBelow : List Waiting → ℕ → Type 0
NoneBelow lanes i = (k u : ℕ) (us : List ℕ) → k < i → slice_get (waiting_times lanes) k ≡ Some (u ∷ us) → ⊥

abbrev pub IsBest : List Waiting → ℕ → Option Candidate → Type 0
IsBest lanes i None = NoneBelow lanes i
IsBest lanes i (Some r) = Best lanes i r.number r.time

pub at_lane : (lanes : List Waiting) (i : ℕ) (w : Waiting) → i < length lanes → w ≡ get_or lanes i w → slice_get (waiting_times lanes) i ≡ Some w.times
at_lane [] i w lt e = absurd (omega arith)
at_lane (v ∷ lanes) zero w lt e = ap (λ (x : Waiting). Some x.times) (sym e)
at_lane (v ∷ lanes) (suc i) w lt e = at_lane lanes i w (omega arith) e

pub past_end : (lanes : List Waiting) (k : ℕ) (us : List ℕ) → slice_get (waiting_times lanes) k ≡ Some us → k < length lanes
past_end [] k us e = cc
past_end (w ∷ lanes) zero us e = omega arith
past_end (w ∷ lanes) (suc k) us e = let ih = past_end lanes k us e in omega (arith, ih)

head_is : (xs : List ℕ) (t : ℕ) → slice_get xs 0 ≡ Some t → (rest : List ℕ) × (xs ≡ t ∷ rest)
head_is [] t e = cc
head_is (x ∷ xs) t e = let same : x ≡ t = cc in (xs, ap (λ (y : ℕ). y ∷ xs) same)

cut : (k i : ℕ) → k < i + 1 → (k < i) ⊎ (k ≡ i)
cut k i lt = elim (cases_eq k i) [ inl e ↦ inr e | inr ne ↦ inl (omega arith) ]

pub best_more : (lanes : List Waiting) (i : ℕ) (times : List ℕ) (found : Option Candidate) (first : Option ℕ) → slice_get (waiting_times lanes) i ≡ Some times → first ≡ slice_get times 0 → IsBest lanes i found → IsBest lanes (i + 1) (better_of found i first)
best_more lanes i [] None None at is b = λ k u us lt e. elim (cut k i lt) [ inl l ↦ b k u us l e | inr same ↦ let here = subst (λ (n : ℕ). slice_get (waiting_times lanes) n ≡ Some (u ∷ us)) same e in cc ]
best_more lanes i [] (Some r) None at is b = record { rest = b.rest; below = omega (arith, b.below); here = b.here; before = λ k u us lt e. elim (cut k i lt) [ inl l ↦ b.before k u us l e | inr same ↦ let here = subst (λ (n : ℕ). slice_get (waiting_times lanes) n ≡ Some (u ∷ us)) same e in cc ] }
best_more lanes i (x ∷ xs) found None at is b = cc
best_more lanes i [] None (Some t) at is b = cc
best_more lanes i [] (Some r) (Some t) at is b = cc
best_more lanes i (x ∷ xs) None (Some t) at is b =
    let same : x ≡ t = cc in
    record { rest = xs; below = omega arith; here = at ∙ ap (λ (y : ℕ). Some (y ∷ xs)) same; before = λ k u us lt e. elim (cut k i lt) [ inl l ↦ absurd (b k u us l e) | inr eq ↦ let here = subst (λ (n : ℕ). slice_get (waiting_times lanes) n ≡ Some (u ∷ us)) eq e in let u_is : u ≡ x = cc in (λ l. absurd (omega arith), λ l. omega arith) ] }
best_more lanes i (x ∷ xs) (Some r) (Some t) at is b =
    let same : x ≡ t = cc in
    cond_both (leb r.time t) (Some r) (Some (record { number = i; time = t })) (IsBest lanes (i + 1))
    (λ e'. let le : r.time ≤ t = leb-true _ _ e' in record { rest = b.rest; below = omega (arith, b.below); here = b.here; before = λ k u us lt e. elim (cut k i lt) [ inl l ↦ b.before k u us l e | inr eq ↦ let here = subst (λ (n : ℕ). slice_get (waiting_times lanes) n ≡ Some (u ∷ us)) eq e in let u_is : u ≡ x = cc in (λ l. let under = b.below in absurd (omega arith), λ l. omega arith) ] })
    (λ e'. let gt : t < r.time = leb-false _ _ e' in record { rest = xs; below = omega arith; here = at ∙ ap (λ (y : ℕ). Some (y ∷ xs)) same; before = λ k u us lt e. elim (cut k i lt) [ inl l ↦ (λ l'. earlier k u us l e gt, λ l'. absurd (omega arith)) | inr eq ↦ let here = subst (λ (n : ℕ). slice_get (waiting_times lanes) n ≡ Some (u ∷ us)) eq e in let u_is : u ≡ x = cc in (λ l. absurd (omega arith), λ l. omega arith) ] })
  where
    earlier : (k u : ℕ) (us : List ℕ) → k < i → slice_get (waiting_times lanes) k ≡ Some (u ∷ us) → t < r.time → t < u
    earlier k u us l e gt = let f = b.before k u us l e in elim (cases_lt k r.number) [ inl lt ↦ (let h : r.time < u = f.0 lt in omega arith) | inr ge ↦ (let h : r.time ≤ u = f.1 ge in omega arith) ]

pub best_all : (lanes : List Waiting) (n : ℕ) (r : Candidate) → length lanes ≤ n → Best lanes n r.number r.time → IsFirstLane lanes r.number r.time
best_all lanes n r le b = record { rest = b.rest; here = b.here; before = λ k u us e. b.before k u us (let lt = past_end lanes k (u ∷ us) e in omega (arith, lt)) e }

pub none_all : (lanes : List Waiting) (n : ℕ) → length lanes ≤ n → NoneBelow lanes n → NoneWaits lanes
none_all lanes n le b = λ k u us e. b k u us (let lt = past_end lanes k (u ∷ us) e in omega (arith, lt)) e

pub some_all : (lanes : List Waiting) (n : ℕ) (found : Option Candidate) → length lanes ≤ n → IsBest lanes n found → IfSome found (λ r. IsFirstLane lanes r.number r.time)
some_all lanes n None le b = tt
some_all lanes n (Some r) le b = best_all lanes n r le b

pub none_found : (lanes : List Waiting) (n : ℕ) (found : Option Candidate) → length lanes ≤ n → IsBest lanes n found → IfNone found (NoneWaits lanes)
none_found lanes n None le b = none_all lanes n le b
none_found lanes n (Some r) le b = tt
