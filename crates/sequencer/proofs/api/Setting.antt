-- One lane of several is another.
use Rattle.std.proofs.Common.{◌≡◌, ℕ, ◌<◌, List, [], ◌∷◌, ◌++◌, length, get_or, map, replicate, refl, sym, ap, ◌∙◌, subst, arith, Some, Option, zero, suc}
use Rattle.std.specs.List.{AllByRecursion, slice_get, slice_set}
use Rattle.sequencer.specs.Lanes.{Waiting, marks, waiting_times, IsLane}

pub get_some : {A : Type 0} (xs : List A) (c : ℕ) (x : A) → c < length xs → x ≡ get_or xs c x → slice_get xs c ≡ Some x
get_some [] c x lt e = absurd (omega arith)
get_some {A} (y ∷ xs) zero x lt e = ap (λ (z : A). Some z) (sym e)
get_some (y ∷ xs) (suc c) x lt e = get_some xs c x (omega arith) e

pub marks_at : (lanes : List Waiting) (c : ℕ) (w : Waiting) → slice_get lanes c ≡ Some w → slice_get (marks lanes) c ≡ Some w.mark
marks_at [] c w e = cc
marks_at (v ∷ lanes) zero w e = let same : v ≡ w = cc in ap (λ (x : Waiting). Some x.mark) same
marks_at (v ∷ lanes) (suc c) w e = marks_at lanes c w e

pub marks_set : (lanes : List Waiting) (c : ℕ) (w : Waiting) → marks (slice_set lanes c w) ≡ slice_set (marks lanes) c w.mark
marks_set [] c w = refl
marks_set (v ∷ lanes) zero w = refl
marks_set (v ∷ lanes) (suc c) w = ap (λ (l : List ℕ). v.mark ∷ l) (marks_set lanes c w)

pub times_set : (lanes : List Waiting) (c : ℕ) (w : Waiting) → waiting_times (slice_set lanes c w) ≡ slice_set (waiting_times lanes) c w.times
times_set [] c w = refl
times_set (v ∷ lanes) zero w = refl
times_set (v ∷ lanes) (suc c) w = ap (λ (l : List (List ℕ)). v.times ∷ l) (times_set lanes c w)

pub marks_same : (lanes : List Waiting) (c : ℕ) (v w : Waiting) → slice_get lanes c ≡ Some v → w.mark ≡ v.mark → marks (slice_set lanes c w) ≡ marks lanes
marks_same [] c v w here m = refl
marks_same (u ∷ lanes) zero v w here m = let same : u ≡ v = cc in ap (λ (n : ℕ). n ∷ marks lanes) (m ∙ ap (λ (x : Waiting). x.mark) (sym same))
marks_same (u ∷ lanes) (suc c) v w here m = ap (λ (l : List ℕ). u.mark ∷ l) (marks_same lanes c v w here m)

pub times_same : (lanes : List Waiting) (c : ℕ) (v w : Waiting) → slice_get lanes c ≡ Some v → w.times ≡ v.times → waiting_times (slice_set lanes c w) ≡ waiting_times lanes
times_same [] c v w here m = refl
times_same (u ∷ lanes) zero v w here m = let same : u ≡ v = cc in ap (λ (n : List ℕ). n ∷ waiting_times lanes) (m ∙ ap (λ (x : Waiting). x.times) (sym same))
times_same (u ∷ lanes) (suc c) v w here m = ap (λ (l : List (List ℕ)). u.times ∷ l) (times_same lanes c v w here m)

pub all_set : {A : Type 0} (P : A → Type 0) (xs : List A) (c : ℕ) (x : A) → AllByRecursion P xs → P x → AllByRecursion P (slice_set xs c x)
all_set P [] c x all here = tt
all_set P (y ∷ xs) zero x all here = (here, all.1)
all_set P (y ∷ xs) (suc c) x all here = (all.0, all_set P xs c x all.1 here)

pub all_at : {A : Type 0} (P : A → Type 0) (xs : List A) (c : ℕ) (x : A) → AllByRecursion P xs → slice_get xs c ≡ Some x → P x
all_at P [] c x all here = cc
all_at {A} P (y ∷ xs) zero x all here = let same : y ≡ x = cc in subst P same all.0
all_at P (y ∷ xs) (suc c) x all here = all_at P xs c x all.1 here

pub set_there : {A : Type 0} (xs : List A) (c : ℕ) (x : A) → c < length xs → slice_get (slice_set xs c x) c ≡ Some x
set_there [] c x lt = absurd (omega arith)
set_there (y ∷ xs) zero x lt = refl
set_there (y ∷ xs) (suc c) x lt = set_there xs c x (omega arith)

pub one_there : {A : Type 0} (o : Option A) (x y : A) → o ≡ Some x → o ≡ Some y → x ≡ y
one_there o x y e f = cc

-- lanes of which none gave anything
pub all_empty : (lanes : List Waiting) (n : ℕ) → waiting_times lanes ≡ replicate n [] → AllByRecursion IsLane lanes
all_empty [] n e = tt
all_empty (w ∷ lanes) zero e = cc
all_empty (w ∷ lanes) (suc n) e =
    let none : w.times ≡ [] = cc in
    let rest : waiting_times lanes ≡ replicate n [] = cc in
    (subst (λ (ts : List ℕ). IsLane (record { mark = w.mark; times = ts; room = w.room })) (sym none) (record { rising = tt; below = tt }), all_empty lanes n rest)

pub replicate-push : {A : Type 0} (n : ℕ) (x : A) → replicate n x ++ x ∷ [] ≡ replicate (suc n) x
replicate-push zero x = refl
replicate-push {A} (suc n) x = ap (λ (l : List A). x ∷ l) (replicate-push n x)

map-push : {A B : Type 0} (f : A → B) (xs : List A) (x : A) → map f (xs ++ x ∷ []) ≡ map f xs ++ f x ∷ []
map-push f [] x = refl
map-push {B = B} f (y ∷ xs) x = ap (λ (l : List B). f y ∷ l) (map-push f xs x)

-- one more lane that gave nothing
pub marks-push : (lanes : List Waiting) (w : Waiting) (n : ℕ) → w.mark ≡ 0 → marks lanes ≡ replicate n 0 → marks (lanes ++ w ∷ []) ≡ replicate (suc n) 0
marks-push lanes w n e is = map-push (λ (v : Waiting). v.mark) lanes w ∙ ap (λ (l : List ℕ). l ++ w.mark ∷ []) is ∙ ap (λ (m : ℕ). replicate n 0 ++ m ∷ []) e ∙ replicate-push n 0

pub times-push : (lanes : List Waiting) (w : Waiting) (n : ℕ) → w.times ≡ [] → waiting_times lanes ≡ replicate n [] → waiting_times (lanes ++ w ∷ []) ≡ replicate (suc n) []
times-push lanes w n e is = map-push (λ (v : Waiting). v.times) lanes w ∙ ap (λ (l : List (List ℕ)). l ++ w.times ∷ []) is ∙ ap (λ (m : List ℕ). replicate n [] ++ m ∷ []) e ∙ replicate-push n []
