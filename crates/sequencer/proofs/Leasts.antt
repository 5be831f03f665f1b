-- A running least is the least.
use Rattle.std.proofs.Common.{◌≡◌, ℕ, ◌+◌, ◌<◌, ◌≤◌, List, [], ◌∷◌, ◌++◌, length, map, get_or, take, refl, sym, ap, ◌∙◌, arith, zero, suc, min}
use Rattle.std.proofs.lemmas.List.{take_more}
use Rattle.sequencer.specs.Lanes.{Waiting, bound_of}
use Rattle.route_meaning.specs.History.{least}

abbrev pub lowest : ℕ → List Waiting → ℕ
lowest n [] = n
lowest n (w ∷ ws) = min (bound_of w) (lowest n ws)

lowest-push : (n : ℕ) (ws : List Waiting) (w : Waiting) → lowest n (ws ++ w ∷ []) ≡ min (bound_of w) (lowest n ws)
lowest-push n [] w = refl
lowest-push n (v ∷ ws) w = rw (lowest-push n ws w) (omega arith)

pub lowest_more : (n : ℕ) (ws : List Waiting) (i : ℕ) (w : Waiting) → i < length ws → w ≡ get_or ws i w → lowest n (take (i + 1) ws) ≡ min (lowest n (take i ws)) (bound_of w)
lowest_more n ws i w lt e = ap (lowest n) (take_more ws i w lt) ∙ (lowest-push n (take i ws) (get_or ws i w) ∙ (ap (λ (v : Waiting). min (bound_of v) (lowest n (take i ws))) (sym e) ∙ omega arith))

lowest_least : (w : Waiting) (ws : List Waiting) → least (map bound_of (w ∷ ws)) ≡ lowest (bound_of w) ws
lowest_least w [] = refl
lowest_least w (v ∷ ws) = rw (lowest_least v ws) (lowest_swap w v ws)
  where
    lowest_of : (m n : ℕ) (us : List Waiting) → min m (lowest n us) ≡ min n (lowest m us)
    lowest_of m n [] = omega arith
    lowest_of m n (u ∷ us) = let ih = lowest_of m n us in omega (arith, ih)

    lowest_swap : (w v : Waiting) (us : List Waiting) → min (bound_of w) (lowest (bound_of v) us) ≡ min (bound_of v) (lowest (bound_of w) us)
    lowest_swap w v us = lowest_of (bound_of w) (bound_of v) us

twice : (n : ℕ) (us : List Waiting) → min n (lowest n us) ≡ lowest n us
twice n [] = omega arith
twice n (u ∷ us) = let ih = twice n us in omega (arith, ih)

pub lowest_all : (ws : List Waiting) (w : Waiting) → 0 < length ws → w ≡ get_or ws 0 w → lowest (bound_of w) ws ≡ least (map bound_of ws)
lowest_all [] w lt e = absurd (omega arith)
lowest_all (v ∷ ws) w lt e = ap (λ (x : Waiting). lowest (bound_of x) (v ∷ ws)) e ∙ (twice (bound_of v) ws ∙ sym (lowest_least v ws))

pub take_whole : (n : ℕ) (ws : List Waiting) → length ws ≤ n → take n ws ≡ ws
take_whole zero [] le = refl
take_whole zero (w ∷ ws) le = absurd (omega arith)
take_whole (suc n) [] le = refl
take_whole (suc n) (w ∷ ws) le = ap (λ l. w ∷ l) (take_whole n ws (omega arith))
