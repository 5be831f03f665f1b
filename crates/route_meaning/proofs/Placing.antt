-- The lists of the collectors, one after another.
use Rattle.std.proofs.Common.{◌≡◌, ℕ, ◌+◌, ◌<◌, List, [], ◌∷◌, ◌++◌, length, map, take, get_or, refl, sym, ap, ◌∙◌, arith, suc, append-nil, append_assoc, add-zero}
use Rattle.std.proofs.lemmas.List.{length-map, length-take-le, map_more}
use Rattle.std.proofs.Math.Nat.{le_of_lt}
use Rattle.route_meaning.specs.Merged.{Placed, placed, all_placed}

pub all_placed-push : {X : Type 0} (c : ℕ) (lists : List (List X)) (xs : List X) → all_placed c (lists ++ xs ∷ []) ≡ all_placed c lists ++ map (placed (c + length lists)) xs
all_placed-push c [] xs = rw (append-nil, add-zero) refl
all_placed-push c (ys ∷ lists) xs =
    let next : suc c + length lists ≡ c + suc (length lists) = omega arith in
    ap (λ l. map (placed c) ys ++ l) (all_placed-push (suc c) lists xs ∙ ap (λ (n : ℕ). all_placed (suc c) lists ++ map (placed n) xs) next)
    ∙ sym (append_assoc (map (placed c) ys) (all_placed (suc c) lists) (map (placed (c + length (ys ∷ lists))) xs))

-- one more list
pub all_placed_more : {X L : Type 0} (items : L → List X) (lists : List L) (i : ℕ) (list : L) → i < length lists → list ≡ get_or lists i list → (old new : List (Placed X)) → old ≡ all_placed 0 (map items (take i lists)) → new ≡ old ++ map (placed i) (items list) → new ≡ all_placed 0 (map items (take (i + 1) lists))
all_placed_more items lists i list lt is old new o n =
    let count : 0 + length (map items (take i lists)) ≡ i = omega (arith, length-map (take i lists) items, length-take-le i lists (le_of_lt lt)) in
    n ∙ (ap (λ l. l ++ map (placed i) (items list)) o
    ∙ sym (ap (all_placed 0) (map_more items lists i list lt ∙ ap (λ x. map items (take i lists) ++ items x ∷ []) (sym is))
    ∙ (all_placed-push 0 (map items (take i lists)) (items list) ∙ ap (λ k. all_placed 0 (map items (take i lists)) ++ map (placed k) (items list)) count)))
