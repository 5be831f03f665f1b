-- Which offered items are late.
use Rattle.std.specs.Prelude.{ℕ, List, [], ◌∷◌, ◌++◌, ◌+◌, Bool, cond, ◌||◌, nat_lt, max}
use Rattle.std.specs.List.{list_any}
use Rattle.sequencer.specs.declared.late.Late.{Late}

-- the greatest of the mark and the times
abbrev pub greatest : ℕ → List ℕ → ℕ
greatest mark [] = mark
greatest mark (t ∷ ts) = max t (greatest mark ts)

-- the time is below the mark or below some earlier time
abbrev pub is_late : ℕ → List ℕ → ℕ → Bool
is_late mark earlier t = nat_lt t mark || list_any (λ u. nat_lt t u) earlier

-- the items that aren't late, if items of the earlier times were offered before them
abbrev pub timely : {X : Type 0} → (X → ℕ) → ℕ → List ℕ → List X → List X
timely time mark earlier [] = []
timely time mark earlier (x ∷ xs) =
    cond (is_late mark earlier (time x)) (timely time mark (earlier ++ time x ∷ []) xs) (x ∷ timely time mark (earlier ++ time x ∷ []) xs)

-- the late ones, each with its place, the first of which is i, and the greatest of the mark and the earlier times
abbrev pub lates : {X : Type 0} → (X → ℕ) → ℕ → List ℕ → ℕ → List X → List Late
lates time mark earlier i [] = []
lates time mark earlier i (x ∷ xs) =
    cond (is_late mark earlier (time x))
    (record { index = i; time = time x; mark = greatest mark earlier } ∷ lates time mark (earlier ++ time x ∷ []) (i + 1) xs)
    (lates time mark (earlier ++ time x ∷ []) (i + 1) xs)
