-- One order of what several collectors gave: by time, then by collector, then as the collector gave it.
use Rattle.std.specs.Prelude.{ℕ, List, [], ◌∷◌, ◌++◌, zero, suc, map, filter, cond, nat_le, ◌==◌, ◌≡◌, ◌<◌, ◌≤◌, ◌⊎◌}
use Rattle.std.specs.List.{AllByRecursion}

-- an item with the number of the collector that gave it
pub record Placed (X : Type 0) : Type 0 where
  pub collector : ℕ
  pub item : X

-- the item with this number
abbrev pub placed : {X : Type 0} → ℕ → X → Placed X
placed c x = record { collector = c; item = x }

-- x before the first that has its time or a later one
abbrev pub insert_by : {X : Type 0} → (X → ℕ) → X → List X → List X
insert_by time x [] = x ∷ []
insert_by time x (y ∷ ys) = cond (nat_le (time x) (time y)) (x ∷ y ∷ ys) (y ∷ insert_by time x ys)

-- the same items in the order of time; items of one time keep their order
abbrev pub by_time : {X : Type 0} → (X → ℕ) → List X → List X
by_time time [] = []
by_time time (x ∷ xs) = insert_by time x (by_time time xs)

-- the lists one after another, each item with its collector, of which the first has the number c
abbrev pub all_placed : {X : Type 0} → ℕ → List (List X) → List (Placed X)
all_placed c [] = []
all_placed c (xs ∷ lists) = map (placed c) xs ++ all_placed (suc c) lists

-- the lists of the collectors 0, 1 and so on in one order: by time, then by collector, then in the order of the list
abbrev pub merged : {X : Type 0} → (X → ℕ) → List (List X) → List (Placed X)
merged time lists = by_time (λ p. time p.item) (all_placed 0 lists)

-- what the collector c gave
abbrev pub part : {X : Type 0} → ℕ → List (Placed X) → List X
part c ps = map (λ p. p.item) (filter (λ p. p.collector == c) ps)

-- what each of k collectors gave, of which the first has the number c
abbrev pub parts : {X : Type 0} → ℕ → ℕ → List (Placed X) → List (List X)
parts c zero ps = []
parts c (suc k) ps = part c ps ∷ parts (suc c) k ps

-- p may stand before q: it is earlier, or of the same time and of no later collector
abbrev pub IsBefore : {X : Type 0} → (X → ℕ) → Placed X → Placed X → Type 0
IsBefore time p q = (time p.item < time q.item) ⊎ ((time p.item ≡ time q.item) × (p.collector ≤ q.collector))

-- each may stand before all that follow it
abbrev pub IsInOrder : {X : Type 0} → (X → ℕ) → List (Placed X) → Type 0
IsInOrder time [] = Unit {0}
IsInOrder time (p ∷ ps) = AllByRecursion (IsBefore time p) ps × IsInOrder time ps

-- the times never fall
abbrev pub IsRising : {X : Type 0} → (X → ℕ) → List X → Type 0
IsRising time [] = Unit {0}
IsRising time (x ∷ xs) = AllByRecursion (λ y. time x ≤ time y) xs × IsRising time xs
