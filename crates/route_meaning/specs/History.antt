-- What an archive has admitted and applied, which moments are settled, and which history begins which.
use Rattle.std.specs.Prelude.{ℕ, List, [], ◌∷◌, ◌++◌, ◌≡◌, ◌<◌, ◌≤◌, ◌⊎◌, zero, suc, map, take, drop, length, min}
use Rattle.std.specs.List.{AllByRecursion, AllZip}
use Rattle.route_model.specs.Admission.{Admitted, IsAdmission}
use Rattle.route_model.specs.Moments.{last_mark}
use Rattle.route_meaning.specs.Merged.{Placed, placed, merged, part, IsRising}
use Rattle.route_meaning.specs.Holds.{admitted_time, time_of}

-- what one collector has given: its admissions in order, its mark, and how many records were offered for it
pub record Intake : Type 0 where
  pub admitted : List Admitted
  pub mark : ℕ
  pub offered : ℕ

-- the intakes of the collectors 0, 1 and so on; and how far the admissions are applied: the first `whole` of the merged order, and the first `some` changes of the next
pub record History : Type 0 where
  pub intakes : List Intake
  pub whole : ℕ
  pub some : ℕ

-- all that was admitted, in the one order
abbrev pub all_of : History → List (Placed Admitted)
all_of h = merged admitted_time (map (λ i. i.admitted) h.intakes)

-- what is not wholly applied
abbrev pub waiting : History → List (Placed Admitted)
waiting h = drop h.whole (all_of h)

-- the first of these with its first n changes; nothing where n is 0
abbrev pub begun : ℕ → List (Placed Admitted) → List (Placed Admitted)
begun zero ps = []
begun (suc n) [] = []
begun (suc n) (p ∷ ps) = placed p.collector (record { time = time_of p; changes = take (suc n) p.item.changes }) ∷ []

-- the first `whole` admissions, and the first `some` changes of the next
abbrev pub front : ℕ → ℕ → List (Placed Admitted) → List (Placed Admitted)
front whole some ps = take whole ps ++ begun some (drop whole ps)

-- what is applied
abbrev pub applied : History → List (Placed Admitted)
applied h = front h.whole h.some (all_of h)

-- the time of the first, or the mark if there is none
abbrev pub first_or : {X : Type 0} → (X → ℕ) → ℕ → List X → ℕ
first_or time mark [] = mark
first_or time mark (x ∷ xs) = time x

-- for each collector, of which the first has the number c: the time of the first of its admissions that wait, or its mark
abbrev pub bounds : ℕ → List Intake → List (Placed Admitted) → List ℕ
bounds c [] ps = []
bounds c (i ∷ is) ps = first_or admitted_time i.mark (part c ps) ∷ bounds (suc c) is ps

-- the least of the numbers, 0 if there is none
abbrev pub least : List ℕ → ℕ
least [] = 0
least (n ∷ []) = n
least (n ∷ m ∷ ns) = min n (least (m ∷ ns))

-- the settled watermark: a question of a moment below it is answered
abbrev pub settled : History → ℕ
settled h = least (bounds 0 h.intakes (waiting h))

-- what one collector can have given: its times never fall and are no later than its mark, each admission is one, and it was offered all that was admitted
pub record IsIntake (i : Intake) : Type 0 where
  pub rising : IsRising admitted_time i.admitted
  pub below : AllByRecursion (λ a. a.time ≤ i.mark) i.admitted
  pub valid : AllByRecursion IsAdmission i.admitted
  pub mark : i.mark ≤ last_mark
  pub counted : length i.admitted ≤ i.offered

-- the place applied has one representation: no more admissions than there are, and of the next one fewer changes than it has
pub record IsPlace (h : History) : Type 0 where
  pub within : h.whole ≤ length (all_of h)
  pub part : (h.some ≡ 0) ⊎ ((next : Placed Admitted) × (later : List (Placed Admitted)) × (waiting h ≡ next ∷ later) × (h.some < length next.item.changes))

-- the time is below every mark
abbrev pub IsBelowMarks : History → ℕ → Type 0
IsBelowMarks h time = AllByRecursion (λ i. time < i.mark) h.intakes

-- a right history: right intakes, a right place, and what is applied, wholly or in part, is below every mark
pub record IsHistory (h : History) : Type 0 where
  pub intakes : AllByRecursion IsIntake h.intakes
  pub place : IsPlace h
  pub released : AllByRecursion (λ p. IsBelowMarks h (time_of p)) (applied h)

-- the least time of what a collector may give from now on: today its mark
abbrev pub floor : Intake → ℕ
floor i = i.mark

-- what the same collector has given later, where nothing new is earlier than the floor
pub record GoesOn (least_time : ℕ) (i j : Intake) : Type 0 where
  pub more : List Admitted
  pub begins : j.admitted ≡ i.admitted ++ more
  pub after : AllByRecursion (λ a. least_time ≤ a.time) more
  pub mark : i.mark ≤ j.mark
  pub offered : i.offered ≤ j.offered

-- h begins g: g has the same collectors, each of which went on from where it was, and its place is no earlier
pub record Begins (h g : History) : Type 0 where
  pub each : AllZip (λ i j. GoesOn (floor i) i j) h.intakes g.intakes
  pub place : (h.whole < g.whole) ⊎ ((h.whole ≡ g.whole) × (h.some ≤ g.some))
