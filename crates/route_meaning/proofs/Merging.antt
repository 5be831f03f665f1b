-- The merged list up to a moment depends on what each collector gave up to that moment alone.
use Rattle.std.proofs.Common.{◌≡◌, ℕ, ◌+◌, ◌<◌, ◌≤◌, List, [], ◌∷◌, ◌++◌, length, take, drop, map, Bool, true, false, cond, leb, refl, sym, ap, ◌∙◌, subst, inl, inr, arith, zero, suc, append-nil}
use Rattle.std.specs.List.{AllByRecursion, AllZip, filter}
use Rattle.std.proofs.lemmas.List.{map-append}
use Rattle.std.proofs.lemmas.List.Elements.{filter-append}
use Rattle.std.proofs.lemmas.Bool.{leb-true, le-leb, lt-leb}
use Rattle.route_model.specs.Admission.{Admitted}
use Rattle.route_meaning.specs.Holds.{admitted_time, time_of}
use Rattle.route_meaning.specs.Merged.{insert_by, by_time}
use Rattle.route_meaning.specs.Merged.{IsRising, Placed, placed, all_placed, merged, part}
use Rattle.route_meaning.specs.Holds.{until}
use Rattle.route_meaning.specs.History.{Intake, GoesOn, floor}
use Rattle.route_meaning.proofs.api.Sorting.{IsFront, all_weaker, filter-none, filter-by_time, rises_by_time}

pub until-IsFront : (moment : ℕ) → IsFront time_of (λ p. leb (time_of p) moment)
until-IsFront moment x y le h = le-leb _ _ (omega (arith, leb-true _ _ h))

pub until-merged : (moment : ℕ) (lists : List (List Admitted)) → until moment (merged admitted_time lists) ≡ by_time time_of (until moment (all_placed 0 lists))
until-merged moment lists = filter-by_time time_of (λ p. leb (time_of p) moment) (until-IsFront moment) (all_placed 0 lists)

all_placed_late : (moment c : ℕ) (ts : List Admitted) → AllByRecursion (λ t. moment < t.time) ts → AllByRecursion (λ p. leb (time_of p) moment ≡ false) (map (placed c) ts)
all_placed_late moment c [] a = tt
all_placed_late moment c (t ∷ ts) a = (lt-leb _ _ a.0, all_placed_late moment c ts a.1)

-- what follows after the moment doesn't count
pub until-front : (moment c : ℕ) (ts more : List Admitted) → AllByRecursion (λ t. moment < t.time) more → until moment (map (placed c) (ts ++ more)) ≡ until moment (map (placed c) ts)
until-front moment c ts more late =
    rw (map-append (placed c) ts more, filter-append (λ p. leb (time_of p) moment) (map (placed c) ts) (map (placed c) more), filter-none (λ p. leb (time_of p) moment) (map (placed c) more) (all_placed_late moment c more late)) (append-nil _)

pub until-all_placed : (moment c : ℕ) (is js : List Intake) → AllZip (λ i j. GoesOn (floor i) i j) is js → AllByRecursion (λ i. moment < i.mark) is → until moment (all_placed c (map (λ i. i.admitted) js)) ≡ until moment (all_placed c (map (λ i. i.admitted) is))
until-all_placed moment c [] [] z below = refl
until-all_placed moment c [] (j ∷ js) z below = absurd z
until-all_placed moment c (i ∷ is) [] z below = absurd z
until-all_placed moment c (i ∷ is) (j ∷ js) z below =
    let lt : moment < i.mark = below.0 in
    let late : AllByRecursion (λ t. moment < t.time) z.0.more = all_weaker _ _ (λ t h. let le : i.mark ≤ t.time = h in omega arith) z.0.more z.0.after in
    rw (
      filter-append (λ p. leb (time_of p) moment) (map (placed c) j.admitted) (all_placed (suc c) (map (λ i. i.admitted) js)),
      filter-append (λ p. leb (time_of p) moment) (map (placed c) i.admitted) (all_placed (suc c) (map (λ i. i.admitted) is)),
      until-all_placed moment (suc c) is js z.1 below.1,
      z.0.begins,
      until-front moment c i.admitted z.0.more late,
    ) refl
