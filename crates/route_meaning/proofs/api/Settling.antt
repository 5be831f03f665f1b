-- Below the settled moment everything is applied, and nothing more can come.
use Rattle.std.proofs.Common.{◌≡◌, ◌≢◌, ℕ, ◌+◌, ◌<◌, ◌≤◌, List, [], ◌∷◌, ◌++◌, length, take, drop, map, Bool, true, false, cond, leb, eqb, refl, sym, ap, ◌∙◌, subst, inl, inr, arith, zero, suc, append-nil, min}
use Rattle.std.specs.List.{AllByRecursion, AllZip, filter}
use Rattle.std.proofs.lemmas.List.{map-append, take-append-drop}
use Rattle.std.proofs.lemmas.List.Elements.{filter-append}
use Rattle.std.proofs.lemmas.Bool.{leb-true, le-leb, lt-leb, cases_Bool, cases_eq, eqb-true, eqb-false, eq-eqb, ne_eqb}
use Rattle.route_model.specs.declared.peer.Peer.{Peer}
use Rattle.route_model.specs.Prefix.{IpPrefix}
use Rattle.route_model.specs.declared.route.Route.{Route}
use Rattle.route_model.specs.Admission.{Admitted}
use Rattle.route_meaning.specs.Holds.{admitted_time, time_of}
use Rattle.route_meaning.specs.Merged.{insert_by, by_time}
use Rattle.route_meaning.specs.Merged.{IsRising, Placed, placed, all_placed, merged, part}
use Rattle.route_meaning.specs.Holds.{until, changes_of, Holds}
use Rattle.route_meaning.specs.History.{Intake, History, GoesOn, floor, IsIntake, IsHistory, Begins, all_of, waiting, begun, applied, first_or, bounds, least, settled}
use Rattle.route_meaning.proofs.api.Sorting.{IsFront, all_weaker, all_append, all_by_time, filter-none, filter-by_time, rises_by_time}
use Rattle.route_meaning.proofs.Merging.{until-merged, until-all_placed}

pub all_drop : {X : Type 0} (P : X → Type 0) (n : ℕ) (xs : List X) → AllByRecursion P xs → AllByRecursion P (drop n xs)
all_drop P zero xs a = a
all_drop P (suc n) [] a = tt
all_drop P (suc n) (x ∷ xs) a = all_drop P n xs a.1

pub all_take : {X : Type 0} (P : X → Type 0) (n : ℕ) (xs : List X) → AllByRecursion P xs → AllByRecursion P (take n xs)
all_take P zero xs a = tt
all_take P (suc n) [] a = tt
all_take P (suc n) (x ∷ xs) a = (a.0, all_take P n xs a.1)

pub rises_drop : {X : Type 0} (time : X → ℕ) (n : ℕ) (xs : List X) → IsRising time xs → IsRising time (drop n xs)
rises_drop time zero xs r = r
rises_drop time (suc n) [] r = tt
rises_drop time (suc n) (x ∷ xs) r = rises_drop time n xs r.1

-- below the least is below each
below_least : (n : ℕ) (xs : List ℕ) → n < least xs → AllByRecursion (λ x. n < x) xs
below_least n [] lt = tt
below_least n (x ∷ []) lt = (lt, tt)
below_least n (x ∷ y ∷ ys) lt = (omega arith, below_least n (y ∷ ys) (omega arith))

-- the mark of a collector, the first of which is c
abbrev mark_at : ℕ → List Intake → ℕ → ℕ
mark_at c [] k = 0
mark_at c (i ∷ is) k = cond (eqb k c) i.mark (mark_at (suc c) is k)

pub all_map_placed : (P : Placed Admitted → Type 0) (c : ℕ) (ts : List Admitted) → AllByRecursion (λ t. P (placed c t)) ts → AllByRecursion P (map (placed c) ts)
all_map_placed P c [] a = tt
all_map_placed P c (t ∷ ts) a = (a.0, all_map_placed P c ts a.1)

all_true : (c n : ℕ) (ts : List Admitted) → AllByRecursion (λ t. (c ≤ c) × (c < c + suc n)) ts
all_true c n [] = tt
all_true c n (t ∷ ts) = ((omega arith, omega arith), all_true c n ts)

pub all_both : {X : Type 0} (P Q : X → Type 0) (xs : List X) → AllByRecursion P xs → AllByRecursion Q xs → AllByRecursion (λ x. P x × Q x) xs
all_both P Q [] a b = tt
all_both P Q (x ∷ xs) a b = ((a.0, b.0), all_both P Q xs a.1 b.1)

-- each collector's number is from c on and below the end
pub all_placed_within : (c : ℕ) (lists : List (List Admitted)) → AllByRecursion (λ p. (c ≤ p.collector) × (p.collector < c + length lists)) (all_placed c lists)
all_placed_within c [] = tt
all_placed_within c (ts ∷ lists) =
    all_append _ (map (placed c) ts) (all_placed (suc c) lists)
    (all_map_placed _ c ts (all_true c (length lists) ts))
    (all_weaker _ _ (λ p h. let a : suc c ≤ p.collector = h.0 in let b : p.collector < suc c + length lists = h.1 in (omega arith, omega arith)) _ (all_placed_within (suc c) lists))

-- no admission is later than its collector's mark
below_marks : (c : ℕ) (is : List Intake) → AllByRecursion IsIntake is → AllByRecursion (λ p. time_of p ≤ mark_at c is p.collector) (all_placed c (map (λ i. i.admitted) is))
below_marks c [] a = tt
below_marks c (i ∷ is) a =
    all_append _ (map (placed c) i.admitted) (all_placed (suc c) (map (λ i. i.admitted) is))
    (all_map_placed _ c i.admitted (all_weaker _ _ (λ t h. rw (eq-eqb c c refl) h) i.admitted a.0.below))
    (all_weaker _ _ (λ p h. let ge : suc c ≤ p.collector = h.1.0 in rw (ne_eqb p.collector c (λ e. omega arith)) h.0) _ (all_both _ _ _ (below_marks (suc c) is a.1) (all_placed_within (suc c) (map (λ i. i.admitted) is))))

first_or_le : (mark : ℕ) (ts : List Admitted) → AllByRecursion (λ t. t.time ≤ mark) ts → first_or admitted_time mark ts ≤ mark
first_or_le mark [] a = omega arith
first_or_le mark (t ∷ ts) a = a.0

part_below : (c m : ℕ) (ps : List (Placed Admitted)) → AllByRecursion (λ p. p.collector ≡ c → time_of p ≤ m) ps → AllByRecursion (λ t. t.time ≤ m) (part c ps)
part_below c m [] a = tt
part_below c m (p ∷ ps) a =
    elim (cases_eq p.collector c) [
      | inl e ↦ rw (eq-eqb p.collector c e) (a.0 e, part_below c m ps a.1)
      | inr ne ↦ rw (ne_eqb p.collector c ne) (part_below c m ps a.1)
    ]

marks_above : (moment c : ℕ) (is : List Intake) (ps : List (Placed Admitted)) → AllByRecursion (λ n. moment < n) (bounds c is ps) → AllByRecursion (λ p. c ≤ p.collector → time_of p ≤ mark_at c is p.collector) ps → AllByRecursion (λ i. moment < i.mark) is
marks_above moment c [] ps a b = tt
marks_above moment c (i ∷ is) ps a b =
    let own : AllByRecursion (λ p. p.collector ≡ c → time_of p ≤ i.mark) ps =
    all_weaker _ _ (λ p h e. let le : c ≤ p.collector = omega arith in let m = h le in rw (eq-eqb p.collector c e) at m) ps b in
    let le : first_or admitted_time i.mark (part c ps) ≤ i.mark = first_or_le i.mark (part c ps) (part_below c i.mark ps own) in
    let lt : moment < first_or admitted_time i.mark (part c ps) = a.0 in (
      omega arith,
      marks_above moment (suc c) is ps a.1 (all_weaker _ _ (λ p h le'. let le'' : c ≤ p.collector = omega arith in let m = h le'' in rw (ne_eqb p.collector c (λ e. omega arith)) at m) ps b),
    )

first_above : (moment c : ℕ) (is : List Intake) (p : Placed Admitted) (ps : List (Placed Admitted)) → AllByRecursion (λ n. moment < n) (bounds c is (p ∷ ps)) → c ≤ p.collector → p.collector < c + length is → moment < time_of p
first_above moment c [] p ps a low high = absurd (omega arith)
first_above moment c (i ∷ is) p ps a low high =
    elim (cases_eq p.collector c) [
      | inl e ↦ let h = a.0 in rw (eq-eqb p.collector c e) at h
      | inr ne ↦ first_above moment (suc c) is p ps a.1 (omega arith) (omega arith)
    ]

late_from : (moment : ℕ) (is : List Intake) (ps : List (Placed Admitted)) → AllByRecursion (λ n. moment < n) (bounds 0 is ps) → AllByRecursion (λ p. (0 ≤ p.collector) × (p.collector < 0 + length is)) ps → IsRising time_of ps → AllByRecursion (λ p. moment < time_of p) ps
late_from moment is [] a w r = tt
late_from moment is (p ∷ ps) a w r =
    let lt : moment < time_of p = first_above moment 0 is p ps a w.0.0 w.0.1 in
    (lt, all_weaker _ _ (λ q h. let le : time_of p ≤ time_of q = h in omega arith) ps r.0)

length_map : {X Y : Type 0} (f : X → Y) (xs : List X) → length (map f xs) ≡ length xs
length_map f [] = refl
length_map f (x ∷ xs) = ap suc (length_map f xs)

-- every mark is above a moment below the settled one
pub marks_above_settled : (h : History) (moment : ℕ) → IsHistory h → moment < settled h → AllByRecursion (λ i. moment < i.mark) h.intakes
marks_above_settled h moment is lt =
    marks_above moment 0 h.intakes (waiting h) (below_least moment _ lt)
    (all_weaker _ _ (λ p le _. le) (waiting h) (all_drop _ h.whole (all_of h) (all_by_time time_of _ (all_placed 0 (map (λ i. i.admitted) h.intakes)) (below_marks 0 h.intakes is.intakes))))

-- and so is all that waits
pub waiting_after_settled : (h : History) (moment : ℕ) → moment < settled h → AllByRecursion (λ p. moment < time_of p) (waiting h)
waiting_after_settled h moment lt =
    late_from moment h.intakes (waiting h) (below_least moment _ lt)
    (all_drop _ h.whole (all_of h) (all_by_time time_of _ (all_placed 0 (map (λ i. i.admitted) h.intakes)) (rw (length_map (λ (i : Intake). i.admitted) h.intakes) at (all_placed_within 0 (map (λ i. i.admitted) h.intakes)))))
    (rises_drop time_of h.whole (all_of h) (rises_by_time time_of (all_placed 0 (map (λ i. i.admitted) h.intakes))))

pub until-late : (moment : ℕ) (ps : List (Placed Admitted)) → AllByRecursion (λ p. moment < time_of p) ps → until moment ps ≡ []
until-late moment ps late = filter-none (λ p. leb (time_of p) moment) ps (all_weaker _ _ (λ p lt. lt-leb (time_of p) moment lt) ps late)

begun_late : (moment n : ℕ) (ps : List (Placed Admitted)) → AllByRecursion (λ p. moment < time_of p) ps → AllByRecursion (λ p. moment < time_of p) (begun n ps)
begun_late moment zero ps late = tt
begun_late moment (suc n) [] late = tt
begun_late moment (suc n) (p ∷ ps) late = (late.0, tt)

-- what is applied up to a moment below the settled one is all that there is
pub until-applied : (h : History) (moment : ℕ) → moment < settled h → until moment (applied h) ≡ until moment (all_of h)
until-applied h moment lt =
    let late = waiting_after_settled h moment lt in
    let front = filter-append (λ p. leb (time_of p) moment) (take h.whole (all_of h)) (begun h.some (waiting h)) in
    let all = ap (until moment) (sym (take-append-drop h.whole (all_of h))) ∙ filter-append (λ p. leb (time_of p) moment) (take h.whole (all_of h)) (waiting h) in
    let none : until moment (begun h.some (waiting h)) ≡ [] = until-late moment (begun h.some (waiting h)) (begun_late moment h.some (waiting h) late) in
    let none' : until moment (waiting h) ≡ [] = until-late moment (waiting h) late in
    front ∙ (ap (λ ps. until moment (take h.whole (all_of h)) ++ ps) (none ∙ sym none') ∙ sym all)

-- a history that goes on has the same admissions up to that moment
pub until-begins : (h g : History) (moment : ℕ) → IsHistory h → Begins h g → moment < settled h → until moment (all_of g) ≡ until moment (all_of h)
until-begins h g moment is begins lt =
    until-merged moment (map (λ i. i.admitted) g.intakes)
    ∙ (ap (by_time time_of) (until-all_placed moment 0 h.intakes g.intakes begins.each (marks_above_settled h moment is lt))
    ∙ sym (until-merged moment (map (λ i. i.admitted) h.intakes)))

-- only what stands up to the moment counts
pub Holds-until : (ps qs : List (Placed Admitted)) (moment : ℕ) (peer : Peer) (prefix : IpPrefix) (route : Route) → until moment ps ≡ until moment qs → Holds ps moment peer prefix route → Holds qs moment peer prefix route
Holds-until ps qs moment peer prefix route e h = record { before = h.before; after = h.after; announced = ap changes_of (sym e) ∙ h.announced; stays = h.stays }
