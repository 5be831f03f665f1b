-- The children of key nodes, in the order of their lowest keys.
use Rattle.std.proofs.Common.{◌≡◌, ℕ, zero, suc, ◌<◌, ◌≤◌, List, [], ◌∷◌, Some, slice_get, length, take, drop, refl, ap, arith}
use Rattle.std.specs.List.{insert, AllByRecursion}
use Rattle.std.proofs.lemmas.Option.{same_Some, none-some}
use Rattle.version_model.specs.declared.child.Child.{Child}
use Rattle.tsb_node.specs.Columns.{AreAscending, BeginsAt}
use Rattle.tsb_node.specs.KeyNodes.{lows_of}
use Rattle.tsb_tree.specs.KeyNodes.{BeginsAfter}

all_up : (m n : ℕ) (ns : List ℕ) → m ≤ n → AllByRecursion (λ later. n < later) ns → AllByRecursion (λ later. m < later) ns
all_up m n [] le all = tt
all_up m n (k ∷ ns) le all = (omega (arith, le, all.0), all_up m n ns le all.1)

all_get : (n : ℕ) (cs : List Child) (i : ℕ) (c : Child) → AllByRecursion (λ later. n < later) (lows_of cs) → slice_get cs i ≡ Some c → n < c.low
all_get n [] i c all at = absurd (none-some c at)
all_get n (d ∷ cs) zero c all at = (let e = ap (λ (x : Child). x.low) (same_Some d c at) in omega (arith, e, all.0))
all_get n (d ∷ cs) (suc i) c all at = all_get n cs i c all.1 at

above_all : (n : ℕ) (cs : List Child) → AreAscending (lows_of cs) → ((c : Child) → slice_get cs 0 ≡ Some c → n < c.low) → AllByRecursion (λ later. n < later) (lows_of cs)
above_all n [] up first = tt
above_all n (c ∷ cs) up first = (first c refl, all_up n c.low (lows_of cs) (let h : n < c.low = first c refl in omega arith) up.0)

insert_above : (n : ℕ) (cs : List Child) (i : ℕ) (new : Child) → AllByRecursion (λ later. n < later) (lows_of cs) → n < new.low → AllByRecursion (λ later. n < later) (lows_of (insert cs i new))
insert_above n [] zero new all lt = (lt, tt)
insert_above n [] (suc i) new all lt = (lt, tt)
insert_above n (c ∷ cs) zero new all lt = (lt, all)
insert_above n (c ∷ cs) (suc i) new all lt = (all.0, insert_above n cs i new all.1 lt)

pub insert_each : (P : Child → Type 0) (cs : List Child) (i : ℕ) (new : Child) → AllByRecursion P cs → P new → AllByRecursion P (insert cs i new)
insert_each P [] zero new all is = (is, tt)
insert_each P [] (suc i) new all is = (is, tt)
insert_each P (c ∷ cs) zero new all is = (is, all)
insert_each P (c ∷ cs) (suc i) new all is = (all.0, insert_each P cs i new all.1 is)

pub insert_first : (low : ℕ) (cs : List Child) (i : ℕ) (new c : Child) → slice_get cs i ≡ Some c → BeginsAt low (lows_of cs) → BeginsAt low (lows_of (insert cs (suc i) new))
insert_first low [] i new c at is = absurd is
insert_first low (d ∷ cs) i new c at is = is

insert_rises_at : (cs : List Child) (i : ℕ) (child new : Child) → AreAscending (lows_of cs) → slice_get cs i ≡ Some child → child.low < new.low → ((d : Child) → slice_get cs (suc i) ≡ Some d → new.low < d.low) → AreAscending (lows_of (insert cs (suc i) new))
insert_rises_at [] i child new up at lt below = absurd (none-some child at)
insert_rises_at (c ∷ cs) zero child new up at lt below =
    let e = ap (λ (x : Child). x.low) (same_Some c child at) in
    ((omega (arith, e, lt), up.0), (above_all new.low cs up.1 below, up.1))
insert_rises_at (c ∷ cs) (suc i) child new up at lt below =
    let first : c.low < child.low = all_get c.low cs i child up.0 at in
    (insert_above c.low cs (suc i) new up.0 (omega (arith, first, lt)), insert_rises_at cs i child new up.1 at lt below)

pub insert_rises : (cs : List Child) (i : ℕ) (new : Child) → AreAscending (lows_of cs) → BeginsAfter cs i new.low → AreAscending (lows_of (insert cs (suc i) new))
insert_rises cs i new up beyond = insert_rises_at cs i beyond.child new up beyond.at beyond.above beyond.below

-- ---- a part of them

pub take_each : (P : Child → Type 0) (cs : List Child) (n : ℕ) → AllByRecursion P cs → AllByRecursion P (take n cs)
take_each P [] zero all = tt
take_each P [] (suc n) all = tt
take_each P (c ∷ cs) zero all = tt
take_each P (c ∷ cs) (suc n) all = (all.0, take_each P cs n all.1)

pub drop_each : (P : Child → Type 0) (cs : List Child) (n : ℕ) → AllByRecursion P cs → AllByRecursion P (drop n cs)
drop_each P [] zero all = tt
drop_each P [] (suc n) all = tt
drop_each P (c ∷ cs) zero all = all
drop_each P (c ∷ cs) (suc n) all = drop_each P cs n all.1

take_above : (n : ℕ) (cs : List Child) (k : ℕ) → AllByRecursion (λ later. n < later) (lows_of cs) → AllByRecursion (λ later. n < later) (lows_of (take k cs))
take_above n [] zero all = tt
take_above n [] (suc k) all = tt
take_above n (c ∷ cs) zero all = tt
take_above n (c ∷ cs) (suc k) all = (all.0, take_above n cs k all.1)

pub take_rises : (cs : List Child) (n : ℕ) → AreAscending (lows_of cs) → AreAscending (lows_of (take n cs))
take_rises [] zero up = tt
take_rises [] (suc n) up = tt
take_rises (c ∷ cs) zero up = tt
take_rises (c ∷ cs) (suc n) up = (take_above c.low cs n up.0, take_rises cs n up.1)

pub drop_rises : (cs : List Child) (n : ℕ) → AreAscending (lows_of cs) → AreAscending (lows_of (drop n cs))
drop_rises [] zero up = tt
drop_rises [] (suc n) up = tt
drop_rises (c ∷ cs) zero up = up
drop_rises (c ∷ cs) (suc n) up = drop_rises cs n up.1

-- those before a child begin below it
pub take_below : (cs : List Child) (n : ℕ) (mid : Child) → AreAscending (lows_of cs) → slice_get cs n ≡ Some mid → AllByRecursion (λ c. c.low < mid.low) (take n cs)
take_below [] n mid up at = absurd (none-some mid at)
take_below (c ∷ cs) zero mid up at = tt
take_below (c ∷ cs) (suc n) mid up at = (all_get c.low cs n mid up.0 at, take_below cs n mid up.1 at)

pub take_first : (low : ℕ) (cs : List Child) (n : ℕ) → 0 < n → BeginsAt low (lows_of cs) → BeginsAt low (lows_of (take n cs))
take_first low [] n lt is = absurd is
take_first low (c ∷ cs) zero lt is = absurd (omega arith)
take_first low (c ∷ cs) (suc n) lt is = is

pub drop_first : (cs : List Child) (n : ℕ) (mid : Child) → slice_get cs n ≡ Some mid → BeginsAt mid.low (lows_of (drop n cs))
drop_first [] n mid at = absurd (none-some mid at)
drop_first (c ∷ cs) zero mid at = ap (λ (x : Child). x.low) (same_Some c mid at)
drop_first (c ∷ cs) (suc n) mid at = drop_first cs n mid at

pub first_below : (low : ℕ) (cs : List Child) (n : ℕ) (mid : Child) → 0 < n → AreAscending (lows_of cs) → BeginsAt low (lows_of cs) → slice_get cs n ≡ Some mid → low < mid.low
first_below low [] n mid lt up is at = absurd is
first_below low (c ∷ cs) zero mid lt up is at = absurd (omega arith)
first_below low (c ∷ cs) (suc n) mid lt up is at = (let h = all_get c.low cs n mid up.0 at in omega (arith, h, is))

pub rises_next : (cs : List Child) (n : ℕ) (a b : Child) → AreAscending (lows_of cs) → slice_get cs n ≡ Some a → slice_get cs (suc n) ≡ Some b → a.low < b.low
rises_next [] n a b up at at' = absurd (none-some a at)
rises_next (c ∷ cs) zero a b up at at' = (let e = ap (λ (x : Child). x.low) (same_Some c a at) in let h = all_get c.low cs 0 b up.0 at' in omega (arith, e, h))
rises_next (c ∷ cs) (suc n) a b up at at' = rises_next cs n a b up.1 at at'

-- ---- where a key lies

one_place_at : (cs : List Child) (i r : ℕ) (child : Child) (key : ℕ) → AreAscending (lows_of cs) → slice_get cs i ≡ Some child → child.low < key → ((d : Child) → slice_get cs (suc i) ≡ Some d → key < d.low)
    → r ≤ length cs → ((j : ℕ) (c : Child) → j < r → slice_get cs j ≡ Some c → c.low ≤ key) → ((c : Child) → slice_get cs r ≡ Some c → key < c.low) → r ≡ suc i
one_place_at [] i r child key up at lt below le before above = absurd (none-some child at)
one_place_at (c ∷ cs) zero zero child key up at lt below le before above =
    absurd (let e = ap (λ (x : Child). x.low) (same_Some c child at) in let h = above c refl in omega (arith, e, h, lt))
one_place_at (c ∷ cs) (suc i) zero child key up at lt below le before above =
    absurd (let h = above c refl in let first = all_get c.low cs i child up.0 at in omega (arith, first, h, lt))
one_place_at (c ∷ []) zero (suc r) child key up at lt below le before above = omega (arith, le)
one_place_at (c ∷ d ∷ cs) zero (suc zero) child key up at lt below le before above = refl
one_place_at (c ∷ d ∷ cs) zero (suc (suc r)) child key up at lt below le before above =
    absurd (let h = below d refl in let k = before 1 d (omega arith) refl in omega (arith, h, k))
one_place_at (c ∷ cs) (suc i) (suc r) child key up at lt below le before above =
    ap suc (one_place_at cs i r child key up.1 at lt below (omega (arith, le)) (λ j e less at_j. before (suc j) e (omega (arith, less)) at_j) above)

-- a key begins after one child only
pub one_place : (cs : List Child) (i r key : ℕ) → AreAscending (lows_of cs) → BeginsAfter cs i key → r ≤ length cs → ((j : ℕ) (c : Child) → j < r → slice_get cs j ≡ Some c → c.low ≤ key) → ((c : Child) → slice_get cs r ≡ Some c → key < c.low) → r ≡ suc i
one_place cs i r key up beyond le before above = one_place_at cs i r beyond.child key up beyond.at beyond.above beyond.below le before above

-- a key isn't the lowest of the child before those that begin above it
pub after_one : (cs : List Child) (r key : ℕ) (child : Child) → slice_get cs r ≡ Some child → (child.low ≡ key → ⊥) → ((j : ℕ) (c : Child) → j < suc r → slice_get cs j ≡ Some c → c.low ≤ key) → ((c : Child) → slice_get cs (suc r) ≡ Some c → key < c.low) → BeginsAfter cs r key
after_one cs r key child at ne before above = record { child = child; at = at; above = (let h = before r child (omega arith) at in omega (arith, h, ne)); below = above }

-- a key below the second child isn't after a later one
above_first : (c : Child) (cs : List Child) (j key : ℕ) → AreAscending (lows_of (c ∷ cs)) → ((d : Child) → slice_get cs 0 ≡ Some d → key < d.low) → BeginsAfter (c ∷ cs) (suc j) key → ⊥
above_first c [] j key up below b = none-some b.child b.at
above_first c (d ∷ cs) zero key up below b = (let e = ap (λ (x : Child). x.low) (same_Some d b.child b.at) in let h = below d refl in omega (arith, e, h, b.above))
above_first c (d ∷ cs) (suc j) key up below b = (let e = all_get d.low cs j b.child up.1.0 b.at in let h = below d refl in omega (arith, e, h, b.above))

-- two children after which a key begins are one
pub one_after : (cs : List Child) (i j key : ℕ) → AreAscending (lows_of cs) → BeginsAfter cs i key → BeginsAfter cs j key → i ≡ j
one_after [] i j key up a b = absurd (none-some a.child a.at)
one_after (c ∷ cs) zero zero key up a b = refl
one_after (c ∷ cs) zero (suc j) key up a b = absurd (above_first c cs j key up a.below b)
one_after (c ∷ cs) (suc i) zero key up a b = absurd (above_first c cs i key up b.below a)
one_after (c ∷ cs) (suc i) (suc j) key up a b = ap suc (one_after cs i j key up.1
    (record { child = a.child; at = a.at; above = a.above; below = a.below }) (record { child = b.child; at = b.at; above = b.above; below = b.below }))
