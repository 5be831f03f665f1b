-- Entries in a ring's own octets, gone through by their lengths.
use Rattle.std.proofs.Common.{◌≡◌, ◌<◌, ◌≤◌, ℕ, ◌+◌, ◌-◌, List, [], ◌∷◌, ◌++◌, length, take, drop, get_or, map, refl, sym, ◌∙◌, ap, subst, inl, inr, arith, append_assoc, append-nil, length-append}
use Rattle.route_model.specs.Moments.{IsMoment}
use Rattle.std.specs.List.{flat_map, AllByRecursion}
use Rattle.std.specs.Int.{w32, w64, to_be_bytes, from_be_bytes}
use Rattle.std.proofs.Math.Seq.{take-add}
use Rattle.std.proofs.lemmas.Bool.{cases_lt}
use Rattle.std.proofs.lemmas.List.{map-append, length-map, length-take, length-drop, take-append-drop, ext_get_or, get_or_append_left, get_or-append-add}
use Rattle.std.proofs.lemmas.Grind.{flat_map-append}
use Rattle.std.proofs.lemmas.Nat.{from_be_bytes-to_be_bytes_4, from_be_bytes-to_be_bytes_8}
use Rattle.route_model.specs.Admission.{Admitted, IsAdmission, admission_octets, counted, sized as row_octets, peer_rows, route_rows, change_octets}
use Rattle.intake.specs.declared.ring.Ring.{Ring}
use Rattle.intake.specs.Ring.{sized, entry, time_of, RingRepresents, HasOctets}
use Rattle.intake.specs.Outlines.{Outline, outlined, time_in, IsOutline, ReportsTimes, BreaksAt}
use Rattle.intake.proofs.Entries.{length-sized, take_front, drop_front}
use Rattle.intake.proofs.Representing.{stands_front, front_stood}

-- ---- an entry's octets

-- those after its length
abbrev body : Outline → List ℕ
body o = to_be_bytes w64 o.time ++ o.more

length_body : (o : Outline) → length (body o) ≡ 8 + length o.more
length_body o = length-append (to_be_bytes w64 o.time) o.more

outlined_is : (o : Outline) → outlined o ≡ to_be_bytes w32 (length (body o)) ++ body o
unfolding sized
outlined_is o = refl

length_outlined : (o : Outline) → length (outlined o) ≡ 12 + length o.more
length_outlined o = let s = length-sized (body o) in let b = length_body o in omega arith

entries_pushed : (os : List Outline) (o : Outline) → flat_map outlined (os ++ o ∷ []) ≡ flat_map outlined os ++ outlined o
entries_pushed os o = flat_map-append outlined os (o ∷ []) ∙ ap (λ l. flat_map outlined os ++ l) (append-nil (outlined o))

all_pushed : (os : List Outline) (o : Outline) → AllByRecursion IsOutline os → IsOutline o → AllByRecursion IsOutline (os ++ o ∷ [])
all_pushed [] o all one = (one, tt)
all_pushed (p ∷ os) o all one = (all.0, all_pushed os o all.1 one)

-- ---- octets that agree as far as both go

abbrev Agree : List ℕ → List ℕ → Type 0
Agree xs ys = (k : ℕ) → k < length xs → k < length ys → get_or xs k 0 ≡ get_or ys k 0

stands_agree : (pages : List (List ℕ)) (ring : Ring) (xs ys : List ℕ) → HasOctets pages ring xs → HasOctets pages ring ys → Agree xs ys
stands_agree pages ring xs ys a b k lt lt' = sym (a k lt) ∙ b k lt'

agree_as : (a b c d : List ℕ) → a ≡ c → b ≡ d → Agree a b → Agree c d
agree_as a b c d e f g = subst (λ l. Agree l d) e (subst (λ l. Agree a l) f g)

agree_front : (x y a b : List ℕ) → length x ≡ length y → Agree (x ++ a) (y ++ b) → x ≡ y
agree_front x y a b e agree =
    let l = length-append x a in
    let m = length-append y b in
    ext_get_or 0 x y e (λ k lt. sym (get_or_append_left x a 0 k lt) ∙ (agree k (omega arith) (omega arith) ∙ get_or_append_left y b 0 k (omega arith)))

agree_rest : (x y a b : List ℕ) → length x ≡ length y → Agree (x ++ a) (y ++ b) → Agree a b
agree_rest x y a b e agree k lt lt' =
    let l = length-append x a in
    let m = length-append y b in
    sym (get_or-append-add x a k 0) ∙ (agree (length x + k) (omega arith) (omega arith) ∙ (ap (λ n. get_or (y ++ b) (n + k) 0) e ∙ get_or-append-add y b k 0))

-- ---- of two rows of entries that agree the longer one goes on where the other ends

time_reported : (o : Outline) → IsOutline o → from_be_bytes w64 (take 8 (body o)) ≡ o.time
time_reported o v = let low = v.time in ap (from_be_bytes w64) (take_front 8 (to_be_bytes w64 o.time) o.more refl) ∙ from_be_bytes-to_be_bytes_8 o.time (omega arith)

length_reported : (o : Outline) → IsOutline o → from_be_bytes w32 (to_be_bytes w32 (length (body o))) ≡ length (body o)
length_reported o v = let small = v.small in let b = length_body o in from_be_bytes-to_be_bytes_4 (length (body o)) (omega arith)

same_body : (o p : Outline) → IsOutline o → IsOutline p → body o ≡ body p → o ≡ p
same_body o p v w e =
    let time : o.time ≡ p.time = sym (time_reported o v) ∙ (ap (λ l. from_be_bytes w64 (take 8 l)) e ∙ time_reported p w) in
    let more : o.more ≡ p.more = sym (drop_front 8 (to_be_bytes w64 o.time) o.more refl) ∙ (ap (drop 8) e ∙ drop_front 8 (to_be_bytes w64 p.time) p.more refl) in
    λ i. record { time = time i; more = more i }

same_first : (o p : Outline) (a b : List ℕ) → IsOutline o → IsOutline p → Agree (outlined o ++ a) (outlined p ++ b) → (o ≡ p) × Agree a b
same_first o p a b v w agree =
    let n = to_be_bytes w32 (length (body o)) in
    let m = to_be_bytes w32 (length (body p)) in
    let parts : Agree (n ++ (body o ++ a)) (m ++ (body p ++ b)) =
    agree_as (outlined o ++ a) (outlined p ++ b) (n ++ (body o ++ a)) (m ++ (body p ++ b))
    (ap (λ l. l ++ a) (outlined_is o) ∙ append_assoc n (body o) a) (ap (λ l. l ++ b) (outlined_is p) ∙ append_assoc m (body p) b) agree in
    let sizes : n ≡ m = agree_front n m (body o ++ a) (body p ++ b) refl parts in
    let lengths : length (body o) ≡ length (body p) = sym (length_reported o v) ∙ (ap (from_be_bytes w32) sizes ∙ length_reported p w) in
    let beyond : Agree (body o ++ a) (body p ++ b) = agree_rest n m (body o ++ a) (body p ++ b) refl parts in
    (same_body o p v w (agree_front (body o) (body p) a b lengths beyond), agree_rest (body o) (body p) a b lengths beyond)

goes_on : (os ps : List Outline) → AllByRecursion IsOutline os → AllByRecursion IsOutline ps → Agree (flat_map outlined os) (flat_map outlined ps) → length os ≤ length ps → (rest : List Outline) × (ps ≡ os ++ rest)
goes_on [] ps v w agree le = (ps, refl)
goes_on (o ∷ os) [] v w agree le = absurd (omega arith)
goes_on (o ∷ os) (p ∷ ps) v w agree le =
    let s = same_first o p (flat_map outlined os) (flat_map outlined ps) v.0 w.0 agree in
    let r = goes_on os ps v.1 w.1 s.1 (omega arith) in
    (r.0, ap (λ (x : Outline). x ∷ ps) (sym s.0) ∙ ap (λ (l : List Outline). o ∷ l) r.1)

-- ---- times up to a place

pub reports_none : (pages : List (List ℕ)) (ring : Ring) → ReportsTimes pages ring 0 []
reports_none pages ring = record { entries = []; valid = tt; reported = refl; place = refl; octets = λ k lt. absurd (omega arith) }

-- the entry at the place is gone through
pub reports_more : (pages : List (List ℕ)) (ring : Ring) (at len time : ℕ) (times stood front : List ℕ) → length stood ≡ ring.used → HasOctets pages ring stood → front ≡ take 12 (drop at stood)
    → take 4 front ≡ to_be_bytes w32 len → drop 4 front ≡ to_be_bytes w64 time → IsMoment time → 8 ≤ len → len ≤ 131072 → at + 4 + len ≤ ring.used
    → ReportsTimes pages ring at times → ReportsTimes pages ring (at + 4 + len) (times ++ time ∷ [])
reports_more pages ring at len time times stood front used stand is size reported low long small fits t =
    let more = take (len - 8) (drop 12 (drop at stood)) in
    let o : Outline = record { time = time; more = more } in
    let d = length-drop at stood in
    let d' = length-drop 12 (drop at stood) in
    let l = length-take (len - 8) (drop 12 (drop at stood)) in
    let count : length more ≡ len - 8 = omega arith in
    let whole : length (body o) ≡ len = (let b = length_body o in omega arith) in
    let first : front ≡ to_be_bytes w32 len ++ to_be_bytes w64 time = sym (take-append-drop 4 front) ∙ (ap (λ x. x ++ drop 4 front) size ∙ ap (λ x. to_be_bytes w32 len ++ x) reported) in
    let piece : take (4 + len) (drop at stood) ≡ outlined o =
    ap (λ n. take n (drop at stood)) (let e : 4 + len ≡ 12 + (len - 8) = omega arith in e)
    ∙ (take-add 12 (len - 8) (drop at stood)
    ∙ (ap (λ x. x ++ more) (sym is ∙ first)
    ∙ (append_assoc (to_be_bytes w32 len) (to_be_bytes w64 time) more ∙ (ap (λ n. to_be_bytes w32 n ++ body o) (sym whole) ∙ sym (outlined_is o))))) in
    let flat = flat_map outlined t.entries in
    let place = t.place in
    let done : take at stood ≡ flat = ap (λ n. take n stood) (sym place) ∙ front_stood pages ring flat stood (omega arith) t.octets stand in
    let all : take (at + (4 + len)) stood ≡ flat_map outlined (t.entries ++ o ∷ []) =
    take-add at (4 + len) stood ∙ (ap (λ x. x ++ take (4 + len) (drop at stood)) done ∙ (ap (λ x. flat ++ x) piece ∙ sym (entries_pushed t.entries o))) in
    let total = ap length (entries_pushed t.entries o) in
    let sum = length-append flat (outlined o) in
    let one = length_outlined o in
    record {
      entries = t.entries ++ o ∷ [];
      valid = all_pushed t.entries o t.valid (record { time = low; small = omega arith });
      reported = ap (λ l. l ++ time ∷ []) t.reported ∙ sym (map-append time_in t.entries (o ∷ []));
      place = omega arith;
      octets = subst (HasOctets pages ring) all (stands_front pages ring stood (at + (4 + len)) stand);
    }

-- what stands at the place where an entry follows
pub record Follows (ring : Ring) (at : ℕ) (stood : List ℕ) : Type 0 where
  pub o : Outline
  pub valid : IsOutline o
  pub fits : at + (12 + length o.more) ≤ ring.used
  pub size : take 4 (take 12 (drop at stood)) ≡ to_be_bytes w32 (8 + length o.more)
  pub time : drop 4 (take 12 (drop at stood)) ≡ to_be_bytes w64 o.time

count_of : (pages : List (List ℕ)) (ring : Ring) (at : ℕ) (times : List ℕ) (t : ReportsTimes pages ring at times) → length times ≡ length t.entries
count_of pages ring at times t = ap length t.reported ∙ length-map t.entries time_in

both_report : (pages : List (List ℕ)) (ring : Ring) (at next : ℕ) (times others : List ℕ) → (t : ReportsTimes pages ring at times) → (u : ReportsTimes pages ring next others) → length times ≤ length others → (rest : List Outline) × (u.entries ≡ t.entries ++ rest)
both_report pages ring at next times others t u le =
    let a = count_of pages ring at times t in
    let b = count_of pages ring next others u in
    goes_on t.entries u.entries t.valid u.valid (stands_agree pages ring (flat_map outlined t.entries) (flat_map outlined u.entries) t.octets u.octets) (omega arith)

next_of : (xs : List Outline) (o : Outline) (rest : List Outline) → AllByRecursion IsOutline (xs ++ o ∷ rest) → IsOutline o
next_of [] o rest all = all.0
next_of (x ∷ xs) o rest all = next_of xs o rest all.1

twelve : (o : Outline) (rest : List ℕ) → take 12 (outlined o ++ rest) ≡ to_be_bytes w32 (8 + length o.more) ++ to_be_bytes w64 o.time
twelve o rest =
    let size = to_be_bytes w32 (length (body o)) in
    let time = to_be_bytes w64 o.time in
    let all : outlined o ++ rest ≡ (size ++ time) ++ (o.more ++ rest) =
    ap (λ l. l ++ rest) (outlined_is o ∙ sym (append_assoc size time o.more)) ∙ append_assoc (size ++ time) o.more rest in
    ap (take 12) all ∙ (take_front 12 (size ++ time) (o.more ++ rest) refl ∙ ap (λ n. to_be_bytes w32 n ++ time) (length_body o))

pub follows : (pages : List (List ℕ)) (ring : Ring) (at next time : ℕ) (times stood : List ℕ) → length stood ≡ ring.used → HasOctets pages ring stood → next ≤ ring.used
    → ReportsTimes pages ring at times → ReportsTimes pages ring next (times ++ time ∷ []) → Follows ring at stood
follows pages ring at next time times stood used stand le t u = go b.0 b.1
  where
    b : (rest : List Outline) × (u.entries ≡ t.entries ++ rest)
    b = let l = length-append times (time ∷ []) in both_report pages ring at next times (times ++ time ∷ []) t u (omega arith)

    go : (rest : List Outline) → u.entries ≡ t.entries ++ rest → Follows ring at stood
    go [] e =
        let x = count_of pages ring at times t in
        let y = count_of pages ring next (times ++ time ∷ []) u in
        let l = length-append times (time ∷ []) in
        let z = ap length (e ∙ append-nil t.entries) in
        absurd (omega arith)
    go (o ∷ p ∷ rest) e =
        let x = count_of pages ring at times t in
        let y = count_of pages ring next (times ++ time ∷ []) u in
        let l = length-append times (time ∷ []) in
        let z = ap length e in
        let w = length-append t.entries (o ∷ p ∷ rest) in
        absurd (omega arith)
    go (o ∷ []) e =
        let flat = flat_map outlined t.entries in
        let pushed : flat_map outlined u.entries ≡ flat ++ outlined o = ap (flat_map outlined) e ∙ entries_pushed t.entries o in
        let long = ap length pushed in
        let sum = length-append flat (outlined o) in
        let one = length_outlined o in
        let at_is = t.place in
        let next_is = u.place in
        let tail = drop (length (flat_map outlined u.entries)) stood in
        let all : stood ≡ flat ++ (outlined o ++ tail) =
        sym (take-append-drop (length (flat_map outlined u.entries)) stood)
        ∙ (ap (λ l. l ++ tail) (front_stood pages ring (flat_map outlined u.entries) stood (omega arith) u.octets stand ∙ pushed) ∙ append_assoc flat (outlined o) tail) in
        let here : take 12 (drop at stood) ≡ to_be_bytes w32 (8 + length o.more) ++ to_be_bytes w64 o.time =
        ap (λ l. take 12 (drop at l)) all ∙ (ap (take 12) (drop_front at flat (outlined o ++ tail) at_is) ∙ twelve o tail) in
        record {
          o = o;
          valid = next_of t.entries o [] (subst (AllByRecursion IsOutline) e u.valid);
          fits = omega arith;
          size = ap (take 4) here ∙ take_front 4 (to_be_bytes w32 (8 + length o.more)) (to_be_bytes w64 o.time) refl;
          time = ap (drop 4) here ∙ drop_front 4 (to_be_bytes w32 (8 + length o.more)) (to_be_bytes w64 o.time) refl;
        }

-- what is read there
pub follows_length : (ring : Ring) (at len : ℕ) (stood front : List ℕ) → (f : Follows ring at stood) → front ≡ take 12 (drop at stood) → len ≡ from_be_bytes w32 (take 4 front) → len ≡ 8 + length f.o.more
follows_length ring at len stood front f is reported = let small = f.valid.small in reported ∙ (ap (λ l. from_be_bytes w32 (take 4 l)) is ∙ (ap (from_be_bytes w32) f.size ∙ from_be_bytes-to_be_bytes_4 (8 + length f.o.more) (omega arith)))

pub follows_time : (ring : Ring) (at time : ℕ) (stood front : List ℕ) → (f : Follows ring at stood) → front ≡ take 12 (drop at stood) → time ≡ from_be_bytes w64 (drop 4 front) → time ≡ f.o.time
follows_time ring at time stood front f is reported = let low = f.valid.time in reported ∙ (ap (λ l. from_be_bytes w64 (drop 4 l)) is ∙ (ap (from_be_bytes w64) f.time ∙ from_be_bytes-to_be_bytes_8 f.o.time (omega arith)))

-- ---- all times

no_more : (o : Outline) (rest : List Outline) → 0 < length (flat_map outlined (o ∷ rest))
no_more o rest = let l = length-append (outlined o) (flat_map outlined rest) in let m = length_outlined o in omega arith

both_end : (pages : List (List ℕ)) (ring : Ring) (at : ℕ) (times others : List ℕ) → ReportsTimes pages ring at times → ReportsTimes pages ring at others → length times ≤ length others → others ≡ times
both_end pages ring at times others t u le = go b.0 b.1
  where
    b : (rest : List Outline) × (u.entries ≡ t.entries ++ rest)
    b = both_report pages ring at at times others t u le

    go : (rest : List Outline) → u.entries ≡ t.entries ++ rest → others ≡ times
    go [] e = u.reported ∙ (ap (map time_in) (e ∙ append-nil t.entries) ∙ sym t.reported)
    go (o ∷ rest) e =
        let x = ap length (ap (flat_map outlined) e ∙ flat_map-append outlined t.entries (o ∷ rest)) in
        let y = length-append (flat_map outlined t.entries) (flat_map outlined (o ∷ rest)) in
        let z = no_more o rest in
        let p = t.place in
        let q = u.place in
        absurd (omega arith)

-- up to one place the times are one list
pub reports_one : (pages : List (List ℕ)) (ring : Ring) (at : ℕ) (times others : List ℕ) → ReportsTimes pages ring at times → ReportsTimes pages ring at others → times ≡ others
reports_one pages ring at times others t u = elim (cases_lt (length times) (length others)) [
  | inl lt ↦ sym (both_end pages ring at times others t u (omega arith))
  | inr ge ↦ both_end pages ring at others times u t (omega arith)
]

-- where they break off there are none of all used octets
pub breaks_none : (pages : List (List ℕ)) (ring : Ring) (at : ℕ) (times : List ℕ) → BreaksAt pages ring at → ReportsTimes pages ring ring.used times → ⊥
breaks_none pages ring at times b u = elim (cases_lt (length times) (length b.times)) [
  | inl lt ↦ let r = both_report pages ring ring.used at times b.times u b.before (omega arith) in beyond r.0 r.1
  | inr ge ↦ let r = both_report pages ring at ring.used b.times times b.before u (omega arith) in further r.0 r.1
]
  where
    beyond : (rest : List Outline) → b.before.entries ≡ u.entries ++ rest → ⊥
    beyond rest e =
        let x = ap length (ap (flat_map outlined) e ∙ flat_map-append outlined u.entries rest) in
        let y = length-append (flat_map outlined u.entries) (flat_map outlined rest) in
        let p = b.before.place in
        let q = u.place in
        let lt = b.inside in
        absurd (omega arith)

    further : (rest : List Outline) → u.entries ≡ b.before.entries ++ rest → ⊥
    further [] e =
        let x = ap length (ap (flat_map outlined) (e ∙ append-nil b.before.entries)) in
        let p = b.before.place in
        let q = u.place in
        let lt = b.inside in
        absurd (omega arith)
    further (o ∷ rest) e =
        let os = b.before.entries in
        let again : u.entries ≡ (os ++ o ∷ []) ++ rest = e ∙ sym (append_assoc os (o ∷ []) rest) in
        let all : flat_map outlined u.entries ≡ flat_map outlined (os ++ o ∷ []) ++ flat_map outlined rest = ap (flat_map outlined) again ∙ flat_map-append outlined (os ++ o ∷ []) rest in
        let x = ap length all in
        let y = length-append (flat_map outlined (os ++ o ∷ [])) (flat_map outlined rest) in
        let q = u.place in
        b.none o.time (length (flat_map outlined (os ++ o ∷ []))) (omega arith) (record {
          entries = os ++ o ∷ [];
          valid = all_pushed os o b.before.valid (next_of os o rest (subst (AllByRecursion IsOutline) e u.valid));
          reported = ap (λ l. l ++ o.time ∷ []) b.before.reported ∙ sym (map-append time_in os (o ∷ []));
          place = refl;
          octets = subst (HasOctets pages ring) (take_front (length (flat_map outlined (os ++ o ∷ []))) (flat_map outlined (os ++ o ∷ [])) (flat_map outlined rest) refl)
              (stands_front pages ring (flat_map outlined (os ++ o ∷ []) ++ flat_map outlined rest) (length (flat_map outlined (os ++ o ∷ []))) (subst (HasOctets pages ring) all u.octets));
        })

-- ---- the times of a list that is held

regroup : (x y z w all : List ℕ) → all ≡ ((x ++ y) ++ z) ++ w → (more : List ℕ) × (all ≡ x ++ more)
regroup x y z w all e = (y ++ (z ++ w), e ∙ (append_assoc (x ++ y) z w ∙ append_assoc x y (z ++ w)))

-- an admission's encoding begins with its time
time_first : (a : Admitted) → (more : List ℕ) × (admission_octets a ≡ to_be_bytes w64 a.time ++ more)
unfolding admission_octets
time_first a = regroup (to_be_bytes w64 a.time) (counted (λ row. row) (peer_rows a.changes)) (counted row_octets (route_rows a.changes)) (counted (change_octets (peer_rows a.changes) (route_rows a.changes)) a.changes) (admission_octets a) refl

abbrev outline_of : Admitted → Outline
outline_of a = record { time = a.time; more = (time_first a).0 }

entry_outlined : (a : Admitted) → entry a ≡ outlined (outline_of a)
entry_outlined a = ap sized (time_first a).1

entries_outlined : (waits : List Admitted) → flat_map entry waits ≡ flat_map outlined (map outline_of waits)
entries_outlined [] = refl
entries_outlined (a ∷ rest) = ap (λ l. l ++ flat_map entry rest) (entry_outlined a) ∙ ap (λ l. outlined (outline_of a) ++ l) (entries_outlined rest)

times_outlined : (waits : List Admitted) → map time_of waits ≡ map time_in (map outline_of waits)
times_outlined [] = refl
times_outlined (a ∷ rest) = ap (λ (l : List ℕ). a.time ∷ l) (times_outlined rest)

all_outlined : (waits : List Admitted) → AllByRecursion IsAdmission waits → AllByRecursion IsOutline (map outline_of waits)
all_outlined [] all = tt
all_outlined (a ∷ rest) all =
    let small = all.0.small in
    let e = ap length (time_first a).1 in
    let l = length_body (outline_of a) in
    (record { time = all.0.time; small = omega arith }, all_outlined rest all.1)

pub holds_reports : (pages : List (List ℕ)) (ring : Ring) (waits : List Admitted) → RingRepresents pages ring waits → ReportsTimes pages ring ring.used (map time_of waits)
holds_reports pages ring waits h = record {
  entries = map outline_of waits;
  valid = all_outlined waits h.valid;
  reported = times_outlined waits;
  place = sym (ap length (entries_outlined waits)) ∙ h.size;
  octets = subst (HasOctets pages ring) (entries_outlined waits) h.octets;
}
