-- Which change a step applies.
use Rattle.std.proofs.Common.{◌≡◌, ◌≤◌, ℕ, zero, suc, ◌+◌, List, [], ◌∷◌, ◌++◌, length, take, drop, map, refl, sym, ◌∙◌, ap, subst, arith, append_assoc, append-nil}
use Rattle.std.proofs.lemmas.List.{map-append}
use Rattle.route_model.specs.declared.change.Change.{Change}
use Rattle.route_model.specs.Admission.{Admitted}
use Rattle.route_meaning.specs.Merged.{Placed}
use Rattle.route_meaning.specs.Holds.{time_of}
use Rattle.route_meaning.specs.History.{History, all_of, waiting, begun, applied}
use Rattle.route_meaning.proofs.api.Front.{take_next}
use Rattle.interleaving_core.specs.Steps.{moved}
use Rattle.version_model.specs.Versions.{Version}
use Rattle.route_history.specs.Kept.{Timed, at_time, timed, AreVersions}
use Rattle.archive_pages.specs.Represented.{last_time}
use Rattle.archive_pages.specs.Changes.{next_change}

pub timed-append : (ps qs : List (Placed Admitted)) → timed (ps ++ qs) ≡ timed ps ++ timed qs
timed-append [] qs = refl
timed-append (p ∷ ps) qs = ap (λ l. map (at_time (time_of p)) p.item.changes ++ l) (timed-append ps qs) ∙ sym (append_assoc (map (at_time (time_of p)) p.item.changes) (timed ps) (timed qs))

take_one_more : {X : Type 0} (n : ℕ) (xs : List X) → take (suc n) xs ≡ take n xs ++ take 1 (drop n xs)
take_one_more zero xs = refl
take_one_more (suc n) [] = refl
take_one_more (suc n) (x ∷ xs) = ap (λ l. x ∷ l) (take_one_more n xs)

all_with_one : {X : Type 0} (n : ℕ) (xs : List X) → length xs ≤ suc n → take n xs ++ take 1 (drop n xs) ≡ xs
all_with_one zero [] le = refl
all_with_one zero (x ∷ []) le = refl
all_with_one zero (x ∷ y ∷ xs) le = absurd (omega arith)
all_with_one (suc n) [] le = refl
all_with_one (suc n) (x ∷ xs) le = ap (λ l. x ∷ l) (all_with_one n xs (omega arith))

timed_begun : (n : ℕ) (p : Placed Admitted) (ps : List (Placed Admitted)) → timed (begun n (p ∷ ps)) ≡ map (at_time (time_of p)) (take n p.item.changes)
timed_begun zero p ps = refl
timed_begun (suc n) p ps = append-nil (map (at_time (time_of p)) (take (suc n) p.item.changes))

timed_front : (n : ℕ) (before : List (Placed Admitted)) (w : List (Placed Admitted)) (p : Placed Admitted) (later : List (Placed Admitted)) → w ≡ p ∷ later → timed (before ++ begun n w) ≡ timed before ++ map (at_time (time_of p)) (take n p.item.changes)
timed_front n before w p later e = timed-append before (begun n w) ∙ ap (λ l. timed before ++ l) (ap (λ x. timed (begun n x)) e ∙ timed_begun n p later)

-- the next change follows the changes that were applied
joined : (before : List Timed) (n : ℕ) (p : Placed Admitted) (changes : List Change) → changes ≡ take n p.item.changes ++ take 1 (drop n p.item.changes) → before ++ map (at_time (time_of p)) changes ≡ (before ++ map (at_time (time_of p)) (take n p.item.changes)) ++ next_change n p
joined before n p changes e =
    ap (λ l. before ++ map (at_time (time_of p)) l) e
    ∙ (ap (λ l. before ++ l) (map-append (at_time (time_of p)) (take n p.item.changes) (take 1 (drop n p.item.changes)))
    ∙ sym (append_assoc before (map (at_time (time_of p)) (take n p.item.changes)) (next_change n p)))

pub timed_part : (h : History) (next : Placed Admitted) (later : List (Placed Admitted)) → waiting h ≡ next ∷ later → timed (applied (moved h h.whole (suc h.some))) ≡ timed (applied h) ++ next_change h.some next
timed_part h next later here =
    let before = take h.whole (all_of h) in
    timed_front (suc h.some) before (waiting h) next later here
    ∙ (joined (timed before) h.some next (take (suc h.some) next.item.changes) (take_one_more h.some next.item.changes)
    ∙ ap (λ l. l ++ next_change h.some next) (sym (timed_front h.some before (waiting h) next later here)))

pub timed_whole : (h : History) (next : Placed Admitted) (later : List (Placed Admitted)) → waiting h ≡ next ∷ later → length next.item.changes ≤ suc h.some → timed (applied (moved h (suc h.whole) 0)) ≡ timed (applied h) ++ next_change h.some next
timed_whole h next later here le =
    let before = take h.whole (all_of h) in
    let longer : take (suc h.whole) (all_of h) ≡ before ++ next ∷ [] = take_next h.whole (all_of h) next later here in
    ap timed (append-nil (take (suc h.whole) (all_of h)) ∙ longer)
    ∙ (timed-append before (next ∷ [])
    ∙ (ap (λ l. timed before ++ l) (append-nil (map (at_time (time_of next)) next.item.changes))
    ∙ (joined (timed before) h.some next next.item.changes (sym (all_with_one h.some next.item.changes le))
    ∙ ap (λ l. l ++ next_change h.some next) (sym (timed_front h.some before (waiting h) next later here)))))

-- ---- versions

pub versions_more : (n m : ℕ) (ts us : List Timed) (vs ws : List Version) → m ≡ n + length ts → AreVersions n ts vs → AreVersions m us ws → AreVersions n (ts ++ us) (vs ++ ws)
versions_more n m [] us [] ws e a b = subst (λ k. AreVersions k us ws) (let same : m ≡ n = omega arith in same) b
versions_more n m [] us (v ∷ vs) ws e a b = absurd a
versions_more n m (t ∷ ts) us [] ws e a b = absurd a
versions_more n m (t ∷ ts) us (v ∷ vs) ws e a b = (a.0, versions_more (suc n) m ts us vs ws (omega arith) a.1 b)

pub last_time-append : (d : ℕ) (ts us : List Timed) → last_time d (ts ++ us) ≡ last_time (last_time d ts) us
last_time-append d [] us = refl
last_time-append d (t ∷ ts) us = last_time-append t.time ts us
