-- What is applied later has later times, where the moment was settled.
use Rattle.std.proofs.Common.{◌≡◌, ℕ, zero, suc, ◌<◌, ◌≤◌, ◌⊎◌, inl, inr, List, [], ◌∷◌, ◌++◌, Bool, true, false, leb, map, take, drop, refl, sym, ap, ◌∙◌, arith, append-nil, append_assoc}
use Rattle.std.specs.List.{AllByRecursion, filter}
use Rattle.std.proofs.lemmas.Bool.{cases_Bool, leb-false}
use Rattle.std.proofs.lemmas.List.{take-append-drop, map-append}
use Rattle.std.proofs.lemmas.List.Elements.{filter-append}
use Rattle.route_model.specs.declared.change.Change.{Change}
use Rattle.route_model.specs.Admission.{Admitted}
use Rattle.route_meaning.specs.Merged.{Placed}
use Rattle.route_meaning.specs.Holds.{time_of, until}
use Rattle.route_meaning.specs.History.{History, IsHistory, Begins, all_of, begun, front, applied, settled}
use Rattle.route_meaning.proofs.api.Front.{front_kept, settled_stays}
use Rattle.route_meaning.proofs.api.Beginning.{Begins-refl}
use Rattle.route_meaning.proofs.api.Agreeing.{until-later}
use Rattle.route_history.specs.Kept.{Timed, at_time, timed}

-- the one list begins the other
pub record IsStartOf (xs ys : List Timed) : Type 0 where
  pub more : List Timed
  pub is : ys ≡ xs ++ more

take_start : (time n m : ℕ) (xs : List Change) → n ≤ m → IsStartOf (map (at_time time) (take n xs)) (map (at_time time) (take m xs))
take_start time zero m xs le = record { more = map (at_time time) (take m xs); is = refl }
take_start time (suc n) zero xs le = absurd (omega arith)
take_start time (suc n) (suc m) [] le = record { more = []; is = refl }
take_start time (suc n) (suc m) (x ∷ xs) le = let f = take_start time n m xs (omega arith) in record { more = f.more; is = ap (λ l. at_time time x ∷ l) f.is }

begun-timed : (n : ℕ) (p : Placed Admitted) (ps : List (Placed Admitted)) → timed (begun n (p ∷ ps)) ≡ map (at_time (time_of p)) (take n p.item.changes)
begun-timed zero p ps = refl
begun-timed (suc n) p ps = append-nil (map (at_time (time_of p)) (take (suc n) p.item.changes))

begun-none : (n : ℕ) → timed (begun n []) ≡ []
begun-none zero = refl
begun-none (suc n) = refl

front-none : (n k : ℕ) → timed (front n k []) ≡ []
front-none zero k = begun-none k
front-none (suc n) k = begun-none k

fronts : (n k m l : ℕ) (ps : List (Placed Admitted)) → (n < m) ⊎ ((n ≡ m) × (k ≤ l)) → IsStartOf (timed (front n k ps)) (timed (front m l ps))
fronts n k m l [] le = record { more = []; is = front-none m l ∙ sym (append-nil (timed (front n k [])) ∙ front-none n k) }
fronts zero k zero l (p ∷ ps) le =
    let f = take_start (time_of p) k l p.item.changes (elim le [ inl lt ↦ absurd (omega arith) | inr e ↦ e.1 ]) in
    record { more = f.more; is = begun-timed l p ps ∙ (f.is ∙ ap (λ c. c ++ f.more) (sym (begun-timed k p ps))) }
fronts zero k (suc m) l (p ∷ ps) le =
    let at : Change → Timed = at_time (time_of p) in
    let early : List Timed = map at (take k p.item.changes) in
    let late : List Timed = map at (drop k p.item.changes) in
    let split : map at p.item.changes ≡ early ++ late = ap (map at) (sym (take-append-drop k p.item.changes)) ∙ map-append at (take k p.item.changes) (drop k p.item.changes) in
    record {
      more = late ++ timed (front m l ps);
      is =
          ap (λ c. c ++ timed (front m l ps)) split
          ∙ (append_assoc early late (timed (front m l ps))
          ∙ ap (λ c. c ++ (late ++ timed (front m l ps))) (sym (begun-timed k p ps)));
    }
fronts (suc n) k zero l (p ∷ ps) le = absurd (elim le [ inl lt ↦ omega arith | inr e ↦ omega arith ])
fronts (suc n) k (suc m) l (p ∷ ps) le =
    let f = fronts n k m l ps (elim le [ inl lt ↦ inl (omega arith) | inr e ↦ inr (omega arith, e.1) ]) in
    let here : List Timed = map (at_time (time_of p)) p.item.changes in
    record { more = f.more; is = ap (λ c. here ++ c) f.is ∙ sym (append_assoc here (timed (front n k ps)) f.more) }

pub timed_grows : (h g : History) → IsHistory h → Begins h g → IsStartOf (timed (applied h)) (timed (applied g))
timed_grows h g is b =
    let f = fronts h.whole h.some g.whole g.some (all_of g) b.place in
    record { more = f.more; is = f.is ∙ ap (λ ps. timed ps ++ f.more) (front_kept h g is b) }

abbrev early : ℕ → Timed → Bool
early moment t = leb t.time moment

in_time : (moment time : ℕ) (cs : List Change) → leb time moment ≡ true → filter (early moment) (map (at_time time) cs) ≡ map (at_time time) cs
in_time moment time [] e = refl
in_time moment time (c ∷ cs) e = rw e (ap (λ l. at_time time c ∷ l) (in_time moment time cs e))

out_of_time : (moment time : ℕ) (cs : List Change) → leb time moment ≡ false → filter (early moment) (map (at_time time) cs) ≡ []
out_of_time moment time [] e = refl
out_of_time moment time (c ∷ cs) e = rw e (out_of_time moment time cs e)

timed_until : (moment : ℕ) (ps : List (Placed Admitted)) → timed (until moment ps) ≡ filter (early moment) (timed ps)
timed_until moment [] = refl
timed_until moment (p ∷ ps) =
    let cs : List Timed = map (at_time (time_of p)) p.item.changes in
    let split = filter-append (early moment) cs (timed ps) in
    elim (cases_Bool (leb (time_of p) moment)) [
      | inl e ↦ rw e (ap (λ l. cs ++ l) (timed_until moment ps) ∙ sym (split ∙ ap (λ l. l ++ filter (early moment) (timed ps)) (in_time moment (time_of p) p.item.changes e)))
      | inr e ↦ rw e (timed_until moment ps ∙ sym (split ∙ ap (λ l. l ++ filter (early moment) (timed ps)) (out_of_time moment (time_of p) p.item.changes e)))
    ]

nothing_more : (xs ys : List Timed) → xs ++ ys ≡ xs → ys ≡ []
nothing_more [] ys e = e
nothing_more (x ∷ xs) ys e = nothing_more xs ys (let tails : xs ++ ys ≡ xs = cc in tails)

none_early : (moment : ℕ) (xs : List Timed) → filter (early moment) xs ≡ [] → AllByRecursion (λ t. moment < t.time) xs
none_early moment [] e = tt
none_early moment (x ∷ xs) e = elim (cases_Bool (leb x.time moment)) [
  | inl le ↦ (let e' = e in let e'' = rw le at e' in cc)
  | inr gt ↦ (let e' = e in let e'' = rw gt at e' in (leb-false _ _ gt, none_early moment xs e''))
]

-- up to a settled moment the same is applied in each history that goes on
pub until-applied : (h g : History) (moment : ℕ) → IsHistory h → IsHistory g → Begins h g → moment < settled h → until moment (applied h) ≡ until moment (applied g)
until-applied h g moment is on b lt = until-later h g moment is b lt ∙ sym (until-later g g moment on (Begins-refl g) (settled_stays h g moment is b lt))

-- what is applied later was reported after the settled moment
pub later_times : (h g : History) (moment : ℕ) → IsHistory h → IsHistory g → (b : Begins h g) → moment < settled h → (s : IsStartOf (timed (applied h)) (timed (applied g))) → AllByRecursion (λ t. moment < t.time) s.more
later_times h g moment is on b lt s =
    let same : filter (early moment) (timed (applied h)) ≡ filter (early moment) (timed (applied g)) = sym (timed_until moment (applied h)) ∙ (ap timed (until-applied h g moment is on b lt) ∙ timed_until moment (applied g)) in
    let split : filter (early moment) (timed (applied g)) ≡ filter (early moment) (timed (applied h)) ++ filter (early moment) s.more = ap (filter (early moment)) s.is ∙ filter-append (early moment) (timed (applied h)) s.more in
    none_early moment s.more (nothing_more (filter (early moment) (timed (applied h))) (filter (early moment) s.more) (sym (same ∙ split)))
