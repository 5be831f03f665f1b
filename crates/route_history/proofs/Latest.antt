-- Stamps of applied changes rise, and the newest version of a key is the last one along the list.
use Rattle.std.proofs.Common.{◌≡◌, ℕ, zero, suc, ◌*◌, ◌<◌, ◌≤◌, ◌⊎◌, ◌&&◌, inl, inr, List, [], ◌∷◌, ◌++◌, map, Bool, true, false, cond, eqb, leb, Some, None, Option, slice_get, refl, sym, ap, ◌∙◌, subst, arith}
use Rattle.std.specs.List.{AllByRecursion}
use Rattle.std.proofs.Math.Nat.{mul-le-mul_left}
use Rattle.std.proofs.lemmas.Bool.{cases_Bool, cases_lt, false≢true, le-leb, lt-leb, eqb-true, eq-eqb, leb-true}
use Rattle.std.proofs.lemmas.Option.{same_Some, none-some}
use Rattle.route_model.specs.declared.change.Change.{Change}
use Rattle.route_model.specs.Admission.{Admitted}
use Rattle.route_meaning.specs.Holds.{time_of}
use Rattle.route_meaning.specs.Merged.{Placed, IsRising}
use Rattle.version_model.specs.Versions.{Version, Has, AsOf}
use Rattle.route_history.specs.Stamps.{orders, stamp_of, last_stamp}
use Rattle.route_history.specs.Kept.{Timed, at_time, timed, AreVersions}

-- ---- stamps

-- a stamp is no later than a moment's last one exactly where its time isn't later
pub stamp-leb : (time n moment : ℕ) → n < orders → leb (stamp_of time n) (last_stamp moment) ≡ leb time moment
stamp-leb time n moment few = elim (cases_lt moment time) [
  | inl late ↦ (let h : orders * suc moment ≤ orders * time = mul-le-mul_left orders (let g : suc moment ≤ time = omega arith in g) in
      lt-leb (stamp_of time n) (last_stamp moment) (omega (arith, h)) ∙ sym (lt-leb time moment late))
  | inr early ↦ (let h : orders * time ≤ orders * moment = mul-le-mul_left orders early in
      le-leb (stamp_of time n) (last_stamp moment) (omega (arith, h)) ∙ sym (le-leb time moment early))
]

-- the stamps rise along the list and are not below m
abbrev pub RisesFrom : ℕ → List Version → Type 0
RisesFrom m [] = Unit {0}
RisesFrom m (v ∷ vs) = (m ≤ v.stamp) × RisesFrom (suc v.stamp) vs

-- the times never fall and are not below t
abbrev pub TimesFrom : ℕ → List Timed → Type 0
TimesFrom t [] = Unit {0}
TimesFrom t (x ∷ xs) = (t ≤ x.time) × TimesFrom x.time xs

times_lower : (s t : ℕ) (xs : List Timed) → s ≤ t → TimesFrom t xs → TimesFrom s xs
times_lower s t [] le h = tt
times_lower s t (x ∷ xs) le h = (let low : t ≤ x.time = h.0 in omega arith, h.1)

times_append : (t u : ℕ) (changes : List Change) (xs : List Timed) → u ≤ t → TimesFrom t xs → TimesFrom u (map (at_time t) changes ++ xs)
times_append t u [] xs le h = times_lower u t xs le h
times_append t u (c ∷ cs) xs le h = (le, times_append t t cs xs (omega arith) h)

pub times_timed : (t : ℕ) (ps : List (Placed Admitted)) → AllByRecursion (λ q. t ≤ time_of q) ps → IsRising time_of ps → TimesFrom t (timed ps)
times_timed t [] low r = tt
times_timed t (p ∷ ps) low r = times_append (time_of p) t p.item.changes (timed ps) low.0 (times_timed (time_of p) ps r.0 r.1)

pub rises_from : (t n : ℕ) (xs : List Timed) (vs : List Version) → TimesFrom t xs → AreVersions n xs vs → RisesFrom (stamp_of t n) vs
rises_from t n [] [] h k = tt
rises_from t n [] (v ∷ vs) h k = absurd k
rises_from t n (x ∷ xs) [] h k = tt
rises_from t n (x ∷ xs) (v ∷ vs) h k =
    let le : t ≤ x.time = h.0 in
    let g : orders * t ≤ orders * x.time = mul-le-mul_left orders le in
    let is : v.stamp ≡ stamp_of x.time n = k.0.stamp in
    (omega (arith, g, is), subst (λ m. RisesFrom m vs) (let e : stamp_of x.time (suc n) ≡ suc v.stamp = omega (arith, is) in e) (rises_from x.time (suc n) xs vs h.1 k.1))

-- ---- the last version of a key, as a walk along the list

abbrev pub counts_at : ℕ → ℕ → Version → Bool
counts_at key s v = eqb v.key key && leb v.stamp s

abbrev pub latest : ℕ → ℕ → Option Version → List Version → Option Version
latest key s found [] = found
latest key s found (v ∷ vs) = latest key s (cond (counts_at key s v) (Some v) found) vs

abbrev NoneCounts : ℕ → ℕ → List Version → Type 0
NoneCounts key s vs = AllByRecursion (λ v. counts_at key s v ≡ false) vs

both : (a b : Bool) → (a && b) ≡ true → (a ≡ true) × (b ≡ true)
both true b e = (refl, e)
both false b e = cc

none_latest : (key s : ℕ) (found : Option Version) (vs : List Version) → NoneCounts key s vs → latest key s found vs ≡ found
none_latest key s found [] a = refl
none_latest key s found (v ∷ vs) a = rw a.0 (none_latest key s found vs a.1)

pub below_all : (m : ℕ) (vs : List Version) → RisesFrom m vs → AllByRecursion (λ v. m ≤ v.stamp) vs
below_all m [] r = tt
below_all m (v ∷ vs) r = (r.0, weaken m v.stamp vs (let le : m ≤ v.stamp = r.0 in le) (below_all (suc v.stamp) vs r.1))
  where
    weaken : (m n : ℕ) (ws : List Version) → m ≤ n → AllByRecursion (λ w. suc n ≤ w.stamp) ws → AllByRecursion (λ w. m ≤ w.stamp) ws
    weaken m n [] le a = tt
    weaken m n (w ∷ ws) le a = (let lt : suc n ≤ w.stamp = a.0 in omega arith, weaken m n ws le a.1)

pub at_place : (P : Version → Type 0) (vs : List Version) → AllByRecursion P vs → (i : ℕ) (v : Version) → slice_get vs i ≡ Some v → P v
at_place P [] a i v e = absurd (none-some v e)
at_place P (w ∷ ws) a zero v e = subst P (same_Some w v e) a.0
at_place P (w ∷ ws) a (suc i) v e = at_place P ws a.1 i v e

-- where the last that counts has the greatest stamp, none after it counts
none_after : (key s : ℕ) (v : Version) (vs : List Version) → RisesFrom (suc v.stamp) vs → ((w : Version) → Has vs w → w.key ≡ key → w.stamp ≤ s → w.stamp ≤ v.stamp) → NoneCounts key s vs
none_after key s v [] r g = tt
none_after key s v (w ∷ ws) r g = (
  elim (cases_Bool (counts_at key s w)) [
    | inl yes_ ↦ (let h = both _ _ yes_ in let le : w.stamp ≤ v.stamp = g w (record { place = 0; is = refl }) (eqb-true _ _ h.0) (leb-true _ _ h.1) in let lt : suc v.stamp ≤ w.stamp = r.0 in absurd (omega arith))
    | inr e ↦ e
  ],
  none_after key s v ws (lower (suc v.stamp) (suc w.stamp) ws (let lt : suc v.stamp ≤ w.stamp = r.0 in omega arith) r.1) (λ u h. g u (record { place = suc h.place; is = h.is })),
)
  where
    lower : (m n : ℕ) (us : List Version) → m ≤ n → RisesFrom n us → RisesFrom m us
    lower m n [] le h = tt
    lower m n (u ∷ us) le h = (let low : n ≤ u.stamp = h.0 in omega arith, h.1)

counts_true : (key s : ℕ) (v : Version) → v.key ≡ key → v.stamp ≤ s → counts_at key s v ≡ true
counts_true key s v e le = rw (eq-eqb v.key key e) (le-leb v.stamp s le)

-- the greatest of those that count, at its place
record IsLast (key s : ℕ) (v : Version) (vs : List Version) : Type 0 where
  pub of_key : v.key ≡ key
  pub not_after : v.stamp ≤ s
  pub greatest : (w : Version) → Has vs w → w.key ≡ key → w.stamp ≤ s → w.stamp ≤ v.stamp

last_latest : (key s m : ℕ) (found : Option Version) (v : Version) (vs : List Version) (i : ℕ) → RisesFrom m vs → slice_get vs i ≡ Some v → IsLast key s v vs → latest key s found vs ≡ Some v
last_latest key s m found v [] i r e a = absurd (none-some v e)
last_latest key s m found v (w ∷ ws) zero r e a =
    let same : v ≡ w = sym (same_Some w v e) in
    let key_is : w.key ≡ key = ap (λ (x : Version). x.key) (sym same) ∙ a.of_key in
    let stamp_is : w.stamp ≡ v.stamp = ap (λ (x : Version). x.stamp) (sym same) in
    let early : v.stamp ≤ s = a.not_after in
    rw (counts_true key s w key_is (omega arith))
    (none_latest key s (Some w) ws (none_after key s w ws r.1 (λ u h k n. let le : u.stamp ≤ v.stamp = a.greatest u (record { place = suc h.place; is = h.is }) k n in omega arith)) ∙ e)
last_latest key s m found v (w ∷ ws) (suc i) r e a =
    last_latest key s (suc w.stamp) (cond (counts_at key s w) (Some w) found) v ws i r.1 e
    (record { of_key = a.of_key; not_after = a.not_after; greatest = λ u h. a.greatest u (record { place = suc h.place; is = h.is }) })

pub as_of_latest : (key s m : ℕ) (found : Option Version) (v : Version) (vs : List Version) → RisesFrom m vs → AsOf vs key s v → latest key s found vs ≡ Some v
as_of_latest key s m found v vs r a = last_latest key s m found v vs a.has.place r a.has.is (record { of_key = a.of_key; not_after = a.not_after; greatest = a.greatest })

-- what the walk has found is what holds, or what it found before
latest_from : (key s m : ℕ) (found : Option Version) (v : Version) (vs : List Version) → RisesFrom m vs → latest key s found vs ≡ Some v → ((found ≡ Some v) × NoneCounts key s vs) ⊎ AsOf vs key s v
latest_from key s m found v [] r e = inl (e, tt)
latest_from key s m found v (w ∷ ws) r e = elim (latest_from key s (suc w.stamp) (cond (counts_at key s w) (Some w) found) v ws r.1 e) [
  | inl was ↦ elim (cases_Bool (counts_at key s w)) [
    | inl hit ↦ inr (
        let same : w ≡ v = same_Some w v (sym (rw hit refl) ∙ was.0) in
        let h = both _ _ hit in
        subst (AsOf (w ∷ ws) key s) same (record {
          has = record { place = 0; is = refl };
          of_key = eqb-true _ _ h.0;
          not_after = leb-true _ _ h.1;
          greatest = λ u hu k n. here u hu.place hu.is k n was.1;
        }))
    | inr miss ↦ inl (sym (rw miss refl) ∙ was.0, (miss, was.1))
  ]
  | inr a ↦ inr (record {
    has = record { place = suc a.has.place; is = a.has.is };
    of_key = a.of_key;
    not_after = a.not_after;
    greatest = λ u hu k n. later u hu.place hu.is k n a;
  })
]
  where
    here : (u : Version) (i : ℕ) → slice_get (w ∷ ws) i ≡ Some u → u.key ≡ key → u.stamp ≤ s → NoneCounts key s ws → u.stamp ≤ w.stamp
    here u zero is k n none = let e' : w.stamp ≡ u.stamp = ap (λ (x : Version). x.stamp) (same_Some w u is) in omega arith
    here u (suc i) is k n none = absurd (false≢true (sym (at_place (λ x. counts_at key s x ≡ false) ws none i u is) ∙ counts_true key s u k n))

    later : (u : Version) (i : ℕ) → slice_get (w ∷ ws) i ≡ Some u → u.key ≡ key → u.stamp ≤ s → AsOf ws key s v → u.stamp ≤ v.stamp
    later u zero is k n a =
        let e' : w.stamp ≡ u.stamp = ap (λ (x : Version). x.stamp) (same_Some w u is) in
        let le : suc w.stamp ≤ v.stamp = at_place (λ x. suc w.stamp ≤ x.stamp) ws (below_all (suc w.stamp) ws r.1) a.has.place v a.has.is in omega arith
    later u (suc i) is k n a = a.greatest u (record { place = i; is = is }) k n

pub latest_as_of : (key s m : ℕ) (v : Version) (vs : List Version) → RisesFrom m vs → latest key s None vs ≡ Some v → AsOf vs key s v
latest_as_of key s m v vs r e = elim (latest_from key s m None v vs r e) [ inl was ↦ absurd (none-some v was.0) | inr a ↦ a ]
