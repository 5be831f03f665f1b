-- The versions of a prefix and a session in a span are the events of the span.
use Rattle.std.proofs.Common.{◌≡◌, ℕ, zero, suc, ◌+◌, ◌*◌, ◌^◌, ◌<◌, ◌≤◌, ◌&&◌, inl, inr, List, [], ◌∷◌, ◌++◌, map, Bool, true, false, eqb, ltb, leb, Some, slice_get, refl, sym, ap, ◌∙◌, subst, arith}
use Rattle.std.specs.Prelude.{◌||◌}
use Rattle.std.specs.List.{AllByRecursion, AllZip, filter}
use Rattle.std.proofs.lemmas.Bool.{cases_Bool, cases_lt, lt-ltb, le-ltb, le-leb, lt-leb}
use Rattle.std.proofs.lemmas.Option.{same_Some, none-some}
use Rattle.std.proofs.Math.Nat.{mul-le-mul_left}
use Rattle.route_model.specs.declared.peer.Peer.{Peer}
use Rattle.route_model.specs.declared.change.Change.{Change}
use Rattle.route_model.specs.declared.change.Change.TheVariants.{Announce, Withdraw, Down}
use Rattle.route_model.specs.Admission.{Admitted, IsChange}
use Rattle.route_model.specs.Prefix.{IpPrefix, IsPrefix}
use Rattle.route_model.specs.Encoding.{IsPeer}
use Rattle.route_model.specs.Keys.{key_number, session_number}
use Rattle.route_meaning.specs.declared.question.Event.{Event}
use Rattle.route_meaning.specs.declared.question.EventsQuestion.{EventsQuestion}
use Rattle.route_meaning.specs.Merged.{Placed, IsRising as TimesRise}
use Rattle.route_meaning.specs.Holds.{time_of, same_peer, same_prefix, concerns}
use Rattle.route_meaning.specs.Events.{events_in, all_events, between}
use Rattle.route_meaning.proofs.Holding.{both, same_peer-true, same_prefix-true}
use Rattle.route_meaning.proofs.api.Sorting.{all_weaker}
use Rattle.version_model.specs.Versions.{Version, IsRising}
use Rattle.route_history.specs.Stamps.{orders, stamp_of, last_stamp}
use Rattle.route_history.specs.Kept.{Timed, at_time, timed, key_of, HasValue, IsVersion, AreVersions, HaveVersions}
use Rattle.route_history.specs.Spans.{AreStampsRising, is_of_two, is_at, span_end, asked, IsChangeOf, IsEventOf, HasEvent, ReportsEvents}
use Rattle.route_history.proofs.KeysApart.{prefix-prefix, session-session, session-prefix, prefix-session}
use Rattle.route_history.proofs.Latest.{RisesFrom, stamp-leb, below_all, at_place}
use Rattle.route_history.proofs.Judging.{kept_rises}

abbrev ev : Timed → Event
ev t = record { time = t.time; change = t.change }

module _ (p : Peer) (x : IpPrefix) (from to : ℕ) where
  abbrev in_span : ℕ → Bool
  in_span time = leb from time && leb time to

  abbrev is_asked : Timed → Bool
  is_asked t = concerns p x t.change && in_span t.time

  abbrev reported_of : List Timed → List Event
  reported_of xs = map ev (filter is_asked xs)

  and_true : (b : Bool) → (b && true) ≡ b
  and_true true = refl
  and_true false = refl

  and_false : (b : Bool) → (b && false) ≡ false
  and_false true = refl
  and_false false = refl

  inside : (time : ℕ) (cs : List Change) (xs : List Timed) → in_span time ≡ true → reported_of (map (at_time time) cs ++ xs) ≡ map (λ change. record { time = time; change = change }) (filter (concerns p x) cs) ++ reported_of xs
  inside time [] xs e = refl
  inside time (c ∷ cs) xs e = elim (cases_Bool (concerns p x c)) [
    | inl hit ↦ (let there : is_asked (at_time time c) ≡ true = rw (hit, e) refl in rw (there, hit) (ap (λ l. ev (at_time time c) ∷ l) (inside time cs xs e)))
    | inr miss ↦ (let out : is_asked (at_time time c) ≡ false = rw miss refl in rw (out, miss) (inside time cs xs e))
  ]

  outside : (time : ℕ) (cs : List Change) (xs : List Timed) → in_span time ≡ false → reported_of (map (at_time time) cs ++ xs) ≡ reported_of xs
  outside time [] xs e = refl
  outside time (c ∷ cs) xs e = (let out : is_asked (at_time time c) ≡ false = ap (λ b. concerns p x c && b) e ∙ and_false (concerns p x c) in rw out (outside time cs xs e))

  pub reported_timed : (ps : List (Placed Admitted)) → all_events p x (between from to ps) ≡ reported_of (timed ps)
  reported_timed [] = refl
  reported_timed (q ∷ ps) = elim (cases_Bool (leb (time_of q) to)) [
    | inl early ↦ elim (cases_Bool (leb from (time_of q))) [
      | inl late ↦ (
          let there : in_span (time_of q) ≡ true = rw (late, early) refl in
          rw (early, late) (ap (λ l. events_in p x q ++ l) (reported_timed ps) ∙ sym (inside (time_of q) q.item.changes (timed ps) there)))
      | inr before ↦ (
          let out : in_span (time_of q) ≡ false = rw before refl in
          rw (early, before) (reported_timed ps ∙ sym (outside (time_of q) q.item.changes (timed ps) out)))
    ]
    | inr after ↦ (
        let out : in_span (time_of q) ≡ false = ap (λ b. leb from (time_of q) && b) after ∙ and_false (leb from (time_of q)) in
        rw after (reported_timed ps ∙ sym (outside (time_of q) q.item.changes (timed ps) out)))
  ]

  module _ (hp : IsPeer p) (hx : IsPrefix x) where
    abbrev K : ℕ
    K = key_number p x

    abbrev N : ℕ
    N = session_number p

    or_false : (b : Bool) → (b || false) ≡ b
    or_false true = refl
    or_false false = refl

    at_keys : (v : Version) (c : Change) → IsChange c → v.key ≡ key_of c → (eqb v.key K || eqb v.key N) ≡ concerns p x c
    at_keys v (Announce q y r) ok key = rw (key, prefix-prefix q p y x ok.0 hp ok.1 hx, prefix-session q p y ok.0 hp ok.1) (or_false (same_peer q p && same_prefix y x))
    at_keys v (Withdraw q y) ok key = rw (key, prefix-prefix q p y x ok.0 hp ok.1 hx, prefix-session q p y ok.0 hp ok.1) (or_false (same_peer q p && same_prefix y x))
    at_keys v (Down q) ok key = rw (key, session-prefix q p x ok hp hx, session-session q p ok hp) refl

    lt-suc : (a b : ℕ) → ltb a (suc b) ≡ leb a b
    lt-suc a b = elim (cases_lt b a) [
      | inl lt ↦ le-ltb a (suc b) (omega arith) ∙ sym (lt-leb a b lt)
      | inr ge ↦ lt-ltb a (suc b) (omega arith) ∙ sym (le-leb a b ge)
    ]

    start-leb : (time n : ℕ) → n < orders → leb (stamp_of from 0) (stamp_of time n) ≡ leb from time
    start-leb time n few = elim (cases_lt time from) [
      | inl early ↦ (let h : orders * suc time ≤ orders * from = mul-le-mul_left orders (let g : suc time ≤ from = omega arith in g) in lt-leb (stamp_of from 0) (stamp_of time n) (omega (arith, h)) ∙ sym (lt-leb from time early))
      | inr late ↦ (let h : orders * from ≤ orders * time = mul-le-mul_left orders late in le-leb (stamp_of from 0) (stamp_of time n) (omega (arith, h)) ∙ sym (le-leb from time late))
    ]

    asks : (n : ℕ) (t : Timed) (v : Version) → IsVersion n t v → is_of_two K N (stamp_of from 0) (suc (last_stamp to)) v ≡ is_asked t
    asks n t v is =
        let a = at_keys v t.change is.is_change is.key in
        let b : leb (stamp_of from 0) v.stamp ≡ leb from t.time = ap (leb (stamp_of from 0)) is.stamp ∙ start-leb t.time n is.few in
        let d : ltb v.stamp (suc (last_stamp to)) ≡ leb t.time to = lt-suc v.stamp (last_stamp to) ∙ (ap (λ s. leb s (last_stamp to)) is.stamp ∙ stamp-leb t.time n to is.few) in
        λ i. a i && (b i && d i)

    is_change : (v : Version) (c : Change) → v.key ≡ key_of c → HasValue c v.value → concerns p x c ≡ true → IsChangeOf p x v c
    is_change v (Announce q y r) key value hit =
        let h = both _ _ hit in
        let peers : q ≡ p = same_peer-true q p h.0 in
        let prefixes : y ≡ x = same_prefix-true y x h.1 in
        (peers, prefixes, key ∙ (λ i. key_number (peers i) (prefixes i)), value)
    is_change v (Withdraw q y) key value hit =
        let h = both _ _ hit in
        let peers : q ≡ p = same_peer-true q p h.0 in
        let prefixes : y ≡ x = same_prefix-true y x h.1 in
        (peers, prefixes, key ∙ (λ i. key_number (peers i) (prefixes i)), value)
    is_change v (Down q) key value hit = let peers : q ≡ p = same_peer-true q p hit in (peers, key ∙ ap session_number peers)

    is_event : (n : ℕ) (t : Timed) (v : Version) → IsVersion n t v → concerns p x t.change ≡ true → IsEventOf p x v (ev t)
    is_event n t v is hit = record {
      time = (let s : v.stamp ≡ t.time * 2 ^ 64 + n = is.stamp in let few : n < 2 ^ 64 = is.few in omega (arith, s, few));
      change = is_change v t.change is.key is.value hit;
    }

    pub versions_reported : (n : ℕ) (ts : List Timed) (vs : List Version) → AreVersions n ts vs → AllZip (IsEventOf p x) (filter (is_of_two K N (stamp_of from 0) (suc (last_stamp to))) vs) (reported_of ts)
    versions_reported n [] [] k = tt
    versions_reported n [] (v ∷ vs) k = absurd k
    versions_reported n (t ∷ ts) [] k = absurd k
    versions_reported n (t ∷ ts) (v ∷ vs) k =
        let same = asks n t v k.0 in
        let rest = versions_reported (suc n) ts vs k.1 in
        elim (cases_Bool (is_asked t)) [
          | inl hit ↦ (let hit' : is_of_two K N (stamp_of from 0) (suc (last_stamp to)) v ≡ true = same ∙ hit in rw (hit, hit') (is_event n t v k.0 (both _ _ hit).0, rest))
          | inr miss ↦ (let miss' : is_of_two K N (stamp_of from 0) (suc (last_stamp to)) v ≡ false = same ∙ miss in rw (miss, miss') rest)
        ]

    pub each_reported : (n : ℕ) (ts : List Timed) (vs : List Version) → AreVersions n ts vs → AllByRecursion (HasEvent p x) (filter (is_at K N) vs)
    each_reported n [] [] k = tt
    each_reported n [] (v ∷ vs) k = absurd k
    each_reported n (t ∷ ts) [] k = absurd k
    each_reported n (t ∷ ts) (v ∷ vs) k =
        let same : is_at K N v ≡ concerns p x t.change = at_keys v t.change k.0.is_change k.0.key in
        let rest = each_reported (suc n) ts vs k.1 in
        elim (cases_Bool (concerns p x t.change)) [
          | inl hit ↦ (let hit' : is_at K N v ≡ true = same ∙ hit in rw hit' ((ev t, k.0.time, is_event n t v k.0 hit), rest))
          | inr miss ↦ (let miss' : is_at K N v ≡ false = same ∙ miss in rw miss' rest)
        ]

rises_rise : (m : ℕ) (vs : List Version) → RisesFrom m vs → AreStampsRising vs
rises_rise m [] r = tt
rises_rise m (v ∷ vs) r = (all_weaker _ _ (λ w h. (let le : suc v.stamp ≤ w.stamp = h in let lt : v.stamp < w.stamp = omega arith in lt)) vs (below_all (suc v.stamp) vs r.1), rises_rise (suc v.stamp) vs r.1)

rising_at : (vs : List Version) → AreStampsRising vs → (i j : ℕ) (v w : Version) → i < j → slice_get vs i ≡ Some v → slice_get vs j ≡ Some w → v.stamp < w.stamp
rising_at [] r i j v w lt a b = absurd (none-some v a)
rising_at (u ∷ vs) r i zero v w lt a b = absurd (omega (arith, lt))
rising_at (u ∷ vs) r zero (suc j) v w lt a b = subst (λ (t : Version). t.stamp < w.stamp) (same_Some u v a) (at_place (λ t. u.stamp < t.stamp) vs r.0 j w b)
rising_at (u ∷ vs) r (suc i) (suc j) v w lt a b = rising_at vs r.1 i j v w (omega (arith, lt)) a b

pub rising_record : (vs : List Version) → AreStampsRising vs → IsRising vs
rising_record vs r = record { rises = λ i j v w lt a b. rising_at vs r i j v w lt a b }

-- what follows of each span
pub kept_reports_events : (ps : List (Placed Admitted)) (versions : List Version) (q : EventsQuestion) → TimesRise time_of ps → HaveVersions ps versions → IsPeer q.peer → IsPrefix q.prefix → ReportsEvents versions ps q
kept_reports_events ps versions q timely kept hp hx = record {
  rising = rises_rise (stamp_of 0 0) versions (kept_rises ps versions timely kept);
  each = each_reported q.peer q.prefix q.from q.to hp hx 0 (timed ps) versions kept;
  reported = subst (AllZip (IsEventOf q.peer q.prefix) (asked versions q (span_end q))) (sym (reported_timed q.peer q.prefix q.from q.to ps)) (versions_reported q.peer q.prefix q.from q.to hp hx 0 (timed ps) versions kept);
}

pub kept_rising : (ps : List (Placed Admitted)) (versions : List Version) → TimesRise time_of ps → HaveVersions ps versions → IsRising versions
kept_rising ps versions timely kept = rising_record versions (rises_rise (stamp_of 0 0) versions (kept_rises ps versions timely kept))
