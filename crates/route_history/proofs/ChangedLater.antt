-- The spots that changed in a span are those whose keys have a version in it.
use Rattle.std.proofs.Common.{◌≡◌, ℕ, zero, suc, ◌+◌, ◌*◌, ◌^◌, ◌<◌, ◌≤◌, ◌&&◌, inl, inr, ◌⊎◌, List, [], ◌∷◌, map, Bool, true, false, eqb, leb, length, refl, sym, ap, ◌∙◌, subst, arith, Contains}
use Rattle.std.specs.List.{filter}
use Rattle.std.proofs.lemmas.Bool.{cases_Bool, eq-eqb, le-leb, leb-true, false≢true}
use Rattle.route_model.specs.declared.peer.Peer.{Peer}
use Rattle.route_model.specs.declared.change.Change.{Change}
use Rattle.route_model.specs.declared.change.Change.TheVariants.{Announce, Withdraw, Down}
use Rattle.route_model.specs.Admission.{Admitted, IsChange}
use Rattle.route_model.specs.Prefix.{IpPrefix, IsPrefix}
use Rattle.route_model.specs.Encoding.{IsPeer}
use Rattle.route_model.specs.Keys.{key_number, session_number}
use Rattle.route_meaning.specs.declared.question.ChangedQuestion.{ChangedQuestion}
use Rattle.route_meaning.specs.declared.question.Event.{Event}
use Rattle.route_meaning.specs.declared.question.Spot.{Spot}
use Rattle.route_meaning.specs.Changed.{IsChanged, IsOfPrefix}
use Rattle.route_meaning.specs.Merged.{Placed}
use Rattle.route_meaning.specs.Holds.{concerns}
use Rattle.route_meaning.proofs.Holding.{both, same_peer-true, same_prefix-true}
use Rattle.version_model.specs.Versions.{Version, Has}
use Rattle.version_model.proofs.api.LooksShown.{Has-tail, Has-head, Has-cases}
use Rattle.version_model.proofs.api.Pushed.{Has-nil}
use Rattle.tsb_walk.specs.Touched.{HasWithin}
use Rattle.route_history.specs.Changes.{ReportsChanged}
use Rattle.route_history.specs.Stamps.{orders, stamp_of}
use Rattle.route_history.specs.Kept.{Timed, timed, key_of, IsVersion, AreVersions, HaveVersions}
use Rattle.route_history.proofs.KeysApart.{prefix-prefix, session-prefix}
use Rattle.route_history.proofs.Reporting.{reported_timed}

-- an element of a list is its first or one of the rest
pub contains_cases : {X : Type 0} → (x y : X) (xs : List X) → Contains (x ∷ xs) y → (x ≡ y) ⊎ Contains xs y
contains_cases x y xs c = by_place c.0 c.1 c.2
  where
    by_place : (k : ℕ) → k < length (x ∷ xs) → Rattle.std.specs.Prelude.slice_index_or (x ∷ xs) k y ≡ y → (x ≡ y) ⊎ Contains xs y
    by_place zero lt is = inl is
    by_place (suc k) lt is = inr (k, omega (arith, lt), is)

pub contains_tail : {X : Type 0} → (x y : X) (xs : List X) → Contains xs y → Contains (x ∷ xs) y
contains_tail x y xs c = (suc c.0, omega (arith, c.1), c.2)

module _ (p : Peer) (x : IpPrefix) (from to : ℕ) where
  abbrev K : ℕ
  K = key_number p x

  abbrev F : ℕ
  F = stamp_of from 0

  abbrev E : ℕ
  E = stamp_of (suc to) 0

  abbrev event_of : Timed → Event
  event_of t = record { time = t.time; change = t.change }

  abbrev is_asked : Timed → Bool
  is_asked t = concerns p x t.change && (leb from t.time && leb t.time to)

  abbrev events_of : List Timed → List Event
  events_of ts = map event_of (filter is_asked ts)

  events_hit : (t : Timed) (ts : List Timed) → is_asked t ≡ true → events_of (t ∷ ts) ≡ event_of t ∷ events_of ts
  events_hit t ts e = rw e refl

  events_miss : (t : Timed) (ts : List Timed) → is_asked t ≡ false → events_of (t ∷ ts) ≡ events_of ts
  events_miss t ts e = rw e refl

  -- the key at which a change of the prefix is kept
  pub record IsThere (c : Change) : Type 0 where
    pub key : key_of c ≡ K
    pub peer : IsPeer p
    pub prefix : IsPrefix x

  there : (c : Change) → IsChange c → concerns p x c ≡ true → IsOfPrefix c → IsThere c
  there (Announce q y r) ok hit of =
      let h = both _ _ hit in
      let peers : q ≡ p = same_peer-true q p h.0 in
      let prefixes : y ≡ x = same_prefix-true y x h.1 in
      record { key = λ i. key_number (peers i) (prefixes i); peer = subst IsPeer peers ok.0; prefix = subst IsPrefix prefixes ok.1 }
  there (Withdraw q y) ok hit of =
      let h = both _ _ hit in
      let peers : q ≡ p = same_peer-true q p h.0 in
      let prefixes : y ≡ x = same_prefix-true y x h.1 in
      record { key = λ i. key_number (peers i) (prefixes i); peer = subst IsPeer peers ok.0; prefix = subst IsPrefix prefixes ok.1 }
  there (Down q) ok hit of = absurd of

  -- a change of a span has a stamp of the span
  low_stamp : (time n : ℕ) → from ≤ time → F ≤ stamp_of time n
  low_stamp time n le = omega arith

  high_stamp : (time n : ℕ) → n < orders → time ≤ to → stamp_of time n < E
  high_stamp time n few le = omega arith

  pub record IsKeptAt (vs : List Version) : Type 0 where
    pub peer : IsPeer p
    pub prefix : IsPrefix x
    pub within : HasWithin vs K F E

  later : (v : Version) (vs : List Version) → IsKeptAt vs → IsKeptAt (v ∷ vs)
  later v vs k = record {
    peer = k.peer;
    prefix = k.prefix;
    within = record { version = k.within.version; has = Has-tail v vs k.within.version k.within.has; of_key = k.within.of_key; from = k.within.from; before = k.within.before };
  }

  now : (n : ℕ) (t : Timed) (v : Version) (vs : List Version) → IsVersion n t v → is_asked t ≡ true → IsOfPrefix t.change → IsKeptAt (v ∷ vs)
  now n t v vs is hit of =
      let h = both _ _ hit in
      let span = both _ _ h.1 in
      let at = there t.change is.is_change h.0 of in
      let low : from ≤ t.time = leb-true from t.time span.0 in
      let high : t.time ≤ to = leb-true t.time to span.1 in
      record {
        peer = at.peer;
        prefix = at.prefix;
        within = record {
          version = v;
          has = Has-head v vs;
          of_key = is.key ∙ at.key;
          from = subst (λ (s : ℕ). F ≤ s) (sym is.stamp) (low_stamp t.time n low);
          before = subst (λ (s : ℕ). s < E) (sym is.stamp) (high_stamp t.time n is.few high);
        };
      }

  -- what was reported of the prefix is kept at its key
  pub kept_at : (n : ℕ) (ts : List Timed) (vs : List Version) → AreVersions n ts vs → (e : Event) → Contains (events_of ts) e → IsOfPrefix e.change → IsKeptAt vs
  kept_at n [] [] k e c of = absurd (omega (arith, c.1))
  kept_at n [] (v ∷ vs) k e c of = absurd k
  kept_at n (t ∷ ts) [] k e c of = absurd k
  kept_at n (t ∷ ts) (v ∷ vs) k e c of = elim (cases_Bool (is_asked t)) [
    | inl hit ↦ elim (contains_cases (event_of t) e (events_of ts) (subst (λ (l : List Event). Contains l e) (events_hit t ts hit) c)) [
      | inl here ↦ now n t v vs k.0 hit (subst (λ (f : Event). IsOfPrefix f.change) (sym here) of)
      | inr rest ↦ later v vs (kept_at (suc n) ts vs k.1 e rest of)
    ]
    | inr miss ↦ later v vs (kept_at (suc n) ts vs k.1 e (subst (λ (l : List Event). Contains l e) (events_miss t ts miss) c) of)
  ]

  -- ---- the other way

  pub record IsReportedIn (ts : List Timed) : Type 0 where
    pub event : Event
    pub there : Contains (events_of ts) event
    pub of_prefix : IsOfPrefix event.change

  record Concerns (c : Change) : Type 0 where
    pub hit : concerns p x c ≡ true
    pub of_prefix : IsOfPrefix c

  concerned : (c : Change) → IsChange c → IsPeer p → IsPrefix x → key_of c ≡ K → Concerns c
  concerned (Announce q y r) ok hp hx e = record { hit = sym (prefix-prefix q p y x ok.0 hp ok.1 hx) ∙ eq-eqb _ _ e; of_prefix = tt }
  concerned (Withdraw q y) ok hp hx e = record { hit = sym (prefix-prefix q p y x ok.0 hp ok.1 hx) ∙ eq-eqb _ _ e; of_prefix = tt }
  concerned (Down q) ok hp hx e = absurd (false≢true (sym (session-prefix q p x ok hp hx) ∙ eq-eqb _ _ e))

  low_time : (time n : ℕ) → n < orders → F ≤ stamp_of time n → from ≤ time
  low_time time n few le = omega arith

  high_time : (time n : ℕ) → stamp_of time n < E → time ≤ to
  high_time time n lt = omega arith

  and_true : (a b c : Bool) → a ≡ true → b ≡ true → c ≡ true → (a && (b && c)) ≡ true
  and_true a b c ea eb ec = rw (ea, eb, ec) refl

  reported_first : (n : ℕ) (t : Timed) (ts : List Timed) (v : Version) → IsVersion n t v → IsPeer p → IsPrefix x → v.key ≡ K → F ≤ v.stamp → v.stamp < E → IsReportedIn (t ∷ ts)
  reported_first n t ts v is hp hx key low high =
      let c = concerned t.change is.is_change hp hx (sym is.key ∙ key) in
      let low' : from ≤ t.time = low_time t.time n is.few (subst (λ (s : ℕ). F ≤ s) is.stamp low) in
      let high' : t.time ≤ to = high_time t.time n (subst (λ (s : ℕ). s < E) is.stamp high) in
      let hit : is_asked t ≡ true = and_true _ _ _ c.hit (le-leb from t.time low') (le-leb t.time to high') in
      record { event = event_of t; there = subst (λ (l : List Event). Contains l (event_of t)) (sym (events_hit t ts hit)) (0, omega arith, refl); of_prefix = c.of_prefix }

  reported_later : (t : Timed) (ts : List Timed) → IsReportedIn ts → IsReportedIn (t ∷ ts)
  reported_later t ts r = elim (cases_Bool (is_asked t)) [
    | inl hit ↦ record { event = r.event; there = subst (λ (l : List Event). Contains l r.event) (sym (events_hit t ts hit)) (contains_tail (event_of t) r.event (events_of ts) r.there); of_prefix = r.of_prefix }
    | inr miss ↦ record { event = r.event; there = subst (λ (l : List Event). Contains l r.event) (sym (events_miss t ts miss)) r.there; of_prefix = r.of_prefix }
  ]

  -- what is kept at the key of the prefix was reported of it
  pub reported_of_kept : (n : ℕ) (ts : List Timed) (vs : List Version) → AreVersions n ts vs → IsPeer p → IsPrefix x → (v : Version) → Has vs v → v.key ≡ K → F ≤ v.stamp → v.stamp < E → IsReportedIn ts
  reported_of_kept n [] [] k hp hx v has key low high = absurd (Has-nil v has)
  reported_of_kept n [] (w ∷ vs) k hp hx v has key low high = absurd k
  reported_of_kept n (t ∷ ts) [] k hp hx v has key low high = absurd k
  reported_of_kept n (t ∷ ts) (w ∷ vs) k hp hx v has key low high = elim (Has-cases w vs v has) [
    | inl here ↦ (let same : v ≡ w = here in
        reported_first n t ts w k.0 hp hx (ap (λ (u : Version). u.key) (sym same) ∙ key) (subst (λ (u : Version). F ≤ u.stamp) same low) (subst (λ (u : Version). u.stamp < E) same high))
    | inr rest ↦ reported_later t ts (reported_of_kept (suc n) ts vs k.1 hp hx v rest key low high)
  ]

-- the spots that changed
pub kept_reports_changed : (ps : List (Placed Admitted)) (versions : List Version) (q : ChangedQuestion) → HaveVersions ps versions → ReportsChanged versions ps q
kept_reports_changed ps versions q kept = record {
  fits = λ spot h. (let k = found spot h in (k.peer, k.prefix));
  each = λ spot h. (found spot h).within;
  only = λ spot hp hx asked above within. (
      let r = reported_of_kept spot.peer spot.prefix q.from q.to 0 (timed ps) versions kept hp hx within.version within.has within.of_key within.from within.before in
      record {
        event = r.event;
        reported = subst (λ (l : List Event). Contains l r.event) (sym (reported_timed spot.peer spot.prefix q.from q.to ps)) r.there;
        of_prefix = r.of_prefix;
        low = asked.0;
        high = asked.1;
        above = above;
      });
}
  where
    found : (spot : Spot) → IsChanged ps q spot → IsKeptAt spot.peer spot.prefix q.from q.to versions
    found spot h = kept_at spot.peer spot.prefix q.from q.to 0 (timed ps) versions kept h.event (subst (λ (l : List Event). Contains l h.event) (reported_timed spot.peer spot.prefix q.from q.to ps) h.reported) h.of_prefix
