-- The route after changes is what two lookups of their versions return.
use Rattle.std.proofs.Common.{◌≡◌, ◌↔◌, ℕ, zero, suc, ◌<◌, ◌≤◌, ◌&&◌, inl, inr, List, [], ◌∷◌, ◌++◌, map, Bool, true, false, cond, eqb, ltb, leb, Some, None, Option, IsSome, slice_get, refl, sym, ap, ◌∙◌, subst, arith}
use Rattle.std.specs.List.{AllByRecursion, filter}
use Rattle.std.specs.Option.{is_some}
use Rattle.std.proofs.lemmas.Bool.{cases_Bool, false≢true, lt-ltb, le-ltb, eq-eqb}
use Rattle.std.proofs.lemmas.Option.{same_Some, none-some}
use Rattle.route_model.specs.declared.peer.Peer.{Peer}
use Rattle.route_model.specs.declared.route.Route.{Route}
use Rattle.route_model.specs.declared.change.Change.{Change}
use Rattle.route_model.specs.declared.change.Change.TheVariants.{Announce, Withdraw, Down}
use Rattle.route_model.specs.Admission.{Admitted, IsChange}
use Rattle.route_model.specs.Prefix.{IpPrefix, IsPrefix}
use Rattle.route_model.specs.Encoding.{IsPeer, EncodesRoute}
use Rattle.route_model.specs.Keys.{key_number, session_number}
use Rattle.route_model.proofs.Fields.{some_is}
use Rattle.route_model.proofs.Decoding.{route_encoded}
use Rattle.route_meaning.specs.Merged.{Placed, IsRising}
use Rattle.route_meaning.specs.Holds.{time_of, same_peer, same_prefix, until, changes_of, Holds}
use Rattle.route_meaning.specs.inner.Replay.{after_change, route_after}
use Rattle.route_meaning.proofs.Holding.{Holds-after, after-Holds}
use Rattle.route_meaning.proofs.api.There.{rows_there}
use Rattle.version_model.specs.Versions.{Version, Found, found_version, Answers}
use Rattle.route_history.specs.Stamps.{stamp_of, last_stamp}
use Rattle.route_history.specs.Kept.{Timed, at_time, timed, key_of, HasValue, IsVersion, AreVersions, HaveVersions}
use Rattle.route_history.specs.Walks.{counts, stamp_of_found, Reports}
use Rattle.route_history.proofs.KeysApart.{prefix-prefix, session-session, session-prefix, prefix-session}
use Rattle.route_history.proofs.Latest.{RisesFrom, stamp-leb, times_timed, rises_from, counts_at, latest, as_of_latest, latest_as_of}

-- one encoding is of one route
pub routes_one : (r s : Route) (octets : List ℕ) → EncodesRoute r octets → EncodesRoute s octets → r ≡ s
routes_one r s octets ir is = some_is r s (sym (route_encoded r octets ir) ∙ route_encoded s octets is)

-- ---- two walks and the changes

-- the value of the first, unless the second has a later stamp
abbrev pub decided : Option Version → Option Version → Option (List ℕ)
decided None ended = None
decided (Some v) None = v.value
decided (Some v) (Some d) = cond (ltb d.stamp v.stamp) v.value None

abbrev IsOlder : ℕ → Option Version → Type 0
IsOlder m None = Unit {0}
IsOlder m (Some v) = v.stamp < m

older_more : (m n : ℕ) (o : Option Version) → m ≤ n → IsOlder m o → IsOlder n o
older_more m n None le h = tt
older_more m n (Some v) le h = omega arith

-- the value encodes the route, or there is neither
abbrev Says : Option Route → Option (List ℕ) → Type 0
Says None None = Unit {0}
Says None (Some octets) = ⊥
Says (Some route) None = ⊥
Says (Some route) (Some octets) = EncodesRoute route octets

-- a version that is later than both decides
decided_new : (v : Version) (d : Option Version) → IsOlder v.stamp d → decided (Some v) d ≡ v.value
decided_new v None h = refl
decided_new v (Some d) h = rw (lt-ltb d.stamp v.stamp h) refl

decided_end : (v : Option Version) (d : Version) → IsOlder d.stamp v → decided v (Some d) ≡ None
decided_end None d h = refl
decided_end (Some v) d h = rw (le-ltb d.stamp v.stamp (let lt : v.stamp < d.stamp = h in omega arith)) refl

module _ (peer : Peer) (prefix : IpPrefix) (moment : ℕ) (hp : IsPeer peer) (hx : IsPrefix prefix) where
  abbrev route_walk : Option Version → List Version → Option Version
  route_walk found vs = latest (key_number peer prefix) (last_stamp moment) found vs

  abbrev session_walk : Option Version → List Version → Option Version
  session_walk found vs = latest (session_number peer) (last_stamp moment) found vs

  abbrev taken_in : ℕ → Version → Option Version → Option Version
  taken_in key v found = cond (counts_at key (last_stamp moment) v) (Some v) found

  -- one change and its version
  one : (n : ℕ) (x : Timed) (v : Version) (r : Option Route) (a b : Option Version) → IsVersion n x v → IsOlder v.stamp a → IsOlder v.stamp b → Says r (decided a b) → Says (cond (leb x.time moment) (after_change peer prefix r x.change) r) (decided (taken_in (key_number peer prefix) v a) (taken_in (session_number peer) v b))
  one n x v r a b is older_a older_b e = elim (cases_Bool (leb x.time moment)) [
    | inl early ↦ rw early (by_change x.change is.is_change is.key is.value (in_time ∙ early))
    | inr late ↦ rw late (
        let out : leb v.stamp (last_stamp moment) ≡ false = in_time ∙ late in
        rw (missed (key_number peer prefix) out, missed (session_number peer) out) e)
  ]
    where
      in_time : leb v.stamp (last_stamp moment) ≡ leb x.time moment
      in_time = ap (λ s. leb s (last_stamp moment)) is.stamp ∙ stamp-leb x.time n moment is.few

      and_false : (b : Bool) → (b && false) ≡ false
      and_false true = refl
      and_false false = refl

      and_true : (b : Bool) → (b && true) ≡ b
      and_true true = refl
      and_true false = refl

      missed : (key : ℕ) → leb v.stamp (last_stamp moment) ≡ false → counts_at key (last_stamp moment) v ≡ false
      missed key out = ap (λ c. eqb v.key key && c) out ∙ and_false (eqb v.key key)

      hits : (key : ℕ) → leb v.stamp (last_stamp moment) ≡ true → counts_at key (last_stamp moment) v ≡ eqb v.key key
      hits key inside = ap (λ c. eqb v.key key && c) inside ∙ and_true (eqb v.key key)

      at_prefix : (p : Peer) (y : IpPrefix) → IsPeer p → IsPrefix y → v.key ≡ key_number p y → leb v.stamp (last_stamp moment) ≡ true → counts_at (key_number peer prefix) (last_stamp moment) v ≡ (same_peer p peer && same_prefix y prefix)
      at_prefix p y ip iy key inside = hits (key_number peer prefix) inside ∙ (ap (λ k. eqb k (key_number peer prefix)) key ∙ prefix-prefix p peer y prefix ip hp iy hx)

      off_session : (p : Peer) (y : IpPrefix) → IsPeer p → IsPrefix y → v.key ≡ key_number p y → leb v.stamp (last_stamp moment) ≡ true → counts_at (session_number peer) (last_stamp moment) v ≡ false
      off_session p y ip iy key inside = hits (session_number peer) inside ∙ (ap (λ k. eqb k (session_number peer)) key ∙ prefix-session p peer y ip hp iy)

      by_change : (change : Change) → IsChange change → v.key ≡ key_of change → HasValue change v.value → leb v.stamp (last_stamp moment) ≡ true → Says (after_change peer prefix r change) (decided (taken_in (key_number peer prefix) v a) (taken_in (session_number peer) v b))
      by_change (Announce p y route) ok key value inside =
          let own = at_prefix p y ok.0 ok.1 key inside in
          let apart = off_session p y ok.0 ok.1 key inside in
          elim (cases_Bool (same_peer p peer && same_prefix y prefix)) [
            | inl hit ↦ rw (own, apart, hit) (subst (Says (Some route)) (sym (decided_new v b older_b ∙ value.1)) value.2)
            | inr miss ↦ rw (own, apart, miss) e
          ]
      by_change (Withdraw p y) ok key value inside =
          let own = at_prefix p y ok.0 ok.1 key inside in
          let apart = off_session p y ok.0 ok.1 key inside in
          elim (cases_Bool (same_peer p peer && same_prefix y prefix)) [
            | inl hit ↦ rw (own, apart, hit) (subst (Says None) (sym (decided_new v b older_b ∙ value)) tt)
            | inr miss ↦ rw (own, apart, miss) e
          ]
      by_change (Down p) ok key value inside =
          let apart : counts_at (key_number peer prefix) (last_stamp moment) v ≡ false = hits (key_number peer prefix) inside ∙ (ap (λ k. eqb k (key_number peer prefix)) key ∙ session-prefix p peer prefix ok hp hx) in
          let own : counts_at (session_number peer) (last_stamp moment) v ≡ same_peer p peer = hits (session_number peer) inside ∙ (ap (λ k. eqb k (session_number peer)) key ∙ session-session p peer ok hp) in
          elim (cases_Bool (same_peer p peer)) [
            | inl hit ↦ rw (own, apart, hit) (subst (Says None) (sym (decided_end a v older_a)) tt)
            | inr miss ↦ rw (own, apart, miss) e
          ]

  older_taken : (key m : ℕ) (v : Version) (o : Option Version) → m ≤ v.stamp → IsOlder m o → IsOlder (suc v.stamp) (taken_in key v o)
  older_taken key m v o le h = elim (cases_Bool (counts_at key (last_stamp moment) v)) [
    | inl hit ↦ rw hit (omega arith)
    | inr miss ↦ rw miss (older_more m (suc v.stamp) o (omega arith) h)
  ]

  -- the changes in time
  abbrev pub in_time_of : List Timed → List Change
  in_time_of xs = map (λ x. x.change) (filter (λ x. leb x.time moment) xs)

  pub walks_report : (n m : ℕ) (xs : List Timed) (vs : List Version) (r : Option Route) (a b : Option Version) → AreVersions n xs vs → RisesFrom m vs → IsOlder m a → IsOlder m b → Says r (decided a b) → Says (route_after peer prefix r (in_time_of xs)) (decided (route_walk a vs) (session_walk b vs))
  walks_report n m [] [] r a b k rises older_a older_b e = e
  walks_report n m [] (v ∷ vs) r a b k rises older_a older_b e = absurd k
  walks_report n m (x ∷ xs) [] r a b k rises older_a older_b e = absurd k
  walks_report n m (x ∷ xs) (v ∷ vs) r a b k rises older_a older_b e =
      let le : m ≤ v.stamp = rises.0 in
      subst (λ (o : Option Route). Says o (decided (route_walk a (v ∷ vs)) (session_walk b (v ∷ vs)))) (sym (step_on (leb x.time moment) refl))
      (walks_report (suc n) (suc v.stamp) xs vs (cond (leb x.time moment) (after_change peer prefix r x.change) r) (taken_in (key_number peer prefix) v a) (taken_in (session_number peer) v b) k.1 rises.1
      (older_taken (key_number peer prefix) m v a le older_a) (older_taken (session_number peer) m v b le older_b)
      (one n x v r a b k.0 (older_more m v.stamp a le older_a) (older_more m v.stamp b le older_b) e))
    where
      step_on : (early : Bool) → leb x.time moment ≡ early → route_after peer prefix r (in_time_of (x ∷ xs)) ≡ route_after peer prefix (cond (leb x.time moment) (after_change peer prefix r x.change) r) (in_time_of xs)
      step_on true e' = rw e' refl
      step_on false e' = rw e' refl

-- ---- the law

abbrev timely_changes : ℕ → List Timed → List Change
timely_changes moment xs = map (λ (x : Timed). x.change) (filter (λ x. leb x.time moment) xs)

timely_of : (moment time : ℕ) (changes : List Change) (xs : List Timed) → timely_changes moment (map (at_time time) changes ++ xs) ≡ cond (leb time moment) changes [] ++ timely_changes moment xs
timely_of moment time changes xs = elim (cases_Bool (leb time moment)) [
  | inl early ↦ rw early (all_early changes early)
  | inr late ↦ rw late (all_late changes late)
]
  where
    all_early : (cs : List Change) → leb time moment ≡ true → timely_changes moment (map (at_time time) cs ++ xs) ≡ cs ++ timely_changes moment xs
    all_early [] e = refl
    all_early (c ∷ cs) e = rw e (ap (λ l. c ∷ l) (all_early cs e))

    all_late : (cs : List Change) → leb time moment ≡ false → timely_changes moment (map (at_time time) cs ++ xs) ≡ timely_changes moment xs
    all_late [] e = refl
    all_late (c ∷ cs) e = rw e (all_late cs e)

timely_timed : (moment : ℕ) (ps : List (Placed Admitted)) → timely_changes moment (timed ps) ≡ changes_of (until moment ps)
timely_timed moment [] = refl
timely_timed moment (p ∷ ps) = timely_of moment (time_of p) p.item.changes (timed ps) ∙ elim (cases_Bool (leb (time_of p) moment)) [
  | inl early ↦ rw early (ap (λ l. p.item.changes ++ l) (timely_timed moment ps))
  | inr late ↦ rw late (timely_timed moment ps)
]

-- a version at a session's key has a value
session_value : (peer : Peer) → IsPeer peer → (n : ℕ) (xs : List Timed) (vs : List Version) (i : ℕ) (v : Version) → AreVersions n xs vs → slice_get vs i ≡ Some v → v.key ≡ session_number peer → IsSome v.value
session_value peer hp n [] [] i v k e key = absurd (none-some v e)
session_value peer hp n [] (w ∷ ws) i v k e key = absurd k
session_value peer hp n (x ∷ xs) [] i v k e key = absurd k
session_value peer hp n (x ∷ xs) (w ∷ ws) (suc i) v k e key = session_value peer hp (suc n) xs ws i v k.1 e key
session_value peer hp n (x ∷ xs) (w ∷ ws) zero v k e key =
    let same : w ≡ v = same_Some w v e in
    subst (λ (u : Version). IsSome u.value) same (by_change x.change k.0.is_change k.0.value (sym k.0.key ∙ (ap (λ (u : Version). u.key) same ∙ key)))
  where
    by_change : (change : Change) → IsChange change → HasValue change w.value → key_of change ≡ session_number peer → IsSome w.value
    by_change (Announce p y route) ok value at = absurd (false≢true (sym (prefix-session p peer y ok.0 hp ok.1) ∙ eq-eqb _ _ at))
    by_change (Withdraw p y) ok value at = absurd (false≢true (sym (prefix-session p peer y ok.0 hp ok.1) ∙ eq-eqb _ _ at))
    by_change (Down p) ok value at = value

no_value : (v : Version) → v.value ≡ None → IsSome v.value → ⊥
no_value v e some = false≢true (sym (ap is_some e) ∙ some)

decided_nothing : (a b : Option Version) → ((v : Version) → a ≡ Some v → v.value ≡ None) → decided a b ≡ None
decided_nothing None b f = refl
decided_nothing (Some v) None f = f v refl
decided_nothing (Some v) (Some d) f = ap (λ x. cond (ltb d.stamp v.stamp) x None) (f v refl) ∙ either (ltb d.stamp v.stamp)
  where
    either : (c : Bool) → cond {A = Option (List ℕ)} c None None ≡ None
    either true = refl
    either false = refl

nothing_walked : (b : Option Version) → ((v : Version) → b ≡ Some v → ⊥) → b ≡ None
nothing_walked None f = refl
nothing_walked (Some v) f = absurd (f v refl)

pub zeros : (qs : List (Placed Admitted)) → AllByRecursion (λ q. 0 ≤ time_of q) qs
zeros [] = tt
zeros (q ∷ qs) = (omega arith, zeros qs)

pub kept_rises : (ps : List (Placed Admitted)) (versions : List Version) → IsRising time_of ps → HaveVersions ps versions → RisesFrom (stamp_of 0 0) versions
kept_rises ps versions timely kept = rises_from 0 0 (timed ps) versions (times_timed 0 ps (zeros ps) timely) kept

module _ (ps : List (Placed Admitted)) (versions : List Version) (moment : ℕ) (peer : Peer) (prefix : IpPrefix) (timely : IsRising time_of ps) (kept : HaveVersions ps versions) (hp : IsPeer peer) (hx : IsPrefix prefix) where
  rises : RisesFrom (stamp_of 0 0) versions
  rises = kept_rises ps versions timely kept

  abbrev A : Option Version
  A = latest (key_number peer prefix) (last_stamp moment) None versions

  abbrev B : Option Version
  B = latest (session_number peer) (last_stamp moment) None versions

  abbrev R : Option Route
  R = route_after peer prefix None (changes_of (until moment ps))

  reported : Says R (decided A B)
  reported = subst (λ (l : List Change). Says (route_after peer prefix None l) (decided A B)) (timely_timed moment ps) (walks_report peer prefix moment hp hx 0 (stamp_of 0 0) (timed ps) versions None None None kept rises tt tt tt)

  walk_none : (key : ℕ) → Answers versions key (last_stamp moment) None → (v : Version) → latest key (last_stamp moment) None versions ≡ Some v → v.value ≡ None
  walk_none key a v e = a v (latest_as_of key (last_stamp moment) (stamp_of 0 0) v versions rises e)

  walk_some : (key : ℕ) (found : Found) → Answers versions key (last_stamp moment) (Some found) → latest key (last_stamp moment) None versions ≡ Some (found_version key found)
  walk_some key found a = as_of_latest key (last_stamp moment) (stamp_of 0 0) None (found_version key found) versions rises a

  session_none : Answers versions (session_number peer) (last_stamp moment) None → B ≡ None
  session_none a = nothing_walked B (λ v e. (
      let holds = latest_as_of (session_number peer) (last_stamp moment) (stamp_of 0 0) v versions rises e in
      no_value v (a v holds) (session_value peer hp 0 (timed ps) versions holds.has.place v kept holds.has.is holds.of_key)))

  -- the value found, where it counts
  judges : (found : Found) (ended : Option Found) → Answers versions (key_number peer prefix) (last_stamp moment) (Some found) → Answers versions (session_number peer) (last_stamp moment) ended → decided A B ≡ cond (counts (stamp_of_found ended) found.stamp) (Some found.value) None
  judges f None a b = rw (walk_some (key_number peer prefix) f a, session_none b) refl
  judges f (Some d) a b = rw (walk_some (key_number peer prefix) f a, walk_some (session_number peer) d b) refl

  says_route : (o : Option Route) (route : Route) (octets : List ℕ) → Says o (Some octets) → EncodesRoute route octets → o ≡ Some route
  says_route None route octets s encodes = absurd s
  says_route (Some r) route octets s encodes = ap Some (routes_one r route octets s encodes)

  by_counting : (c : Bool) (found : Found) (route : Route) → Says (Some route) (cond c (Some found.value) None) → (c ≡ true) × EncodesRoute route found.value
  by_counting true found route s = (refl, s)
  by_counting false found route s = absurd s

  pub reports : (found : Found) (ended : Option Found) (route : Route) → Answers versions (key_number peer prefix) (last_stamp moment) (Some found) → Answers versions (session_number peer) (last_stamp moment) ended → Holds ps moment peer prefix route ↔ ((counts (stamp_of_found ended) found.stamp ≡ true) × EncodesRoute route found.value)
  reports found ended route a b = (
    λ h. by_counting (counts (stamp_of_found ended) found.stamp) found route
        (subst (Says (Some route)) (judges found ended a b) (subst (λ (o : Option Route). Says o (decided A B)) (Holds-after ps moment peer prefix route h) reported)),
    λ e. (
        let is : decided A B ≡ Some found.value = judges found ended a b ∙ ap (λ (c : Bool). cond {A = Option (List ℕ)} c (Some found.value) None) e.0 in
        after-Holds ps moment peer prefix route (says_route R route found.value (subst (Says R) is reported) e.1)),
  )

  -- a route that holds has a value at its key
  pub holds_has_value : (route : Route) → Holds ps moment peer prefix route → Answers versions (key_number peer prefix) (last_stamp moment) None → ⊥
  holds_has_value route h a =
      let nothing : decided A B ≡ None = decided_nothing A B (walk_none (key_number peer prefix) a) in
      subst (Says (Some route)) nothing (subst (λ (o : Option Route). Says o (decided A B)) (Holds-after ps moment peer prefix route h) reported)

-- ---- what is applied fits its keys

changes_fit : (n : ℕ) (xs : List Timed) (vs : List Version) → AreVersions n xs vs → AllByRecursion (λ (x : Timed). IsChange x.change) xs
changes_fit n [] [] k = tt
changes_fit n [] (v ∷ vs) k = absurd k
changes_fit n (x ∷ xs) [] k = absurd k
changes_fit n (x ∷ xs) (v ∷ vs) k = (k.0.is_change, changes_fit (suc n) xs vs k.1)

untimed : (time : ℕ) (cs : List Change) (xs : List Timed) → AllByRecursion (λ (x : Timed). IsChange x.change) (map (at_time time) cs ++ xs) → AllByRecursion IsChange cs × AllByRecursion (λ (x : Timed). IsChange x.change) xs
untimed time [] xs a = (tt, a)
untimed time (c ∷ cs) xs a = let r = untimed time cs xs a.1 in ((a.0, r.0), r.1)

by_admission : (ps : List (Placed Admitted)) → AllByRecursion (λ (x : Timed). IsChange x.change) (timed ps) → AllByRecursion (λ p. AllByRecursion IsChange p.item.changes) ps
by_admission [] a = tt
by_admission (p ∷ ps) a = let r = untimed (time_of p) p.item.changes (timed ps) a in (r.0, by_admission ps r.1)

pub kept_valid : (ps : List (Placed Admitted)) (versions : List Version) → HaveVersions ps versions → AllByRecursion (λ p. AllByRecursion IsChange p.item.changes) ps
kept_valid ps versions kept = by_admission ps (changes_fit 0 (timed ps) versions kept)

in_time_fit : (moment : ℕ) (xs : List Timed) → AllByRecursion (λ (x : Timed). IsChange x.change) xs → AllByRecursion IsChange (timely_changes moment xs)
in_time_fit moment [] a = tt
in_time_fit moment (x ∷ xs) a = elim (cases_Bool (leb x.time moment)) [
  | inl early ↦ rw early (a.0, in_time_fit moment xs a.1)
  | inr late ↦ rw late (in_time_fit moment xs a.1)
]

all_middle : (before after : List Change) (c : Change) → AllByRecursion IsChange (before ++ c ∷ after) → IsChange c
all_middle [] after c a = a.0
all_middle (b ∷ bs) after c a = all_middle bs after c a.1

pub holds_fits : (ps : List (Placed Admitted)) (versions : List Version) (moment : ℕ) (peer : Peer) (prefix : IpPrefix) (route : Route) → HaveVersions ps versions → Holds ps moment peer prefix route → IsPeer peer × IsPrefix prefix
holds_fits ps versions moment peer prefix route kept h =
    let is : IsChange (Announce peer prefix route) = all_middle h.before h.after (Announce peer prefix route) (subst (AllByRecursion IsChange) (timely_timed moment ps ∙ h.announced) (in_time_fit moment (timed ps) (changes_fit 0 (timed ps) versions kept))) in
    (is.0, is.1)

-- what follows of each moment
pub kept_reports : (ps : List (Placed Admitted)) (versions : List Version) (moment : ℕ) → IsRising time_of ps → HaveVersions ps versions → Reports versions ps moment
kept_reports ps versions moment timely kept = record {
  fits = λ p x route h. holds_fits ps versions moment p x route kept h;
  listed = λ select low. rows_there ps moment select low None (kept_valid ps versions kept);
  has_value = λ p x route h a. (let fits = holds_fits ps versions moment p x route kept h in holds_has_value ps versions moment p x timely kept fits.0 fits.1 route h a);
  law = λ p x found ended route hp hx a b. reports ps versions moment p x timely kept hp hx found ended route a b;
}
