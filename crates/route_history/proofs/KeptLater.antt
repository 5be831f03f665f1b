-- The versions of a later history are those of an earlier one, but for the values of sessions' ends, and later ones.
use Rattle.std.proofs.Common.{◌≡◌, ℕ, zero, suc, inl, inr, ◌+◌, ◌*◌, ◌-◌, ◌^◌, ◌<◌, ◌≤◌, ◌&&◌, List, [], ◌∷◌, ◌++◌, Bool, true, false, leb, ltb, eqb, length, drop, map, Some, None, Option, refl, sym, ap, ◌∙◌, subst, arith}
use Rattle.std.specs.Prelude.{◌||◌, IsSome}
use Rattle.std.specs.List.{AllByRecursion, AllZip, filter}
use Rattle.std.proofs.Math.Nat.{mul-le-mul_left}
use Rattle.std.proofs.lemmas.Bool.{cases_Bool, false≢true, eq-eqb}
use Rattle.std.proofs.lemmas.Option.{none-some}
use Rattle.route_model.specs.declared.peer.Peer.{Peer}
use Rattle.route_model.specs.declared.change.Change.{Change}
use Rattle.route_model.specs.declared.change.Change.TheVariants.{Announce, Withdraw, Down}
use Rattle.route_model.specs.Admission.{Admitted, IsChange}
use Rattle.route_model.specs.Prefix.{IpPrefix, IsPrefix}
use Rattle.route_model.specs.Encoding.{IsPeer}
use Rattle.route_model.specs.Keys.{key_number, session_number}
use Rattle.route_meaning.specs.declared.question.Event.{Event}
use Rattle.route_meaning.specs.declared.question.EventsQuestion.{EventsQuestion}
use Rattle.route_meaning.specs.Holds.{time_of}
use Rattle.route_meaning.specs.Merged.{Placed}
use Rattle.route_meaning.specs.Events.{all_events}
use Rattle.route_meaning.specs.History.{History, IsHistory, Begins, applied, settled}
use Rattle.route_meaning.proofs.api.Settling.{Holds-until}
use Rattle.version_model.specs.Versions.{Version}
use Rattle.route_history.specs.Stamps.{orders, stamp_of, last_stamp}
use Rattle.route_history.specs.Kept.{Timed, timed, key_of, HasValue, IsVersion, AreVersions, HaveVersions}
use Rattle.route_history.specs.Walks.{Gathered, IsSameVersion}
use Rattle.route_history.specs.Spans.{is_of_two, span_start, asked, IsChangeOf, IsEventOf, HasReported, HasReportedSo}
use Rattle.route_history.specs.declared.rows.RowsCursor.{RowsCursor}
use Rattle.route_history.specs.declared.events.EventsCursor.{EventsCursor}
use Rattle.route_history.proofs.KeysApart.{prefix-session}
use Rattle.route_history.proofs.SameStamps.{gathered_alike}
use Rattle.route_history.proofs.Starting.{gathered_goes_on}
use Rattle.route_history.proofs.GoingOn.{reported_goes_on}
use Rattle.route_history.proofs.AppliedLater.{timed_grows, until-applied, later_times}

-- ---- the versions of some changes and of later ones

pub record IsSplit (n : ℕ) (ts us : List Timed) (vs : List Version) : Type 0 where
  pub first : List Version
  pub rest : List Version
  pub m : ℕ
  pub is : vs ≡ first ++ rest
  pub firsts : AreVersions n ts first
  pub rests : AreVersions m us rest

split : (n : ℕ) (ts us : List Timed) (vs : List Version) → AreVersions n (ts ++ us) vs → IsSplit n ts us vs
split n [] us vs k = record { first = []; rest = vs; m = n; is = refl; firsts = tt; rests = k }
split n (t ∷ ts) us [] k = absurd k
split n (t ∷ ts) us (v ∷ vs) k =
    let s = split (suc n) ts us vs k.1 in
    record { first = v ∷ s.first; rest = s.rest; m = s.m; is = ap (λ l. v ∷ l) s.is; firsts = (k.0, s.firsts); rests = s.rests }

late_stamps : (moment n : ℕ) (ts : List Timed) (vs : List Version) → AllByRecursion (λ t. moment < t.time) ts → AreVersions n ts vs → AllByRecursion (λ v. last_stamp moment < v.stamp) vs
late_stamps moment n [] [] a k = tt
late_stamps moment n [] (v ∷ vs) a k = absurd k
late_stamps moment n (t ∷ ts) [] a k = absurd k
late_stamps moment n (t ∷ ts) (v ∷ vs) a k =
    let lt : moment < t.time = a.0 in
    let h : orders * suc moment ≤ orders * t.time = mul-le-mul_left orders (let g : suc moment ≤ t.time = omega (arith, lt) in g) in
    let is : v.stamp ≡ stamp_of t.time n = k.0.stamp in
    (omega (arith, h, is), late_stamps moment (suc n) ts vs a.1 k.1)

-- ---- two lists of versions of the same changes

-- versions of one change
pub record AreTwins (v w : Version) : Type 0 where
  pub n : ℕ
  pub t : Timed
  pub one : IsVersion n t v
  pub other : IsVersion n t w

twins : (n : ℕ) (ts : List Timed) (vs ws : List Version) → AreVersions n ts vs → AreVersions n ts ws → AllZip AreTwins vs ws
twins n [] [] [] j k = tt
twins n [] [] (w ∷ ws) j k = absurd k
twins n [] (v ∷ vs) ws j k = absurd j
twins n (t ∷ ts) [] ws j k = absurd j
twins n (t ∷ ts) (v ∷ vs) [] j k = absurd k
twins n (t ∷ ts) (v ∷ vs) (w ∷ ws) j k = (record { n = n; t = t; one = j.0; other = k.0 }, twins (suc n) ts vs ws j.1 k.1)

no_end : (value : Option (List ℕ)) → IsSome value → value ≡ None → ⊥
no_end None h e = absurd (false≢true h)
no_end (Some octets) h e = none-some octets (sym e)

same_ends : (c : Change) (v w : Option (List ℕ)) → HasValue c v → HasValue c w → v ≡ None → w ≡ None
same_ends (Announce p x r) v w hv hw e = absurd (none-some hv.0 (sym e ∙ hv.1))
same_ends (Withdraw p x) v w hv hw e = hw
same_ends (Down p) v w hv hw e = absurd (no_end v hv e)

same_version : (v w : Version) → AreTwins v w → IsSameVersion v w
same_version v w a = record {
  key = a.one.key ∙ sym a.other.key;
  stamp = a.one.stamp ∙ sym a.other.stamp;
  ends = (same_ends a.t.change v.value w.value a.one.value a.other.value, same_ends a.t.change w.value v.value a.other.value a.one.value);
}

all_same : (vs ws : List Version) → AllZip AreTwins vs ws → AllZip IsSameVersion vs ws
all_same [] [] a = tt
all_same [] (w ∷ ws) a = absurd a
all_same (v ∷ vs) [] a = absurd a
all_same (v ∷ vs) (w ∷ ws) a = (same_version v w a.0, all_same vs ws a.1)

-- ---- their events

module _ (p : Peer) (x : IpPrefix) (hp : IsPeer p) (hx : IsPrefix x) where
  no_down : (q : Peer) → IsPeer q → key_number p x ≡ session_number q → ⊥
  no_down q hq e = false≢true (sym (prefix-session p q x hp hq hx) ∙ eq-eqb _ _ e)

  same_value : (c : Change) (v w : Option (List ℕ)) → IsChange c → key_of c ≡ key_number p x → HasValue c v → HasValue c w → w ≡ v
  same_value (Announce q y r) v w is k hv hw = hw.1 ∙ (ap (λ (o : List ℕ). Some o) (hw.2.encoded ∙ sym hv.2.encoded) ∙ sym hv.1)
  same_value (Withdraw q y) v w is k hv hw = hw ∙ sym hv
  same_value (Down q) v w is k hv hw = absurd (no_down q is (sym k))

  change_of : (c : Change) (v w : Version) → AreTwins v w → IsChangeOf p x v c → IsChangeOf p x w c
  change_of (Announce q y r) v w a h =
      let e : w.value ≡ v.value = same_value a.t.change v.value w.value a.one.is_change (sym a.one.key ∙ h.2) a.one.value a.other.value in
      (h.0, h.1, a.other.key ∙ (sym a.one.key ∙ h.2), (h.3.0, e ∙ h.3.1, h.3.2))
  change_of (Withdraw q y) v w a h =
      let e : w.value ≡ v.value = same_value a.t.change v.value w.value a.one.is_change (sym a.one.key ∙ h.2) a.one.value a.other.value in
      (h.0, h.1, a.other.key ∙ (sym a.one.key ∙ h.2), e ∙ h.3)
  change_of (Down q) v w a h = (h.0, a.other.key ∙ (sym a.one.key ∙ h.1))

  event_of : (e : Event) (v w : Version) → AreTwins v w → IsEventOf p x v e → IsEventOf p x w e
  event_of e v w a h = record { time = h.time ∙ ap (λ (n : ℕ). Rattle.std.proofs.Common.◌/◌ n (2 ^ 64)) (a.one.stamp ∙ sym a.other.stamp); change = change_of e.change v w a h.change }

  events_of : (vs ws : List Version) (reported : List Event) → AllZip AreTwins vs ws → AllZip (IsEventOf p x) vs reported → AllZip (IsEventOf p x) ws reported
  events_of [] [] reported a h = h
  events_of [] (w ∷ ws) reported a h = absurd a
  events_of (v ∷ vs) [] reported a h = absurd a
  events_of (v ∷ vs) (w ∷ ws) [] a h = absurd h
  events_of (v ∷ vs) (w ∷ ws) (e ∷ es) a h = (event_of e v w a.0 h.0, events_of vs ws es a.1 h.1)

filter_twins : (k l from to : ℕ) (vs ws : List Version) → AllZip AreTwins vs ws → AllZip AreTwins (filter (is_of_two k l from to) vs) (filter (is_of_two k l from to) ws)
filter_twins k l from to [] [] a = tt
filter_twins k l from to [] (w ∷ ws) a = absurd a
filter_twins k l from to (v ∷ vs) [] a = absurd a
filter_twins k l from to (v ∷ vs) (w ∷ ws) a =
    let key : w.key ≡ v.key = a.0.other.key ∙ sym a.0.one.key in
    let stamp : w.stamp ≡ v.stamp = a.0.other.stamp ∙ sym a.0.one.stamp in
    let same : is_of_two k l from to w ≡ is_of_two k l from to v = λ i. (eqb (key i) k || eqb (key i) l) && (leb from (stamp i) && ltb (stamp i) to) in
    elim (cases_Bool (is_of_two k l from to v)) [
      | inl e ↦ rw (e, same ∙ e) (a.0, filter_twins k l from to vs ws a.1)
      | inr e ↦ rw (e, same ∙ e) (filter_twins k l from to vs ws a.1)
    ]

drop_twins : (n : ℕ) (vs ws : List Version) → AllZip AreTwins vs ws → AllZip AreTwins (drop n vs) (drop n ws)
drop_twins zero vs ws a = a
drop_twins (suc n) [] [] a = tt
drop_twins (suc n) [] (w ∷ ws) a = absurd a
drop_twins (suc n) (v ∷ vs) [] a = absurd a
drop_twins (suc n) (v ∷ vs) (w ∷ ws) a = drop_twins n vs ws a.1

length_twins : (vs ws : List Version) → AllZip AreTwins vs ws → length vs ≡ length ws
length_twins [] [] a = refl
length_twins [] (w ∷ ws) a = absurd a
length_twins (v ∷ vs) [] a = absurd a
length_twins (v ∷ vs) (w ∷ ws) a = ap suc (length_twins vs ws a.1)

reported_alike : (vs ws : List Version) (ps : List (Placed Admitted)) (q : EventsQuestion) (at : Option ℕ) (left : ℕ) (reported : List Event) (more : Bool) → IsPeer q.peer → IsPrefix q.prefix → AllZip AreTwins vs ws → HasReported vs ps q at left reported more → HasReported ws ps q at left reported more
reported_alike vs ws ps q None left reported more hp hx a h = h
reported_alike vs ws ps q (Some at) left reported more hp hx a h =
    let k = key_number q.peer q.prefix in
    let l = session_number q.peer in
    let of_both = filter_twins k l (span_start q) at vs ws a in
    record {
      low = h.low;
      high = h.high;
      are = events_of q.peer q.prefix hp hx (drop q.skip (asked vs q at)) (drop q.skip (asked ws q at)) reported (drop_twins q.skip (asked vs q at) (asked ws q at) of_both) h.are;
      left_is = h.left_is ∙ ap (λ (n : ℕ). q.skip - n) (length_twins (asked vs q at) (asked ws q at) of_both);
      few = h.few;
      alone = h.alone;
    }

-- ---- from one history to a later one

pub rows_go_on : (h g : History) (all new : List Version) (c : RowsCursor) → IsHistory h → IsHistory g → Begins h g → c.question.moment < settled h → HaveVersions (applied h) all → HaveVersions (applied g) new → Gathered all (applied h) c → Gathered new (applied g) c
rows_go_on h g all new c is on b lt kept later gathered =
    let moment = c.question.moment in
    let s = timed_grows h g is b in
    let parts = split 0 (timed (applied h)) s.more new (subst (λ (ts : List Timed). AreVersions 0 ts new) s.is later) in
    let same = until-applied h g moment is on b lt in
    let alike = gathered_alike all parts.first (applied h) c (all_same all parts.first (twins 0 (timed (applied h)) all parts.first kept parts.firsts)) gathered in
    gathered_goes_on parts.first new (applied h) (applied g) c (record {
      more = parts.rest;
      added = parts.is;
      later = late_stamps moment parts.m s.more parts.rest (later_times h g moment is on b lt s) parts.rests;
      holds = λ p x route. (Holds-until (applied h) (applied g) moment p x route same, Holds-until (applied g) (applied h) moment p x route (sym same));
    }) alike

pub events_go_on : (h g : History) (all new : List Version) (c : EventsCursor) → IsHistory h → IsHistory g → Begins h g → c.question.to < settled h → IsPeer c.question.peer → IsPrefix c.question.prefix → HaveVersions (applied h) all → HaveVersions (applied g) new → HasReportedSo all (applied h) c → HasReportedSo new (applied g) c
events_go_on h g all new c is on b lt hp hx kept later reported =
    let q = c.question in
    let s = timed_grows h g is b in
    let parts = split 0 (timed (applied h)) s.more new (subst (λ (ts : List Timed). AreVersions 0 ts new) s.is later) in
    let same = until-applied h g q.to is on b lt in
    let alike = reported_alike all parts.first (applied h) q c.at c.left c.reported.items c.more hp hx (twins 0 (timed (applied h)) all parts.first kept parts.firsts) reported in
    reported_goes_on parts.first new (applied h) (applied g) c (record {
      more = parts.rest;
      added = parts.is;
      later = late_stamps q.to parts.m s.more parts.rest (later_times h g q.to is on b lt s) parts.rests;
      reported = ap (λ (l : List (Placed Admitted)). drop q.skip (all_events q.peer q.prefix (filter (λ p. leb q.from (time_of p)) l))) same;
    }) alike
