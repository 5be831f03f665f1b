-- A spot changed exactly if it is asked for and one of the changes of the span is of it.
use Rattle.std.proofs.Common.{◌≡◌, inl, inr, List, [], ◌∷◌, true, Some, sym, ap, ◌∙◌, subst, Contains}
use Rattle.std.specs.List.{filter}
use Rattle.std.proofs.lemmas.List.Elements.{filter_map-append}
use Rattle.std.proofs.lemmas.Option.{same_Some, none-some}
use Rattle.route_model.specs.declared.change.Change.{Change}
use Rattle.route_model.specs.declared.change.Change.TheVariants.{Announce, Withdraw, Down}
use Rattle.route_model.specs.Admission.{Admitted}
use Rattle.route_meaning.specs.declared.question.ChangedQuestion.{ChangedQuestion}
use Rattle.route_meaning.specs.declared.question.Event.{Event}
use Rattle.route_meaning.specs.declared.question.Spot.{Spot}
use Rattle.route_meaning.specs.Changed.{IsChanged, IsOfPrefix}
use Rattle.route_meaning.specs.Events.{all_events, between, events_in}
use Rattle.route_meaning.specs.Holds.{changes_of, concerns, same_peer, same_prefix, time_of}
use Rattle.route_meaning.specs.Merged.{Placed}
use Rattle.changed_prefixes.specs.inner.Gathered.{IsAskedFor, spot_of, spots_of}
use Rattle.changed_prefixes.proofs.Equal.{both, all_true, same_peer-true, same_prefix-true, same_peer-itself, same_prefix-itself}
use Rattle.changed_prefixes.proofs.Members.{IsIn, is_in, contains, in_front, in_rest, in_either, in_filter, filter_in, in_map, map_in, in_filter_map, filter_map_in}

-- ---- of one change

-- a change that concerns the spot and is of a prefix is of the spot
spot_there : (s : Spot) (change : Change) → concerns s.peer s.prefix change ≡ true → IsOfPrefix change → spot_of change ≡ Some s
spot_there s (Announce p x route) e is = let h = both _ _ e in λ i. Some (record { peer = same_peer-true p s.peer h.0 i; prefix = same_prefix-true x s.prefix h.1 i })
spot_there s (Withdraw p x) e is = let h = both _ _ e in λ i. Some (record { peer = same_peer-true p s.peer h.0 i; prefix = same_prefix-true x s.prefix h.1 i })
spot_there s (Down p) e is = absurd is

own : (s t : Spot) → t ≡ s → (same_peer t.peer s.peer ≡ true) × (same_prefix t.prefix s.prefix ≡ true)
own s t e = (
  ap (λ (u : Spot). same_peer u.peer s.peer) e ∙ same_peer-itself s.peer,
  ap (λ (u : Spot). same_prefix u.prefix s.prefix) e ∙ same_prefix-itself s.prefix,
)

-- and the other way round
concerns_there : (s : Spot) (change : Change) → spot_of change ≡ Some s → (concerns s.peer s.prefix change ≡ true) × IsOfPrefix change
concerns_there s (Announce p x route) e = let h = own s (record { peer = p; prefix = x }) (same_Some _ _ e) in (all_true _ _ h.0 h.1, tt)
concerns_there s (Withdraw p x) e = let h = own s (record { peer = p; prefix = x }) (same_Some _ _ e) in (all_true _ _ h.0 h.1, tt)
concerns_there s (Down p) e = absurd (none-some s e)

-- ---- of the changes of admissions

abbrev event_of : Placed Admitted → Change → Event
event_of p change = record { time = time_of p; change = change }

spot_in : (s : Spot) (p : Placed Admitted) (event : Event) → IsIn event (events_in s.peer s.prefix p) → IsOfPrefix event.change → IsIn s (spots_of p.item.changes)
spot_in s p event h is =
    let m = in_map (event_of p) event (filter (concerns s.peer s.prefix) p.item.changes) h in
    let f = in_filter (concerns s.peer s.prefix) m.0 p.item.changes m.1 in
    filter_map_in spot_of m.0 s p.item.changes f.0 (spot_there s m.0 f.1 (subst (λ (e : Event). IsOfPrefix e.change) (sym m.2) is))

-- an event of a list that is of a prefix of a peer
record Reports (s : Spot) (events : List Event) : Type 0 where
  event : Event
  member : IsIn event events
  of_prefix : IsOfPrefix event.change

event_in : (s : Spot) (p : Placed Admitted) → IsIn s (spots_of p.item.changes) → Reports s (events_in s.peer s.prefix p)
event_in s p h =
    let m = in_filter_map spot_of s p.item.changes h in
    let c = concerns_there s m.0 m.2 in
    record {
      event = event_of p m.0;
      member = map_in (event_of p) m.0 (filter (concerns s.peer s.prefix) p.item.changes) (filter_in (concerns s.peer s.prefix) m.0 p.item.changes m.1 c.0);
      of_prefix = c.1;
    }

spot_among : (s : Spot) (ps : List (Placed Admitted)) (event : Event) → IsIn event (all_events s.peer s.prefix ps) → IsOfPrefix event.change → IsIn s (spots_of (changes_of ps))
spot_among s [] event h is = absurd h
spot_among s (p ∷ ps) event h is =
    subst (IsIn s) (sym (filter_map-append spot_of p.item.changes (changes_of ps)))
    (elim (in_either event (events_in s.peer s.prefix p) (all_events s.peer s.prefix ps) h) [
      | inl here ↦ in_front s (spots_of p.item.changes) (spots_of (changes_of ps)) (spot_in s p event here is)
      | inr later ↦ in_rest s (spots_of p.item.changes) (spots_of (changes_of ps)) (spot_among s ps event later is)
    ])

event_among : (s : Spot) (ps : List (Placed Admitted)) → IsIn s (spots_of (changes_of ps)) → Reports s (all_events s.peer s.prefix ps)
event_among s [] h = absurd h
event_among s (p ∷ ps) h =
    elim (in_either s (spots_of p.item.changes) (spots_of (changes_of ps)) (subst (IsIn s) (filter_map-append spot_of p.item.changes (changes_of ps)) h)) [
      | inl here ↦ let r = event_in s p here in record { event = r.event; member = in_front r.event (events_in s.peer s.prefix p) (all_events s.peer s.prefix ps) r.member; of_prefix = r.of_prefix }
      | inr later ↦ let r = event_among s ps later in record { event = r.event; member = in_rest r.event (events_in s.peer s.prefix p) (all_events s.peer s.prefix ps) r.member; of_prefix = r.of_prefix }
    ]

module _ (ps : List (Placed Admitted)) (q : ChangedQuestion) (s : Spot) where
  pub asked_for : IsChanged ps q s → IsAskedFor q s
  asked_for h = record { low = h.low; high = h.high; above = h.above }

  pub of_spot : IsChanged ps q s → Contains (spots_of (changes_of (between q.from q.to ps))) s
  of_spot h = contains s _ (spot_among s (between q.from q.to ps) h.event (is_in h.event _ h.reported) h.of_prefix)

  pub changed : IsAskedFor q s → Contains (spots_of (changes_of (between q.from q.to ps))) s → IsChanged ps q s
  changed asked h =
      let r = event_among s (between q.from q.to ps) (is_in s _ h) in
      record {
        event = r.event;
        reported = contains r.event _ r.member;
        of_prefix = r.of_prefix;
        low = asked.low;
        high = asked.high;
        above = asked.above;
      }
