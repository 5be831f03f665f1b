-- The events of a history question: what a peer reported for a prefix, over admissions in one order.
use Rattle.std.specs.Prelude.{ℕ, List, [], ◌∷◌, ◌++◌, ◌≡◌, Bool, filter, map, take, drop, length, nat_lt, nat_le}
use Rattle.route_model.specs.declared.peer.Peer.{Peer}
use Rattle.route_model.specs.Prefix.{IpPrefix}
use Rattle.route_model.specs.Admission.{Admitted}
use Rattle.route_meaning.specs.declared.question.Event.{Event}
use Rattle.route_meaning.specs.declared.question.EventsQuestion.{EventsQuestion}
use Rattle.route_meaning.specs.Merged.{Placed}
use Rattle.route_meaning.specs.Holds.{time_of, until, concerns}
use Rattle.route_meaning.specs.Rows.{most_rows}

-- the changes of one admission that concern the prefix of the peer, each with its time
abbrev pub events_in : Peer → IpPrefix → Placed Admitted → List Event
events_in peer prefix p = map (λ change. record { time = time_of p; change = change }) (filter (concerns peer prefix) p.item.changes)

-- the same of a list of admissions, in their order
abbrev pub all_events : Peer → IpPrefix → List (Placed Admitted) → List Event
all_events peer prefix [] = []
all_events peer prefix (p ∷ ps) = events_in peer prefix p ++ all_events peer prefix ps

-- the admissions of the two moments and of all moments between them
abbrev pub between : ℕ → ℕ → List (Placed Admitted) → List (Placed Admitted)
between from to ps = filter (λ p. nat_le from (time_of p)) (until to ps)

-- every announcement and withdrawal of the prefix by the peer, and every end of all routes of the peer, in the span of the question and in the order of the history, without the first `skip`
abbrev pub events : List (Placed Admitted) → EventsQuestion → List Event
events ps q = drop q.skip (all_events q.peer q.prefix (between q.from q.to ps))

-- the answer: the first of these events, and whether more follow
pub record IsEventsAnswer (ps : List (Placed Admitted)) (q : EventsQuestion) (reported : List Event) (more : Bool) : Type 0 where
  pub first : reported ≡ take most_rows (events ps q)
  pub rest : more ≡ nat_lt most_rows (length (events ps q))
