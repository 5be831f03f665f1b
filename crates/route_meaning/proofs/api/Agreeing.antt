-- Two lists that have the same admissions up to a moment give every question at the moment the same answer.
use Rattle.std.proofs.Common.{◌≡◌, ◌↔◌, ℕ, ◌<◌, ◌≤◌, List, [], ◌∷◌, Bool, refl, sym, ap, ◌∙◌, subst, Some, None, Option}
use Rattle.std.specs.List.{AllByRecursion, filter}
use Rattle.route_model.specs.declared.peer.Peer.{Peer}
use Rattle.route_model.specs.Prefix.{IpPrefix}
use Rattle.route_model.specs.declared.route.Route.{Route}
use Rattle.route_meaning.specs.declared.question.Row.{Row}
use Rattle.route_meaning.specs.declared.question.Spot.{Spot}
use Rattle.route_meaning.specs.declared.question.Event.{Event}
use Rattle.route_meaning.specs.declared.question.Select.{Select}
use Rattle.route_meaning.specs.declared.question.RowsQuestion.{RowsQuestion}
use Rattle.route_meaning.specs.declared.question.EventsQuestion.{EventsQuestion}
use Rattle.route_model.specs.Admission.{Admitted}
use Rattle.route_meaning.specs.Holds.{admitted_time, time_of}
use Rattle.route_meaning.specs.Merged.{Placed}
use Rattle.route_meaning.specs.Holds.{until, Holds}
use Rattle.route_meaning.specs.Rows.{IsRow, AreRows, IsAnswer}
use Rattle.route_meaning.specs.Events.{IsEventsAnswer, events}
use Rattle.route_meaning.specs.History.{History, IsHistory, Begins, all_of, applied, settled}
use Rattle.route_meaning.proofs.api.Sorting.{all_weaker}
use Rattle.route_meaning.proofs.api.Settling.{until-applied, until-begins, Holds-until}

pub IsRow-until : (ps qs : List (Placed Admitted)) (moment : ℕ) (select : Select) (low high : Option Spot) (row : Row) → until moment ps ≡ until moment qs → IsRow ps moment select low high row → IsRow qs moment select low high row
IsRow-until ps qs moment select low high row e h = record { selected = h.selected; above = h.above; within = h.within; holds = Holds-until ps qs moment row.peer row.prefix row.route e h.holds }

pub AreRows-until : (ps qs : List (Placed Admitted)) (moment : ℕ) (select : Select) (low high : Option Spot) (rows : List Row) → until moment ps ≡ until moment qs → AreRows ps moment select low high rows → AreRows qs moment select low high rows
AreRows-until ps qs moment select low high rows e a = record {
  rising = a.rising;
  only = all_weaker _ _ (λ row h. IsRow-until ps qs moment select low high row e h) rows a.only;
  each = λ row h. a.each row (IsRow-until qs ps moment select low high row (sym e) h);
}

pub IsAnswer-until : (ps qs : List (Placed Admitted)) (q : RowsQuestion) (rows : List Row) (more : Bool) → until q.moment ps ≡ until q.moment qs → IsAnswer ps q rows more → IsAnswer qs q rows more
IsAnswer-until ps qs q rows more e a = record {
  all = a.all;
  are = AreRows-until ps qs q.moment q.select q.after None a.all e a.are;
  first = a.first;
  rest = a.rest;
}

pub events-until : (ps qs : List (Placed Admitted)) (q : EventsQuestion) → until q.to ps ≡ until q.to qs → events ps q ≡ events qs q
events-until ps qs q e = rw e refl

pub IsEventsAnswer-until : (ps qs : List (Placed Admitted)) (q : EventsQuestion) (rows : List Event) (more : Bool) → until q.to ps ≡ until q.to qs → IsEventsAnswer ps q rows more → IsEventsAnswer qs q rows more
IsEventsAnswer-until ps qs q rows more e a = record { first = rw (events-until ps qs q e) at a.first; rest = rw (events-until ps qs q e) at a.rest }

pub until-later : (h g : History) (moment : ℕ) → IsHistory h → Begins h g → moment < settled h → until moment (applied h) ≡ until moment (all_of g)
until-later h g moment is begins lt = until-applied h moment lt ∙ sym (until-begins h g moment is begins lt)
