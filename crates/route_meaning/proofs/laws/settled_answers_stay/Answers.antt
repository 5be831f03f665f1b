use Rattle.std.proofs.Common.{sym}
use Rattle.route_meaning.specs.History.{applied, all_of}
use Rattle.route_meaning.proofs.api.Settling.{Holds-until}
use Rattle.route_meaning.proofs.api.Agreeing.{AreRows-until, IsAnswer-until, IsEventsAnswer-until, until-later}
use Rattle.route_meaning.proofs.laws.settled_answers_stay.Goals as goal

pub returns : goal.returns
returns c = record {
  holds = λ h g moment peer prefix route is begins lt.
      let e = until-later h g moment is begins lt in
      (λ a. Holds-until (applied h) (all_of g) moment peer prefix route e a, λ a. Holds-until (all_of g) (applied h) moment peer prefix route (sym e) a);
  range = λ h g moment select low high rows is begins lt.
      let e = until-later h g moment is begins lt in
      (λ a. AreRows-until (applied h) (all_of g) moment select low high rows e a, λ a. AreRows-until (all_of g) (applied h) moment select low high rows (sym e) a);
  rows = λ h g q rows more is begins lt.
      let e = until-later h g q.moment is begins lt in
      (λ a. IsAnswer-until (applied h) (all_of g) q rows more e a, λ a. IsAnswer-until (all_of g) (applied h) q rows more (sym e) a);
  events = λ h g q reported more is begins lt.
      let e = until-later h g q.to is begins lt in
      (λ a. IsEventsAnswer-until (applied h) (all_of g) q reported more e a, λ a. IsEventsAnswer-until (all_of g) (applied h) q reported more (sym e) a);
}
