use Rattle.std.proofs.Common.{◌<◌, ◌∷◌, ◌++◌, [], List, Option, refl, subst, sym, ◌∙◌}
use Rattle.std.specs.List.{filter}
use Rattle.std.proofs.lemmas.Bool.{ltb-true}
use Rattle.route_meaning.specs.declared.question.Event.{Event}
use Rattle.version_model.specs.Versions.{Version}
use Rattle.route_history.specs.declared.events.Stamped.{Stamped}
use Rattle.route_history.specs.Spans.{before, version_at, subject_key, IsEventIn, IsEventOf, AreStamped}
use Rattle.route_history.proofs.Stamps.{put_before}
use Rattle.route_history.proofs.events.put_event.Goals as goal

pub returns : goal.returns
returns c = λ vs has a.
    let q = c.args.question.now in
    let v : Version = version_at (subject_key q c.args.subject) c.args.entry.now in
    let lt : v.stamp < c.args.to = ltb-true _ _ (sym c.is_before.ensures ∙ c.if-not-is_before.false) in
    let is : IsEventOf q.peer q.prefix v c.in-Some.event = subst (λ (o : Option Event). IsEventIn q.peer q.prefix v o) c.in-Some.is c.in_ok-event.ensures in
    let one : Stamped = record { stamp = c.args.entry.now.stamp; event = c.in-Some.event } in
    subst (λ (l : List Stamped). AreStamped q (vs ++ filter (before c.args.to) (v ∷ [])) l) (sym c.in_ok-push.ensures.items) (put_before q c.args.to vs v c.args.news.now.items one a lt (refl, is))
