use Rattle.std.proofs.Common.{◌≡◌, ◌++◌, ◌∷◌, [], not, sym, ap, ◌∙◌, subst, refl, rules, List, Bool, cond, None}
use Rattle.route_meaning.specs.declared.question.Spot.{Spot}
use Rattle.route_model.specs.declared.route.Route.{Route}
use Rattle.route_model.specs.declared.change.Change.{Change}
use Rattle.route_model.specs.declared.change.Change.TheVariants.{Announce}
use Rattle.route_model.specs.Admission.{IsChange}
use Rattle.route_meaning.specs.inner.Replay.{IsTable, IsSpot, spot}
use Rattle.route_meaning.proofs.Spots.{updated_as}
use Rattle.route_meaning.proofs.Replays.{announced, announced_spot, withdrawn, ended, passed_over}
use Rattle.route_meaning.proofs.replay.take_change.Goals as goal

pub returns-in_ok-insert-in-Announce : goal.returns-in_ok-insert-in-Announce
returns-in_ok-insert-in-Announce c = λ changes t.
    subst (λ (x : Change). IsTable c.args.range.now (changes ++ x ∷ []) c.insert.new.self) (ap (Announce c.in-Announce.peer c.in-Announce.prefix) c.in_ok-share-in-Announce.ensures.route ∙ sym c.in-Announce.is)
    (announced c.args.range.now changes c.args.table.now c.insert.new.self t c.in-Announce.peer c.in-Announce.prefix c.in_ok-share-in-Announce.field-0 (announced_spot c.in-Announce.peer c.in-Announce.prefix c.in-Announce.route (subst IsChange c.in-Announce.is c.requires)) (sym c.if-has.ensures)
    (updated_as c.args.table.now c.insert.new.self _ _ c.in_ok-insert-in-Announce.ensures.updates.0))

pub returns-else-has : goal.returns-else-has
returns-else-has c = λ changes t.
    subst (λ (x : Change). IsTable c.args.range.now (changes ++ x ∷ []) c.args.table.now) (sym c.in-Announce.is)
    (passed_over c.args.range.now changes c.args.table.now c.in-Announce.peer c.in-Announce.prefix c.in-Announce.route (sym c.if-has.ensures) t)

pub returns-in-Withdraw : goal.returns-in-Withdraw
returns-in-Withdraw c = λ changes t.
    subst (λ (x : Change). IsTable c.args.range.now (changes ++ x ∷ []) c.take_out.new.table) (sym c.in-Withdraw.is)
    (withdrawn c.args.range.now changes c.args.table.now c.take_out.new.table t c.in-Withdraw.peer c.in-Withdraw.prefix c.take_out.ensures)

pub returns-in_ok-end_peer-in-Down : goal.returns-in_ok-end_peer-in-Down
returns-in_ok-end_peer-in-Down c = λ changes t.
    subst (λ (x : Change). IsTable c.args.range.now (changes ++ x ∷ []) c.end_peer.new.table) (sym c.in-Down.is)
    (ended c.args.range.now changes c.args.table.now c.end_peer.new.table t c.in-Down.peer c.in_ok-end_peer-in-Down.ensures)
