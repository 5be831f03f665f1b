use Rattle.std.proofs.Common.{◌≡◌, Some, IfSome, IfErr, Result, sym, ap, ◌∙◌, subst}
use Rattle.std.proofs.lemmas.Result.{err_from_is_err_and}
use Rattle.std.specs.Prelude.{IsSome}
use Rattle.route_meaning.specs.History.{applied}
use Rattle.interleaving_core.specs.Headline.{IsAnswered}
use Rattle.board.specs.Past.{Past, GoesOnAs}
use Rattle.board.specs.Views.{View, IsFrontOf}
use Rattle.query_threads.specs.Turns.{TurnGives}
use Rattle.query_threads.specs.Looks.{IsErrandOn}
use Rattle.query_threads.specs.Seeing.{ComesOf}
use Rattle.query_threads.specs.Troubles.{OnAskTrouble}
use Rattle.query_threads.specs.declared.refusal.AskError.{AskError}
use Rattle.query_threads.specs.declared.refusal.Trouble.{Trouble}
use Rattle.query_threads.specs.declared.refusal.Turn.{Turn}
use Rattle.query_threads.proofs.Representing.{stays_as}
use Rattle.query_threads.proofs.Reporting.{ask_trouble, comes_of}
use Rattle.query_threads.proofs.desk.Desk.turn.Goals as goal

pub returns-in_ok-seen-in-Historical-clause-gives : goal.returns-in_ok-seen-in-Historical-clause-gives
returns-in_ok-seen-in-Historical-clause-gives g c named gathered =
    let p = c.greet.new.pass.past in
    let is : c.self.inside.writer.past ≡ p = ap (λ (k : View). k.past) (c.self.view_is ∙ c.greet.ensures.same) ∙ sym c.greet.ensures.past in
    let represented = subst (λ (x : Past). g.A.Store.represents c.self.inside.archive x) is (c.self.invariant.1 named).0 in
    let gives = c.in_ok-answer.ensures.gives p represented gathered in
    let located = subst (λ t. TurnGives (λ e. g.A.Store.located e c.descend.new.cursor (g.A.Store.disk_of c.self.inside.archive) p) (g.A.Store.gathered c.descend.new.cursor p.history) (λ answer. IsAnswered (applied p.history) (g.A.Store.asks c.args.cursor.now) answer) t) c.in-Historical.is gives in
    let later = c.descend.ensures.represents p represented in
    let on_disk : g.N.OnDisk.disk ≡ Some (g.A.Store.disk_of c.self.inside.archive) = (c.self.invariant.1 named).2 in
    let then : g.N.OnDisk.disk ≡ Some (g.A.Store.disk_of c.descend.new.self) = on_disk ∙ ap Some (sym c.descend.ensures.disk) in
    let on : IsErrandOn (λ errand. g.A.Store.located errand c.descend.new.cursor) g.A.Store.honest g.A.Store.block_count g.A.Store.known p c.in-Historical.errand c.in_ok-seen-in-Historical.seen (g.A.Store.disk_of c.descend.new.self) = record {
      represents_all = subst (λ d. g.A.Store.located c.in-Historical.errand c.descend.new.cursor d p) (sym c.descend.ensures.disk) located;
      follows = c.in_ok-seen-in-Historical.ensures.honest p later;
      found = c.in_ok-seen-in-Historical.ensures.known p later;
    } in
    subst (λ o. IfSome o (IsErrandOn (λ errand. g.A.Store.located errand c.descend.new.cursor) g.A.Store.honest g.A.Store.block_count g.A.Store.known p c.in-Historical.errand c.in_ok-seen-in-Historical.seen)) (sym then) on

pub returns-in_err-answer-clause-trouble : goal.returns-in_err-answer-clause-trouble
returns-in_err-answer-clause-trouble g c =
    let v = c.greet.new.pass in
    let p = v.past in
    let is : c.self.inside.writer.past ≡ p = ap (λ (k : View). k.past) (c.self.view_is ∙ c.greet.ensures.same) ∙ sym c.greet.ensures.past in
    let archive = c.self.inside.archive in
    let represented = λ (named : IsSome g.N.OnDisk.disk). subst (λ (x : Past). g.A.Store.represents archive x) is (c.self.invariant.1 named).0 in
    let front = subst (λ (x : Past). IsFrontOf x c.args.pass.now) (sym c.greet.ensures.past) c.greet.ensures.front in
    let then = c.descend.new.self in
    let before : IsSome g.N.OnDisk.disk → (q : Past) × g.A.Store.represents archive q × IsFrontOf q c.args.pass.now × GoesOnAs q p = λ named. (p, represented named, front, stays_as p (g.met.A.Store.right archive p (represented named))) in
    let Q = λ (t : Trouble). ComesOf g.N.OnDisk.disk g.A.Store.disk_of g.A.Store.represents (λ a b. g.A.Store.reports a t b) c.args.pass.now v in
    let reported = ask_trouble (λ t. g.A.Store.reports archive t then) Q
    (λ t. comes_of g.N.OnDisk.disk g.A.Store.disk_of g.A.Store.represents c.args.pass.now v archive then (λ named. (c.self.invariant.1 named).2) before (λ named. c.descend.ensures.represents p (represented named)) (λ a b. g.A.Store.reports a t b))
    c.in_err-answer.field-0.0 c.in_err-answer.ensures.trouble in
    let why = err_from_is_err_and c.from_residual.result c.from_residual.ensures.1 in
    subst (λ (r : Result (Turn (g.row.A-Errand.Denot × g.row.A-Seen.Denot)) AskError). IfErr r (OnAskTrouble Q)) (sym why.1) (subst (λ (e : AskError). OnAskTrouble Q e) (sym why.2) reported)

pub returns-in_err-seen-in-Historical-clause-trouble : goal.returns-in_err-seen-in-Historical-clause-trouble
returns-in_err-seen-in-Historical-clause-trouble g c =
    let v = c.greet.new.pass in
    let p = v.past in
    let is : c.self.inside.writer.past ≡ p = ap (λ (k : View). k.past) (c.self.view_is ∙ c.greet.ensures.same) ∙ sym c.greet.ensures.past in
    let archive = c.self.inside.archive in
    let represented = λ (named : IsSome g.N.OnDisk.disk). subst (λ (x : Past). g.A.Store.represents archive x) is (c.self.invariant.1 named).0 in
    let front = subst (λ (x : Past). IsFrontOf x c.args.pass.now) (sym c.greet.ensures.past) c.greet.ensures.front in
    let then = c.descend.new.self in
    let last = c.seen.new.self in
    let later = λ (named : IsSome g.N.OnDisk.disk). c.descend.ensures.represents p (represented named) in
    let before : IsSome g.N.OnDisk.disk → (q : Past) × g.A.Store.represents then q × IsFrontOf q c.args.pass.now × GoesOnAs q p = λ named. (p, later named, front, stays_as p (g.met.A.Store.right archive p (represented named))) in
    let Q = λ (t : Trouble). ComesOf g.N.OnDisk.disk g.A.Store.disk_of g.A.Store.represents (λ a b. g.A.Store.reports a t b) c.args.pass.now v in
    let reported = comes_of g.N.OnDisk.disk g.A.Store.disk_of g.A.Store.represents c.args.pass.now v then last (λ named. (c.self.invariant.1 named).2 ∙ ap Some (sym c.descend.ensures.disk)) before (λ named. c.seen.ensures.represents p (later named)) (λ a b. g.A.Store.reports a c.in_err-seen-in-Historical.field-0.0 b) c.in_err-seen-in-Historical.ensures.trouble in
    let why = err_from_is_err_and c.from_residual-in_err-seen-in-Historical.result c.from_residual-in_err-seen-in-Historical.ensures.1 in
    subst (λ (r : Result (Turn (g.row.A-Errand.Denot × g.row.A-Seen.Denot)) AskError). IfErr r (OnAskTrouble Q)) (sym why.1) (subst (λ (e : AskError). OnAskTrouble Q e) (sym why.2) reported)
