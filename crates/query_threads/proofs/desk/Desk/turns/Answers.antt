use Rattle.std.proofs.Common.{◌<◌, Result, IfErr, IfSome, inr, sym, ◌∙◌, subst}
use Rattle.std.proofs.lemmas.Result.{err_from_is_err_and, IfErr-weaker}
use Rattle.route_meaning.specs.History.{applied, settled}
use Rattle.interleaving_core.specs.Does.{last_moment}
use Rattle.interleaving_core.specs.Headline.{IsAnswered}
use Rattle.query_threads.specs.declared.refusal.AskError.{AskError}
use Rattle.query_threads.specs.declared.refusal.Trouble.{Trouble}
use Rattle.query_threads.specs.declared.refusal.Turn.{Turn}
use Rattle.query_threads.specs.Looks.{IsErrandOn}
use Rattle.query_threads.specs.Seeing.{ComesOf}
use Rattle.query_threads.specs.Troubles.{OnAskTrouble}
use Rattle.query_threads.specs.Turns.{TurnGives}
use Rattle.query_threads.proofs.Seen.{since_then}
use Rattle.query_threads.proofs.Reporting.{ask_trouble, comes_since}
use Rattle.query_threads.proofs.desk.Desk.turns.Goals as goal

pub returns-in_err-answer-clause-begins : goal.returns-in_err-answer-clause-begins
returns-in_err-answer-clause-begins g c = since_then c.args.pass.now c.loop.pass c.turn.new.pass c.loop.invariant.since c.turn.ensures.begins

pub returns-in_err-answer-clause-trouble : goal.returns-in_err-answer-clause-trouble
returns-in_err-answer-clause-trouble g c =
    let w = c.turn.new.pass in
    let why = err_from_is_err_and c.from_residual.result c.from_residual.ensures.1 in
    let P = λ (t : Trouble). ComesOf g.N.OnDisk.disk g.A.Store.disk_of g.A.Store.represents (λ a b. g.A.Store.reports a t b) c.loop.pass w in
    let Q = λ (t : Trouble). ComesOf g.N.OnDisk.disk g.A.Store.disk_of g.A.Store.represents (λ a b. g.A.Store.reports a t b) c.args.pass.now w in
    let since = λ (t : Trouble). comes_since g.N.OnDisk.disk g.A.Store.disk_of g.A.Store.represents (λ a b. g.A.Store.reports a t b) c.args.pass.now c.loop.pass w c.loop.invariant.since in
    let reported = ask_trouble P Q since c.in_err-answer.field-0.0 c.in_err-answer.ensures.trouble in
    subst (λ (r : Result (Turn (g.row.A-Errand.Denot × g.row.A-Seen.Denot)) AskError). IfErr r (OnAskTrouble Q)) (sym why.1) (subst (λ (e : AskError). OnAskTrouble Q e) (sym why.2) reported)

pub loop-preserved : goal.loop-preserved
loop-preserved g c =
    let i = c.loop.invariant in
    let p = c.turn.new.pass.past in
    let e = c.in_ok-answer.ensures in
    let begins = c.turn.ensures.begins in
    record {
      since = inr (since_then c.args.pass.now c.loop.pass c.turn.new.pass i.since begins);
      asks = c.turn.ensures.asks ∙ i.asks;
      gathered = λ named onward h later.
          let before = i.gathered named onward p.history begins.past.begins in
          let here = subst (λ t. TurnGives (λ e. IfSome g.N.OnDisk.disk (IsErrandOn (λ errand. g.A.Store.located errand c.turn.new.cursor) g.A.Store.honest g.A.Store.block_count g.A.Store.known p e.0 e.1)) (g.A.Store.gathered c.turn.new.cursor p.history) (λ answer. IsAnswered (applied p.history) (g.A.Store.asks c.loop.cursor) answer) t)
          c.in-Again.is (e.gives named before) in
          let low = subst (λ q. last_moment q < settled p.history) (sym c.turn.ensures.asks) (e.settled named) in
          g.met.A.Store.stays c.turn.new.cursor p.history h (c.turn.ensures.right named) later low here;
    }

pub returns-clause-begins : goal.returns-clause-begins
returns-clause-begins g c = since_then c.args.pass.now c.loop.pass c.turn-2.new.pass c.loop.invariant.since c.turn-2.ensures.begins

pub returns-in-Done-clause-begins : goal.returns-in-Done-clause-begins
returns-in-Done-clause-begins g c = since_then c.args.pass.now c.loop.pass c.turn.new.pass c.loop.invariant.since c.turn.ensures.begins

pub returns-in-Historical-clause-begins : goal.returns-in-Historical-clause-begins
returns-in-Historical-clause-begins g c = since_then c.args.pass.now c.loop.pass c.turn.new.pass c.loop.invariant.since c.turn.ensures.begins

pub returns-clause-trouble : goal.returns-clause-trouble
returns-clause-trouble g c =
    let w = c.turn-2.new.pass in
    let P = λ (t : Trouble). ComesOf g.N.OnDisk.disk g.A.Store.disk_of g.A.Store.represents (λ a b. g.A.Store.reports a t b) c.loop.pass w in
    let Q = λ (t : Trouble). ComesOf g.N.OnDisk.disk g.A.Store.disk_of g.A.Store.represents (λ a b. g.A.Store.reports a t b) c.args.pass.now w in
    let since = λ (t : Trouble). comes_since g.N.OnDisk.disk g.A.Store.disk_of g.A.Store.represents (λ a b. g.A.Store.reports a t b) c.args.pass.now c.loop.pass w c.loop.invariant.since in
    IfErr-weaker c.turn-2.result (OnAskTrouble P) (OnAskTrouble Q) (λ e is. ask_trouble P Q since e is) c.turn-2.ensures.trouble
