use Rattle.std.proofs.Common.{◌≤◌, ◌<◌, IfErr, IfOk, IfSome, OnOk, ◌∙◌, subst}
use Rattle.std.proofs.lemmas.Result.{IfErr-weaker}
use Rattle.route_meaning.specs.History.{applied, settled}
use Rattle.interleaving_core.specs.declared.query.Query.{Query}
use Rattle.interleaving_core.specs.Does.{last_moment}
use Rattle.interleaving_core.specs.Headline.{IsAnswered}
use Rattle.board.specs.Views.{watermark_of}
use Rattle.query_threads.specs.Turns.{TurnGives, IsReported, IsAbove}
use Rattle.query_threads.specs.Looks.{IsErrandOn}
use Rattle.query_threads.proofs.Seen.{reported_low}
use Rattle.query_threads.proofs.shared.Shared.turn.Goals as goal

pub returns-clause-asks : goal.returns-clause-asks
returns-clause-asks g c = c.turns-reported.ensures.asks ∙ c.requires.asks

pub returns-clause-settled : goal.returns-clause-settled
returns-clause-settled g c named = subst (λ (q : Query). OnOk c.turns-reported.result (last_moment q < settled c.turns-reported.new.pass.past.history)) c.requires.asks (c.turns-reported.ensures.settled named)

pub returns-clause-gives : goal.returns-clause-gives
returns-clause-gives g c named gathered =
    let p = c.turns-reported.new.pass.past in
    subst (λ (q : Query). IfOk c.turns-reported.result (λ turn. TurnGives (λ e. IfSome g.N.OnDisk.disk (IsErrandOn (λ errand. g.A.Store.located errand c.turns-reported.new.cursor) g.A.Store.honest g.A.Store.block_count g.A.Store.known p e.0 e.1)) (g.A.Store.gathered c.turns-reported.new.cursor p.history) (λ answer. IsAnswered (applied p.history) q answer) turn))
    c.requires.asks (c.turns-reported.ensures.gives named gathered)

pub returns-clause-reported : goal.returns-clause-reported
returns-clause-reported g c named = subst (λ (q : Query). IfErr c.turns-reported.result (λ e. IsReported e c.turns-reported.new.pass.past.history q)) c.requires.asks (c.turns-reported.ensures.reported named)

pub returns-clause-not_refused : goal.returns-clause-not_refused
returns-clause-not_refused g c named =
    let h = c.turns-reported.new.pass.past.history in
    let reported = subst (λ (q : Query). IfErr c.turns-reported.result (λ e. IsReported e h q)) c.requires.asks (c.turns-reported.ensures.reported named) in
    IfErr-weaker c.turns-reported.result (λ e. IsReported e h c.args.query.now) (λ e. IsAbove e → watermark_of c.args.pass.now ≤ last_moment c.args.query.now) (λ e t above. reported_low e h c.args.query.now (watermark_of c.args.pass.now) t (c.turns-reported.ensures.reached 0) above) reported
