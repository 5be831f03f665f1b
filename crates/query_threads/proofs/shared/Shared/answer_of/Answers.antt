use Rattle.std.proofs.Common.{◌<◌, ◌⊎◌, ℕ, List, Result, IfErr, IfSome, inl, inr, sym, ◌∙◌, subst}
use Rattle.std.proofs.lemmas.Result.{err_from_is_err_and}
use Rattle.std.specs.Prelude.{IsSome, ⊤}
use Rattle.route_meaning.specs.History.{applied, settled}
use Rattle.interleaving_core.specs.Does.{last_moment}
use Rattle.interleaving_core.specs.Headline.{IsAnswered}
use Rattle.board.specs.Past.{IsBlock}
use Rattle.interleaving_core.specs.declared.query.Answer.{Answer}
use Rattle.query_threads.specs.declared.refusal.AskError.{AskError}
use Rattle.query_threads.specs.declared.refusal.Trouble.{Trouble}
use Rattle.query_threads.specs.Seeing.{ComesOf, IsMissed}
use Rattle.query_threads.specs.Troubles.{OnAskTrouble}
use Rattle.query_threads.specs.Turns.{TurnGives, IsReported}
use Rattle.query_threads.specs.Looks.{IsErrandOn}
use Rattle.query_threads.proofs.Seen.{since_then}
use Rattle.query_threads.proofs.Reporting.{ask_trouble, comes_since, look_at}
use Rattle.query_threads.proofs.shared.Shared.answer_of.Goals as goal

pub returns-in_err-turn-clause-reader : goal.returns-in_err-turn-clause-reader
returns-in_err-turn-clause-reader g c named n octets is = c.turn.ensures.begins.past.blocks n octets (c.loop.invariant.reader named n octets is)

pub returns-in_err-turn-clause-begins : goal.returns-in_err-turn-clause-begins
returns-in_err-turn-clause-begins g c = since_then c.args.pass.now c.loop.pass c.turn.new.pass c.loop.invariant.since c.turn.ensures.begins

pub returns-in_err-turn-clause-trouble : goal.returns-in_err-turn-clause-trouble
returns-in_err-turn-clause-trouble g c =
    let w = c.turn.new.pass in
    let why = err_from_is_err_and c.from_residual.result c.from_residual.ensures.1 in
    let P = λ (t : Trouble). ComesOf g.N.OnDisk.disk g.A.Store.disk_of g.A.Store.represents (λ a b. g.A.Store.reports a t b) c.loop.pass w in
    let Q = λ (t : Trouble). ComesOf g.N.OnDisk.disk g.A.Store.disk_of g.A.Store.represents (λ a b. g.A.Store.reports a t b) c.args.pass.now w ⊎ IsMissed g.N.OnDisk.disk g.A.Store.honest g.A.Store.block_count g.A.Store.known w.past.blocks (λ a b. g.A.Store.misses a t b) in
    let reported = ask_trouble P Q (λ t is. inl (comes_since g.N.OnDisk.disk g.A.Store.disk_of g.A.Store.represents (λ a b. g.A.Store.reports a t b) c.args.pass.now c.loop.pass w c.loop.invariant.since is)) c.in_err-turn.field-0.0 c.in_err-turn.ensures.trouble in
    subst (λ (r : Result Answer AskError). IfErr r (OnAskTrouble Q)) (sym why.1) (subst (λ (e : AskError). OnAskTrouble Q e) (sym why.2) reported)

pub returns-in-Done-clause-reader : goal.returns-in-Done-clause-reader
returns-in-Done-clause-reader g c named n octets is = c.turn.ensures.begins.past.blocks n octets (c.loop.invariant.reader named n octets is)

pub returns-in-Done-clause-begins : goal.returns-in-Done-clause-begins
returns-in-Done-clause-begins g c = since_then c.args.pass.now c.loop.pass c.turn.new.pass c.loop.invariant.since c.turn.ensures.begins

pub returns-in-Done-clause-answer : goal.returns-in-Done-clause-answer
returns-in-Done-clause-answer g c named =
    let p = c.turn.new.pass.past in
    let gathered = c.loop.invariant.gathered named in
    subst (λ t. TurnGives (λ e. IfSome g.N.OnDisk.disk (IsErrandOn (λ errand. g.A.Store.located errand c.turn.new.cursor) g.A.Store.honest g.A.Store.block_count g.A.Store.known p e.0 e.1)) (g.A.Store.gathered c.turn.new.cursor p.history) (λ answer. IsAnswered (applied p.history) c.args.query answer) t)
    c.in-Done.is (c.in_ok-turn.ensures.gives named gathered)

pub loop-preserved-in-Again : goal.loop-preserved-in-Again
loop-preserved-in-Again g c =
    let i = c.loop.invariant in
    let p = c.turn.new.pass.past in
    let e = c.in_ok-turn.ensures in
    let begins = c.turn.ensures.begins in
    record {
      next = tt;
      finite = tt;
      since = inr (since_then c.args.pass.now c.loop.pass c.turn.new.pass i.since begins);
      reader = λ named n octets is. begins.past.blocks n octets (i.reader named n octets is);
      asks = c.turn.ensures.asks;
      gathered = λ named h later.
          let here = subst (λ t. TurnGives (λ e. IfSome g.N.OnDisk.disk (IsErrandOn (λ errand. g.A.Store.located errand c.turn.new.cursor) g.A.Store.honest g.A.Store.block_count g.A.Store.known p e.0 e.1)) (g.A.Store.gathered c.turn.new.cursor p.history) (λ answer. IsAnswered (applied p.history) c.args.query answer) t)
          c.in-Again.is (e.gives named (i.gathered named)) in
          let low = subst (λ q. last_moment q < settled p.history) (sym c.turn.ensures.asks) (e.settled named) in
          g.met.A.Store.stays c.turn.new.cursor p.history h (c.turn.ensures.right named) later low here;
    }

pub finish-requires : goal.finish-requires
finish-requires g c = record { fits = subst (λ t. TurnGives (λ e. g.A.Store.fits e.0 c.turn.new.cursor) ⊤ (λ _. ⊤) t) c.in-Historical.is c.in_ok-turn.ensures.fits }

pub returns-in_err-finish-in-Historical-clause-reader : goal.returns-in_err-finish-in-Historical-clause-reader
returns-in_err-finish-in-Historical-clause-reader g c named =
    let i = c.loop.invariant in
    let p = c.turn.new.pass.past in
    let begins = c.turn.ensures.begins in
    let reported = subst (λ t. TurnGives (λ e. IfSome g.N.OnDisk.disk (IsErrandOn (λ errand. g.A.Store.located errand c.turn.new.cursor) g.A.Store.honest g.A.Store.block_count g.A.Store.known p e.0 e.1)) (g.A.Store.gathered c.turn.new.cursor p.history) (λ answer. IsAnswered (applied p.history) c.args.query answer) t)
    c.in-Historical.is (c.in_ok-turn.ensures.gives named (i.gathered named)) in
    c.finish.ensures.kept named p reported (λ n octets is. begins.past.blocks n octets (i.reader named n octets is))

pub returns-in_err-finish-in-Historical-clause-begins : goal.returns-in_err-finish-in-Historical-clause-begins
returns-in_err-finish-in-Historical-clause-begins g c = since_then c.args.pass.now c.loop.pass c.turn.new.pass c.loop.invariant.since c.turn.ensures.begins

pub returns-in_err-finish-in-Historical-clause-reported : goal.returns-in_err-finish-in-Historical-clause-reported
returns-in_err-finish-in-Historical-clause-reported g c named =
    let i = c.loop.invariant in
    let p = c.turn.new.pass.past in
    let begins = c.turn.ensures.begins in
    let reported = subst (λ t. TurnGives (λ e. IfSome g.N.OnDisk.disk (IsErrandOn (λ errand. g.A.Store.located errand c.turn.new.cursor) g.A.Store.honest g.A.Store.block_count g.A.Store.known p e.0 e.1)) (g.A.Store.gathered c.turn.new.cursor p.history) (λ answer. IsAnswered (applied p.history) c.args.query answer) t)
    c.in-Historical.is (c.in_ok-turn.ensures.gives named (i.gathered named)) in
    let outside = c.in_err-finish-in-Historical.ensures.sound named p reported (λ n octets is. begins.past.blocks n octets (i.reader named n octets is)) in
    let why = err_from_is_err_and c.from_residual-in_err-finish-in-Historical.result c.from_residual-in_err-finish-in-Historical.ensures.1 in
    subst (λ (r : Result Answer AskError). IfErr r (λ e. IsReported e p.history c.args.query)) (sym why.1) (subst (λ (e : AskError). IsReported e p.history c.args.query) (sym why.2) outside)

pub returns-in_err-finish-in-Historical-clause-trouble : goal.returns-in_err-finish-in-Historical-clause-trouble
returns-in_err-finish-in-Historical-clause-trouble g c =
    let i = c.loop.invariant in
    let w = c.turn.new.pass in
    let begins = c.turn.ensures.begins in
    let reported = λ (named : IsSome g.N.OnDisk.disk). subst (λ t. TurnGives (λ e. IfSome g.N.OnDisk.disk (IsErrandOn (λ errand. g.A.Store.located errand c.turn.new.cursor) g.A.Store.honest g.A.Store.block_count g.A.Store.known w.past e.0 e.1)) (g.A.Store.gathered c.turn.new.cursor w.past.history) (λ answer. IsAnswered (applied w.past.history) c.args.query answer) t)
    c.in-Historical.is (c.in_ok-turn.ensures.gives named (i.gathered named)) in
    let look = look_at g.N.OnDisk.disk (λ errand. g.A.Store.located errand c.turn.new.cursor) g.A.Store.honest g.A.Store.block_count g.A.Store.known w.past c.in-Historical.errand c.in-Historical.seen reported in
    let why = err_from_is_err_and c.from_residual-in_err-finish-in-Historical.result c.from_residual-in_err-finish-in-Historical.ensures.1 in
    let Q = λ (t : Trouble). ComesOf g.N.OnDisk.disk g.A.Store.disk_of g.A.Store.represents (λ a b. g.A.Store.reports a t b) c.args.pass.now w ⊎ IsMissed g.N.OnDisk.disk g.A.Store.honest g.A.Store.block_count g.A.Store.known w.past.blocks (λ a b. g.A.Store.misses a t b) in
    let missed = inr (record { was = c.in-Historical.seen; is = c.finish.new.seen; missed = c.in_err-finish-in-Historical.ensures.trouble; of = look }) in
    subst (λ (r : Result Answer AskError). IfErr r (OnAskTrouble Q)) (sym why.1) (subst (λ (e : AskError). OnAskTrouble Q e) (sym why.2) missed)

pub loop-preserved : goal.loop-preserved
loop-preserved g c =
    let i = c.loop.invariant in
    let p = c.turn.new.pass.past in
    let begins = c.turn.ensures.begins in
    let f = c.in_ok-finish-in-Historical.ensures in
    let asks = f.asks ∙ c.turn.ensures.asks in
    let reported = λ (named : IsSome g.N.OnDisk.disk). subst (λ t. TurnGives (λ e. IfSome g.N.OnDisk.disk (IsErrandOn (λ errand. g.A.Store.located errand c.turn.new.cursor) g.A.Store.honest g.A.Store.block_count g.A.Store.known p e.0 e.1)) (g.A.Store.gathered c.turn.new.cursor p.history) (λ answer. IsAnswered (applied p.history) c.args.query answer) t)
    c.in-Historical.is (c.in_ok-turn.ensures.gives named (i.gathered named)) in
    let kept = λ (named : IsSome g.N.OnDisk.disk) (n : ℕ) (octets : List ℕ) (is : IsBlock n octets c.loop.reader). begins.past.blocks n octets (i.reader named n octets is) in
    record {
      next = tt;
      finite = tt;
      since = inr (since_then c.args.pass.now c.loop.pass c.turn.new.pass i.since begins);
      reader = λ named. f.kept named p (reported named) (kept named);
      asks = asks;
      gathered = λ named h later.
          let low = subst (λ q. last_moment q < settled p.history) (sym asks) (c.in_ok-turn.ensures.settled named) in
          g.met.A.Store.stays _ p.history h (c.turn.ensures.right named) later low (f.gathered named p (reported named) (kept named));
    }
