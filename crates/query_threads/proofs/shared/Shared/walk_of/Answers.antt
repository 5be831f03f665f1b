use Rattle.std.proofs.Common.{◌<◌, ◌≤◌, ◌∙◌, Option, Result, IfErr, IfSome, inr, sym, subst}
use Rattle.std.proofs.lemmas.Result.{err_from_is_err_and}
use Rattle.std.specs.Prelude.{IfNone}
use Rattle.route_meaning.specs.Changed.{IsChangedAnswer}
use Rattle.route_meaning.specs.History.{applied, settled}
use Rattle.route_meaning.specs.declared.question.ChangedAnswer.{ChangedAnswer}
use Rattle.route_meaning.specs.declared.question.ChangedQuestion.{ChangedQuestion}
use Rattle.board.specs.Views.{watermark_of}
use Rattle.query_threads.specs.declared.refusal.AskError.{AskError}
use Rattle.query_threads.specs.declared.refusal.Trouble.{Trouble}
use Rattle.query_threads.specs.Seeing.{ComesOf}
use Rattle.query_threads.specs.Troubles.{OnAskTrouble}
use Rattle.query_threads.specs.Turns.{IsAbove, IsReportedAt}
use Rattle.query_threads.proofs.Reporting.{ask_trouble, comes_since}
use Rattle.query_threads.proofs.Seen.{low_since, reported_low_at, since_then}
use Rattle.query_threads.proofs.shared.Shared.walk_of.Goals as goal

pub returns-in_err-found-clause-begins : goal.returns-in_err-found-clause-begins
returns-in_err-found-clause-begins g c = since_then c.args.pass.now c.loop.pass c.looks.new.pass c.loop.invariant.since c.looks.ensures.begins

pub returns-in_err-found-clause-reader : goal.returns-in_err-found-clause-reader
returns-in_err-found-clause-reader g c named = c.looks.ensures.kept named (c.loop.invariant.reader named)

pub returns-in_err-found-clause-reported : goal.returns-in_err-found-clause-reported
returns-in_err-found-clause-reported g c named =
    let i = c.loop.invariant in
    let h = c.looks.new.pass.past.history in
    let to = c.args.question.to in
    let reported = subst (λ (q : ChangedQuestion). IsReportedAt c.in_err-found.field-0.0 h q.to) i.walks (c.in_err-found.ensures.reported named (i.reader named)) in
    let why = err_from_is_err_and c.from_residual.result c.from_residual.ensures.1 in
    subst (λ (r : Result ChangedAnswer AskError). IfErr r (λ e. IsReportedAt e h to)) (sym why.1) (subst (λ (e : AskError). IsReportedAt e h to) (sym why.2) reported)

pub returns-in_err-found-clause-not_refused : goal.returns-in_err-found-clause-not_refused
returns-in_err-found-clause-not_refused g c named =
    let i = c.loop.invariant in
    let h = c.looks.new.pass.past.history in
    let to = c.args.question.to in
    let reported = subst (λ (q : ChangedQuestion). IsReportedAt c.in_err-found.field-0.0 h q.to) i.walks (c.in_err-found.ensures.reported named (i.reader named)) in
    let low = low_since c.args.pass.now c.loop.pass 0 (settled h) i.since (c.looks.ensures.reached 0) in
    let refused = reported_low_at c.in_err-found.field-0.0 h to (watermark_of c.args.pass.now) reported low in
    let why = err_from_is_err_and c.from_residual.result c.from_residual.ensures.1 in
    subst (λ (r : Result ChangedAnswer AskError). IfErr r (λ e. IsAbove e → watermark_of c.args.pass.now ≤ to)) (sym why.1) (subst (λ (e : AskError). IsAbove e → watermark_of c.args.pass.now ≤ to) (sym why.2) refused)

pub returns-in-Some-found-clause-begins : goal.returns-in-Some-found-clause-begins
returns-in-Some-found-clause-begins g c = since_then c.args.pass.now c.loop.pass c.looks.new.pass c.loop.invariant.since c.looks.ensures.begins

pub returns-in-Some-found-clause-reader : goal.returns-in-Some-found-clause-reader
returns-in-Some-found-clause-reader g c named = c.looks.ensures.kept named (c.loop.invariant.reader named)

pub returns-in-Some-found-clause-answer : goal.returns-in-Some-found-clause-answer
returns-in-Some-found-clause-answer g c named =
    let i = c.loop.invariant in
    let h = c.looks.new.pass.past.history in
    let found = c.in_ok-found.ensures.answer named (i.reader named) (i.walked named) in
    let answer = subst (λ (o : Option ChangedAnswer). IfSome o (λ answer. IsChangedAnswer (applied h) (g.A.Store.walks c.loop.walk) answer.spots.items answer.more)) c.in-Some-found.is found in
    subst (λ (q : ChangedQuestion). IsChangedAnswer (applied h) q c.in-Some-found.answer.spots.items c.in-Some-found.answer.more) i.walks answer

pub loop-preserved : goal.loop-preserved
loop-preserved g c =
    let i = c.loop.invariant in
    let e = c.looks.ensures in
    let h = c.looks.new.pass.past.history in
    record {
      next = tt;
      finite = tt;
      since = inr (since_then c.args.pass.now c.loop.pass c.looks.new.pass i.since e.begins);
      reader = λ named. e.kept named (i.reader named);
      walks = e.walks ∙ i.walks;
      walked = λ named later begins.
          let found = c.in_ok-found.ensures.walked named (i.reader named) (i.walked named) in
          let low = subst (λ (q : ChangedQuestion). q.to < settled h) (sym e.walks) (c.in_ok-found.ensures.settled named) in
          g.met.A.Store.walk_stays c.looks.new.walk h later (e.right named) begins low
          (subst (λ (o : Option ChangedAnswer). IfNone o (g.A.Store.walked c.looks.new.walk h)) c.in_default.is found);
    }

pub returns-in_err-found-clause-trouble : goal.returns-in_err-found-clause-trouble
returns-in_err-found-clause-trouble g c =
    let w = c.looks.new.pass in
    let why = err_from_is_err_and c.from_residual.result c.from_residual.ensures.1 in
    let P = λ (t : Trouble). ComesOf g.N.OnDisk.disk g.A.Store.disk_of g.A.Store.represents (λ a b. g.A.Store.fails a t b) c.loop.pass w in
    let Q = λ (t : Trouble). ComesOf g.N.OnDisk.disk g.A.Store.disk_of g.A.Store.represents (λ a b. g.A.Store.fails a t b) c.args.pass.now w in
    let since = λ (t : Trouble). comes_since g.N.OnDisk.disk g.A.Store.disk_of g.A.Store.represents (λ a b. g.A.Store.fails a t b) c.args.pass.now c.loop.pass w c.loop.invariant.since in
    let reported = ask_trouble P Q since c.in_err-found.field-0.0 c.in_err-found.ensures.trouble in
    subst (λ (r : Result ChangedAnswer AskError). IfErr r (OnAskTrouble Q)) (sym why.1) (subst (λ (e : AskError). OnAskTrouble Q e) (sym why.2) reported)
