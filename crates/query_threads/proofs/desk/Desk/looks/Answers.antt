use Rattle.std.proofs.Common.{◌<◌, ◌∙◌, Option, Result, Some, IfErr, IfOk, IfSome, inr, ap, sym, subst}
use Rattle.std.proofs.lemmas.Result.{err_from_is_err_and, IfErr-weaker}
use Rattle.std.specs.Prelude.{IfNone}
use Rattle.route_meaning.specs.Changed.{IsChangedAnswer}
use Rattle.route_meaning.specs.History.{applied, settled}
use Rattle.route_meaning.specs.declared.question.ChangedAnswer.{ChangedAnswer}
use Rattle.route_meaning.specs.declared.question.ChangedQuestion.{ChangedQuestion}
use Rattle.query_threads.specs.declared.refusal.AskError.{AskError}
use Rattle.query_threads.specs.declared.refusal.Trouble.{Trouble}
use Rattle.query_threads.specs.Seeing.{ComesOf}
use Rattle.query_threads.specs.Troubles.{OnAskTrouble}
use Rattle.query_threads.specs.Turns.{IsReportedAt}
use Rattle.query_threads.proofs.Reporting.{ask_trouble, comes_since}
use Rattle.query_threads.proofs.Seen.{since_then}
use Rattle.query_threads.proofs.desk.Desk.looks.Goals as goal

pub returns-in_err-answer-clause-begins : goal.returns-in_err-answer-clause-begins
returns-in_err-answer-clause-begins g c = since_then c.args.pass.now c.loop.pass c.look.new.pass c.loop.invariant.since c.look.ensures.begins

pub returns-in_err-answer-clause-kept : goal.returns-in_err-answer-clause-kept
returns-in_err-answer-clause-kept g c named on among =
    let i = c.loop.invariant in
    c.look.ensures.kept named (on ∙ ap Some (sym i.reads)) (i.kept named on among)

pub returns-in_err-answer-clause-reported : goal.returns-in_err-answer-clause-reported
returns-in_err-answer-clause-reported g c named on among =
    let i = c.loop.invariant in
    let h = c.look.new.pass.past.history in
    let reported = c.in_err-answer.ensures.reported named (on ∙ ap Some (sym i.reads)) (i.kept named on among) in
    let why = err_from_is_err_and c.from_residual.result c.from_residual.ensures.1 in
    let to = (g.A.Store.walks c.args.walk.now).to in
    subst (λ (r : Result (Option ChangedAnswer) AskError). IfErr r (λ e. IsReportedAt e h to)) (sym why.1)
    (subst (λ (e : AskError). IsReportedAt e h to) (sym why.2) (subst (λ (q : ChangedQuestion). IsReportedAt c.in_err-answer.field-0.0 h q.to) i.walks reported))

pub loop-preserved : goal.loop-preserved
loop-preserved g c =
    let i = c.loop.invariant in
    let e = c.look.ensures in
    record {
      since = inr (since_then c.args.pass.now c.loop.pass c.look.new.pass i.since e.begins);
      walks = e.walks ∙ i.walks;
      reads = e.reads ∙ i.reads;
      kept = λ named on among. e.kept named (on ∙ ap Some (sym i.reads)) (i.kept named on among);
      walked = λ named on among onward h later.
          let before = i.walked named on among onward c.look.new.pass.past.history e.begins.past.begins in
          let found = c.in_ok-answer.ensures.walked named (on ∙ ap Some (sym i.reads)) (i.kept named on among) before in
          let low = subst (λ (q : ChangedQuestion). q.to < settled c.look.new.pass.past.history) (sym e.walks) (c.in_ok-answer.ensures.settled named) in
          g.met.A.Store.walk_stays c.look.new.walk c.look.new.pass.past.history h (e.right named) later low
          (subst (λ (o : Option ChangedAnswer). IfNone o (g.A.Store.walked c.look.new.walk c.look.new.pass.past.history)) c.in_default.is found);
    }

pub returns-in-Some-clause-begins : goal.returns-in-Some-clause-begins
returns-in-Some-clause-begins g c = since_then c.args.pass.now c.loop.pass c.look.new.pass c.loop.invariant.since c.look.ensures.begins

pub returns-in-Some-clause-kept : goal.returns-in-Some-clause-kept
returns-in-Some-clause-kept g c named on among =
    let i = c.loop.invariant in
    c.look.ensures.kept named (on ∙ ap Some (sym i.reads)) (i.kept named on among)

pub returns-in-Some-clause-answer : goal.returns-in-Some-clause-answer
returns-in-Some-clause-answer g c named on among onward =
    let i = c.loop.invariant in
    let h = c.look.new.pass.past.history in
    let before = i.walked named on among onward h c.look.ensures.begins.past.begins in
    let found = c.in_ok-answer.ensures.answer named (on ∙ ap Some (sym i.reads)) (i.kept named on among) before in
    let answer = subst (λ (o : Option ChangedAnswer). IfSome o (λ answer. IsChangedAnswer (applied h) (g.A.Store.walks c.loop.walk) answer.spots.items answer.more)) c.in-Some.is found in
    subst (λ (q : ChangedQuestion). IsChangedAnswer (applied h) q c.in-Some.answer.spots.items c.in-Some.answer.more) i.walks answer

pub returns-clause-begins : goal.returns-clause-begins
returns-clause-begins g c = since_then c.args.pass.now c.loop.pass c.look-2.new.pass c.loop.invariant.since c.look-2.ensures.begins

pub returns-clause-kept : goal.returns-clause-kept
returns-clause-kept g c named on among =
    let i = c.loop.invariant in
    c.look-2.ensures.kept named (on ∙ ap Some (sym i.reads)) (i.kept named on among)

pub returns-clause-walked : goal.returns-clause-walked
returns-clause-walked g c named on among onward =
    let i = c.loop.invariant in
    let before = i.walked named on among onward c.look-2.new.pass.past.history c.look-2.ensures.begins.past.begins in
    c.look-2.ensures.walked named (on ∙ ap Some (sym i.reads)) (i.kept named on among) before

pub returns-clause-answer : goal.returns-clause-answer
returns-clause-answer g c named on among onward =
    let i = c.loop.invariant in
    let h = c.look-2.new.pass.past.history in
    let before = i.walked named on among onward h c.look-2.ensures.begins.past.begins in
    subst (λ (q : ChangedQuestion). IfOk c.look-2.result (λ found. IfSome found (λ answer. IsChangedAnswer (applied h) q answer.spots.items answer.more))) i.walks
    (c.look-2.ensures.answer named (on ∙ ap Some (sym i.reads)) (i.kept named on among) before)

pub returns-clause-reported : goal.returns-clause-reported
returns-clause-reported g c named on among =
    let i = c.loop.invariant in
    let h = c.look-2.new.pass.past.history in
    subst (λ (q : ChangedQuestion). IfErr c.look-2.result (λ e. IsReportedAt e h q.to)) i.walks (c.look-2.ensures.reported named (on ∙ ap Some (sym i.reads)) (i.kept named on among))

pub returns-in_err-answer-clause-trouble : goal.returns-in_err-answer-clause-trouble
returns-in_err-answer-clause-trouble g c =
    let w = c.look.new.pass in
    let why = err_from_is_err_and c.from_residual.result c.from_residual.ensures.1 in
    let P = λ (t : Trouble). ComesOf g.N.OnDisk.disk g.A.Store.disk_of g.A.Store.represents (λ a b. g.A.Store.fails a t b) c.loop.pass w in
    let Q = λ (t : Trouble). ComesOf g.N.OnDisk.disk g.A.Store.disk_of g.A.Store.represents (λ a b. g.A.Store.fails a t b) c.args.pass.now w in
    let since = λ (t : Trouble). comes_since g.N.OnDisk.disk g.A.Store.disk_of g.A.Store.represents (λ a b. g.A.Store.fails a t b) c.args.pass.now c.loop.pass w c.loop.invariant.since in
    let reported = ask_trouble P Q since c.in_err-answer.field-0.0 c.in_err-answer.ensures.trouble in
    subst (λ (r : Result (Option ChangedAnswer) AskError). IfErr r (OnAskTrouble Q)) (sym why.1) (subst (λ (e : AskError). OnAskTrouble Q e) (sym why.2) reported)

pub returns-clause-trouble : goal.returns-clause-trouble
returns-clause-trouble g c =
    let w = c.look-2.new.pass in
    let P = λ (t : Trouble). ComesOf g.N.OnDisk.disk g.A.Store.disk_of g.A.Store.represents (λ a b. g.A.Store.fails a t b) c.loop.pass w in
    let Q = λ (t : Trouble). ComesOf g.N.OnDisk.disk g.A.Store.disk_of g.A.Store.represents (λ a b. g.A.Store.fails a t b) c.args.pass.now w in
    let since = λ (t : Trouble). comes_since g.N.OnDisk.disk g.A.Store.disk_of g.A.Store.represents (λ a b. g.A.Store.fails a t b) c.args.pass.now c.loop.pass w c.loop.invariant.since in
    IfErr-weaker c.look-2.result (OnAskTrouble P) (OnAskTrouble Q) (λ e is. ask_trouble P Q since e is) c.look-2.ensures.trouble
