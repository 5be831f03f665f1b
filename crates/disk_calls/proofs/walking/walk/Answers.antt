use Rattle.std.proofs.Common.{rules, ◌≡◌, ◌<◌, ◌≤◌, ◌∙◌, Option, Err, IfSome, refl, subst}
use Rattle.std.specs.Prelude.{IfNone}
use Rattle.route_meaning.specs.declared.question.ChangedAnswer.{ChangedAnswer}
use Rattle.route_meaning.specs.declared.question.ChangedQuestion.{ChangedQuestion}
use Rattle.route_meaning.specs.Changed.{IsChangedAnswer}
use Rattle.route_meaning.specs.History.{applied, settled}
use Rattle.route_history.specs.Walks.{left_of}
use Rattle.disk_archive.specs.declared.ask_error.AskError.TheVariants as asks
use Rattle.disk_archive.specs.Cursors.{IsWalked}
use Rattle.disk_calls.proofs.walking.walk.Goals as goal

pub looks-init : goal.looks-init
looks-init g c = record {
  question = c.start_walk-cursor.ensures.question;
  walked = λ honest h holds from. c.start_walk-cursor.ensures.walked h;
  holds = λ h holds. holds;
  reads = λ honest h holds from. from;
  honest = (λ k. k, λ k. k);
  settings = refl;
}

pub looks-preserved : goal.looks-preserved
looks-preserved g c =
    let i = c.looks.invariant in
    let e = c.changed_look.ensures in
    record {
      question = e.question ∙ i.question;
      walked = λ honest h holds from.
          let found = c.in_ok-answer.ensures.walked (i.honest.0 honest) h (i.holds h holds) (i.reads honest h holds from) (i.walked honest h holds from) in
          subst (λ (o : Option ChangedAnswer). IfNone o (IsWalked c.changed_look.new.cursor h)) c.in_default.is found;
      holds = λ h holds. e.leaves.holds h (i.holds h holds);
      reads = λ honest h holds from. e.reads (i.honest.0 honest) h (i.holds h holds) (i.reads honest h holds from);
      honest = (λ k. e.leaves.honest.0 (i.honest.0 k), λ k. i.honest.1 (e.leaves.honest.1 k));
      settings = e.leaves.settings ∙ i.settings;
    }

pub looks-smaller : goal.looks-smaller
looks-smaller g c = subst (λ (o : Option ChangedAnswer). IfNone o (left_of c.changed_look.new.cursor.front < left_of c.looks.cursor.front)) c.in_default.is c.in_ok-answer.ensures.onward

pub returns-in-Some-clause-answered : goal.returns-in-Some-clause-answered
returns-in-Some-clause-answered g c = λ honest h holds from.
    let i = c.looks.invariant in
    let found = c.in_ok-answer.ensures.answer (i.honest.0 honest) h (i.holds h holds) (i.reads honest h holds from) (i.walked honest h holds from) in
    let answer = subst (λ (o : Option ChangedAnswer). IfSome o (λ answer. IsChangedAnswer (applied h) c.looks.cursor.question answer.spots.items answer.more)) c.in-Some.is found in
    subst (λ (q : ChangedQuestion). IsChangedAnswer (applied h) q c.in-Some.answer.spots.items c.in-Some.answer.more) i.question answer

pub returns-in-Some-clause-below : goal.returns-in-Some-clause-below
returns-in-Some-clause-below g c = λ honest h holds.
    let i = c.looks.invariant in
    subst (λ (q : ChangedQuestion). q.to < settled h) i.question (c.in_ok-answer.ensures.below (i.honest.0 honest) h (i.holds h holds))

pub returns-in-Some-clause-reads : goal.returns-in-Some-clause-reads
returns-in-Some-clause-reads g c = λ honest h holds from.
    let i = c.looks.invariant in
    c.changed_look.ensures.reads (i.honest.0 honest) h (i.holds h holds) (i.reads honest h holds from)

pub returns-in-Some-clause-holds : goal.returns-in-Some-clause-holds
returns-in-Some-clause-holds g c = λ h holds. c.changed_look.ensures.leaves.holds h (c.looks.invariant.holds h holds)

pub returns-in_err-answer-clause-holds : goal.returns-in_err-answer-clause-holds
returns-in_err-answer-clause-holds g c = λ h holds. c.changed_look.ensures.leaves.holds h (c.looks.invariant.holds h holds)

pub returns-in_err-answer-clause-above : goal.returns-in_err-answer-clause-above
returns-in_err-answer-clause-above g c = λ honest h holds mark reported.
    let i = c.looks.invariant in
    let was : c.changed_look.result ≡ Err (asks.AboveWatermark mark) = search (rules, reported) in
    let f = (c.changed_look.ensures.above (i.honest.0 honest) h (i.holds h holds) mark).0 was in
    (f.1, subst (λ (q : ChangedQuestion). settled h ≤ q.to) i.question f.2)
