use Rattle.std.proofs.Common.{IfOk, subst, sym}
use Rattle.route_meaning.specs.History.{History, applied}
use Rattle.interleaving_core.specs.Headline.{IsAnswered}
use Rattle.disk_archive.specs.Archives.{RepresentsIfHonest, IsHonest}
use Rattle.disk_calls.specs.Represented.{KeepsFrom}
use Rattle.disk_calls.proofs.Serving.{if_ok}
use Rattle.disk_calls.proofs.keeping.answer_by.Goals as goal

pub returns-in-Some-clause-answered : goal.returns-in-Some-clause-answered
returns-in-Some-clause-answered g c =
    let a = c.args.archive.now in
    subst (λ o. IfOk c.answer_with.result (λ answer. IsHonest a → (h : History) → RepresentsIfHonest a h → KeepsFrom a o → IsAnswered (applied h) c.args.query answer)) (sym c.in-Some.is) c.answer_with.ensures.answered

pub returns-in-None-clause-answered : goal.returns-in-None-clause-answered
returns-in-None-clause-answered g c =
    let a = c.args.archive.now in
    if_ok c.answer.result (λ answer. IsHonest a → (h : History) → RepresentsIfHonest a h → IsAnswered (applied h) c.args.query answer)
    (λ answer. IsHonest a → (h : History) → RepresentsIfHonest a h → KeepsFrom a c.args.reader.now → IsAnswered (applied h) c.args.query answer) (λ answer reported honest h holds _. reported honest h holds) c.answer.ensures.answered

pub returns-in-Some-clause-reads : goal.returns-in-Some-clause-reads
returns-in-Some-clause-reads g c = λ honest h holds reads. c.answer_with.ensures.reads honest h holds (subst (λ o. KeepsFrom c.args.archive.now o) c.in-Some.is reads)

pub returns-in-None-clause-reads : goal.returns-in-None-clause-reads
returns-in-None-clause-reads g c = λ honest h holds reads. subst (λ o. KeepsFrom c.answer.new.self o) (sym c.in-None.is) tt
