use Rattle.std.proofs.Common.{IfOk, subst, sym}
use Rattle.route_meaning.specs.Changed.{IsChangedAnswer}
use Rattle.route_meaning.specs.History.{History, applied}
use Rattle.disk_archive.specs.Archives.{RepresentsIfHonest, IsHonest}
use Rattle.disk_calls.specs.Represented.{KeepsFrom}
use Rattle.disk_calls.proofs.keeping.changed_by.Goals as goal

pub returns-in-Some-clause-answered : goal.returns-in-Some-clause-answered
returns-in-Some-clause-answered g c =
    let a = c.args.archive.now in
    let q = c.args.question in
    subst (λ o. IfOk c.walk.result (λ answer. IsHonest a → (h : History) → RepresentsIfHonest a h → KeepsFrom a o → IsChangedAnswer (applied h) q answer.spots.items answer.more)) (sym c.in-Some.is) c.walk.ensures.answered

pub returns-in-Some-clause-reads : goal.returns-in-Some-clause-reads
returns-in-Some-clause-reads g c = λ honest h holds reads. c.walk.ensures.reads honest h holds (subst (λ o. KeepsFrom c.args.archive.now o) c.in-Some.is reads)
