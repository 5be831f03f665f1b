use Rattle.std.proofs.Common.{◌≡◌, ◌∙◌, ap, subst, sym}
use Rattle.std.proofs.lemmas.Result.{IfErr-weaker}
use Rattle.std.specs.Prelude.{IsSome}
use Rattle.board.specs.Past.{Past, GoesOnAs}
use Rattle.board.specs.Views.{View, IsFrontOf}
use Rattle.query_threads.specs.Seeing.{ComesOf}
use Rattle.query_threads.specs.Troubles.{OnAskTrouble}
use Rattle.query_threads.specs.declared.refusal.Trouble.{Trouble}
use Rattle.query_threads.proofs.Reporting.{ask_trouble, comes_of}
use Rattle.query_threads.proofs.Representing.{stays_as}
use Rattle.query_threads.proofs.Readers.{among_later, same_disk}
use Rattle.query_threads.proofs.desk.Desk.look.Goals as goal

pub returns-clause-kept : goal.returns-clause-kept
returns-clause-kept g c named on among =
    let p = c.greet.new.pass.past in
    let archive = c.self.inside.archive in
    let is : c.self.inside.writer.past ≡ p = ap (λ (k : View). k.past) (c.self.view_is ∙ c.greet.ensures.same) ∙ sym c.greet.ensures.past in
    let represented = subst (λ (x : Past). g.A.Store.represents archive x) is (c.self.invariant.1 named).0 in
    let same = same_disk g.N.OnDisk.disk (g.A.Store.reads c.args.reader.now) (g.A.Store.disk_of archive) on (c.self.invariant.1 named).2 in
    c.look.ensures.kept p represented same (among_later c.args.pass.now c.greet.new.pass (g.A.Store.kept c.args.reader.now) c.greet.ensures.begins among)

pub returns-clause-walked : goal.returns-clause-walked
returns-clause-walked g c named on among walked =
    let p = c.greet.new.pass.past in
    let archive = c.self.inside.archive in
    let is : c.self.inside.writer.past ≡ p = ap (λ (k : View). k.past) (c.self.view_is ∙ c.greet.ensures.same) ∙ sym c.greet.ensures.past in
    let represented = subst (λ (x : Past). g.A.Store.represents archive x) is (c.self.invariant.1 named).0 in
    let same = same_disk g.N.OnDisk.disk (g.A.Store.reads c.args.reader.now) (g.A.Store.disk_of archive) on (c.self.invariant.1 named).2 in
    c.look.ensures.walked p represented same (among_later c.args.pass.now c.greet.new.pass (g.A.Store.kept c.args.reader.now) c.greet.ensures.begins among) walked

pub returns-clause-answer : goal.returns-clause-answer
returns-clause-answer g c named on among walked =
    let p = c.greet.new.pass.past in
    let archive = c.self.inside.archive in
    let is : c.self.inside.writer.past ≡ p = ap (λ (k : View). k.past) (c.self.view_is ∙ c.greet.ensures.same) ∙ sym c.greet.ensures.past in
    let represented = subst (λ (x : Past). g.A.Store.represents archive x) is (c.self.invariant.1 named).0 in
    let same = same_disk g.N.OnDisk.disk (g.A.Store.reads c.args.reader.now) (g.A.Store.disk_of archive) on (c.self.invariant.1 named).2 in
    c.look.ensures.answer p represented same (among_later c.args.pass.now c.greet.new.pass (g.A.Store.kept c.args.reader.now) c.greet.ensures.begins among) walked

pub returns-clause-reported : goal.returns-clause-reported
returns-clause-reported g c named on among =
    let p = c.greet.new.pass.past in
    let archive = c.self.inside.archive in
    let is : c.self.inside.writer.past ≡ p = ap (λ (k : View). k.past) (c.self.view_is ∙ c.greet.ensures.same) ∙ sym c.greet.ensures.past in
    let represented = subst (λ (x : Past). g.A.Store.represents archive x) is (c.self.invariant.1 named).0 in
    let same = same_disk g.N.OnDisk.disk (g.A.Store.reads c.args.reader.now) (g.A.Store.disk_of archive) on (c.self.invariant.1 named).2 in
    c.look.ensures.reported p represented same (among_later c.args.pass.now c.greet.new.pass (g.A.Store.kept c.args.reader.now) c.greet.ensures.begins among)

pub returns-clause-trouble : goal.returns-clause-trouble
returns-clause-trouble g c =
    let v = c.greet.new.pass in
    let p = v.past in
    let is : c.self.inside.writer.past ≡ p = ap (λ (k : View). k.past) (c.self.view_is ∙ c.greet.ensures.same) ∙ sym c.greet.ensures.past in
    let archive = c.self.inside.archive in
    let represented = λ (named : IsSome g.N.OnDisk.disk). subst (λ (x : Past). g.A.Store.represents archive x) is (c.self.invariant.1 named).0 in
    let front = subst (λ (x : Past). IsFrontOf x c.args.pass.now) (sym c.greet.ensures.past) c.greet.ensures.front in
    let then = c.look.new.self in
    let before : IsSome g.N.OnDisk.disk → (q : Past) × g.A.Store.represents archive q × IsFrontOf q c.args.pass.now × GoesOnAs q p = λ named. (p, represented named, front, stays_as p (g.met.A.Store.right archive p (represented named))) in
    let P = λ (t : Trouble). g.A.Store.fails archive t then in
    let Q = λ (t : Trouble). ComesOf g.N.OnDisk.disk g.A.Store.disk_of g.A.Store.represents (λ a b. g.A.Store.fails a t b) c.args.pass.now v in
    let comes = λ (t : Trouble). comes_of g.N.OnDisk.disk g.A.Store.disk_of g.A.Store.represents c.args.pass.now v archive then (λ named. (c.self.invariant.1 named).2) before (λ named. c.look.ensures.represents p (represented named)) (λ a b. g.A.Store.fails a t b) in
    IfErr-weaker c.look.result (OnAskTrouble P) (OnAskTrouble Q) (λ e t. ask_trouble P Q comes e t) c.look.ensures.trouble
