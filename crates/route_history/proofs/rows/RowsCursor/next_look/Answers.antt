use Rattle.std.proofs.Common.{◌≡◌, ℕ, sym, ap, ◌∙◌, arith, subst, Some, Option, IfSome}
use Rattle.route_meaning.specs.declared.question.RowsQuestion.{RowsQuestion}
use Rattle.route_history.specs.Fronts.{number_at, front_number}
use Rattle.route_history.specs.Walks.{Reports, HasLeapt, NotBack}
use Rattle.route_history.proofs.KeyEnds.{key_below}
use Rattle.route_history.proofs.Taking.{takes_over}
use Rattle.route_history.proofs.Leapt.{leapt_over, leapt_gathered, leapt_under, not_back}
use Rattle.route_history.proofs.rows.RowsCursor.next_look.Goals as goal

pub returns-in_default-clause-gathered : goal.returns-in_default-clause-gathered
returns-in_default-clause-gathered c = λ all ps t gathered.
    let h = subst (HasLeapt c.args.self.now c.leap.new.self) c.in_default.is c.leap.ensures.leapt in
    leapt_over all ps c.args.self.now c.leap.new.self t gathered h

pub returns-in_default-clause-over : goal.returns-in_default-clause-over
returns-in_default-clause-over c = λ none.
    let h = subst (HasLeapt c.args.self.now c.leap.new.self) c.in_default.is c.leap.ensures.leapt in
    h.3

pub returns-in_default-first-clause-gathered : goal.returns-in_default-first-clause-gathered
returns-in_default-first-clause-gathered c = λ all ps t gathered.
    let h = subst (HasLeapt c.args.self.now c.leap.new.self) c.in-Some.is c.leap.ensures.leapt in
    let q = c.leap.new.self.question in
    let t' : Reports all ps q.moment = subst (λ (x : RowsQuestion). Reports all ps x.moment) (sym h.0) t in
    let under = leapt_under all ps c.args.self.now c.leap.new.self t gathered c.in-Some.front h in
    let end = c.first.ensures.end c.in_default-first.is in
    takes_over all ps q t' (number_at c.in-Some.front) c.leap.new.self.ended c.leap.new.self.rows.items c.leap.new.self.more under (λ p x hp hx selected above low. (let lt = key_below p x hp hx in absurd (omega (arith, end, lt, low))))

pub returns-clause-gathered : goal.returns-clause-gathered
returns-clause-gathered c = λ all ps t gathered.
    let h = subst (HasLeapt c.args.self.now c.leap.new.self) c.in-Some.is c.leap.ensures.leapt in
    leapt_gathered all ps c.args.self.now c.leap.new.self t gathered c.in-Some.front h

pub returns-clause-from : goal.returns-clause-from
returns-clause-from c =
    let h = subst (HasLeapt c.args.self.now c.leap.new.self) c.in-Some.is c.leap.ensures.leapt in
    let at : c.in-Some-first.from ≡ number_at c.in-Some.front = subst (λ (o : Option ℕ). IfSome o (λ k. k ≡ number_at c.in-Some.front)) c.in-Some-first.is c.first.ensures.key in
    ap front_number h.4 ∙ ap (λ (n : ℕ). Some n) (sym at)

pub returns-clause-onward : goal.returns-clause-onward
returns-clause-onward c =
    let h = subst (HasLeapt c.args.self.now c.leap.new.self) c.in-Some.is c.leap.ensures.leapt in
    let at : c.in-Some-first.from ≡ number_at c.in-Some.front = subst (λ (o : Option ℕ). IfSome o (λ k. k ≡ number_at c.in-Some.front)) c.in-Some-first.is c.first.ensures.key in
    subst (λ (o : Option ℕ). NotBack (front_number c.args.self.now.front) o) (ap front_number h.4 ∙ ap (λ (n : ℕ). Some n) (sym at)) (not_back c.args.self.now c.leap.new.self c.in-Some.front h)
