use Rattle.std.proofs.Common.{rules, ◌≡◌, ◌<◌, ◌≤◌, ℕ, Option, Some, sym, subst, arith}
use Rattle.version_model.specs.Ranges.{high_or}
use Rattle.tsb_walk.specs.Touched.{AreTouched}
use Rattle.route_history.specs.Changes.{changed_end}
use Rattle.route_history.specs.Walks.{left_of}
use Rattle.tree_questions.proofs.Going.{less_keys}
use Rattle.tree_questions.proofs.changed_walk.changed_look.Goals as goal

pub returns-clause-changed : goal.returns-clause-changed
returns-clause-changed g c = λ all ps r t has.
    let high = high_or c.in_ok-touched.touched.high in
    let keys = c.in_ok-touched.touched.keys.items in
    let inside : c.in-Some.from < high = c.in_ok-touched.ensures.onward in
    let touched = c.in_ok-touched.ensures.keys all r in
    c.in_ok-take_keys.ensures.taken all ps c.in-Some.from c.in-Some.is t has (omega (arith, inside))
    (subst (λ (n : ℕ). AreTouched all n (changed_end c.args.cursor.now.question) c.in-Some.from high keys) c.first-first.ensures (subst (λ (n : ℕ). AreTouched all c.first-first.result n c.in-Some.from high keys) c.end-end.ensures touched))

pub returns-clause-onward : goal.returns-clause-onward
returns-clause-onward g c =
    let rose = c.in_ok-take_keys.ensures.rose c.in-Some.from c.in-Some.is c.in_ok-touched.ensures.onward in
    subst (λ (f : Option ℕ). left_of c.take_keys.new.self.front < left_of f) (sym c.in-Some.is) (less_keys (Some c.in-Some.from) c.take_keys.new.self.front c.in-Some.from (omega arith) rose c.key_fits.ensures.fits)

pub returns-in_err-touched-clause-blames : goal.returns-in_err-touched-clause-blames
returns-in_err-touched-clause-blames g c = λ all r.
    let b = c.touched_keys.ensures.blames all r in
    search (rules, b)
