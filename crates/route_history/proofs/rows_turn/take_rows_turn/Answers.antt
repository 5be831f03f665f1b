use Rattle.std.proofs.Common.{◌≡◌, ℕ, List, sym, ap, ◌∙◌, subst, Result, Ok, Err, OnErr, Bool, Some, Option, IfSome, arith}
use Rattle.route_meaning.specs.declared.question.Row.{Row}
use Rattle.route_meaning.specs.declared.question.RowsQuestion.{RowsQuestion}
use Rattle.route_meaning.specs.Rows.{IsAnswer}
use Rattle.route_model.specs.Admission.{Admitted}
use Rattle.route_meaning.specs.Merged.{Placed}
use Rattle.version_model.specs.Versions.{Version}
use Rattle.version_model.specs.Looks.{IsReached}
use Rattle.tsb_walk.specs.Answers.{reached_as}
use Rattle.version_model.specs.Ranges.{IsPoint, range_of}
use Rattle.tsb_walk.specs.Looked.{GoesOnIn, IsLooked}
use Rattle.route_history.specs.Stamps.{last_stamp}
use Rattle.route_history.specs.Fronts.{number_at, front_number}
use Rattle.route_history.specs.Walks.{Reports, Gathered, HasLeapt}
use Rattle.route_history.proofs.KeyEnds.{key_below}
use Rattle.route_history.proofs.Taking.{takes_over}
use Rattle.route_history.proofs.Leapt.{leapt_none, leapt_gathered, leapt_under, rose_further, reported_turn, gathered_same, not_back}
use Rattle.route_history.proofs.rows_turn.take_rows_turn.Goals as goal

on_err : {V E : Type 0} (r : Result V E) (P : Type 0) → P → OnErr r P
on_err (Ok v) P p = tt
on_err (Err e) P p = p

pub returns-in_default-clause-turn : goal.returns-in_default-clause-turn
returns-in_default-clause-turn g c = λ blocks all ps represents_all t gathered.
    let h = subst (HasLeapt c.args.cursor.now c.leap.new.self) c.in_default.is c.leap.ensures.leapt in
    subst (λ (rows : List Row). IsAnswer ps c.args.cursor.now.question rows c.report.result.more) (sym c.report.ensures.rows)
    (subst (λ (more : Bool). IsAnswer ps c.args.cursor.now.question c.leap.new.self.rows.items more) (sym c.report.ensures.more)
    (leapt_none all ps c.args.cursor.now c.leap.new.self t gathered h))

pub returns-in_default-first-clause-turn : goal.returns-in_default-first-clause-turn
returns-in_default-first-clause-turn g c = λ blocks all ps represents_all t gathered.
    let h = subst (HasLeapt c.args.cursor.now c.leap.new.self) c.in-Some.is c.leap.ensures.leapt in
    let q = c.leap.new.self.question in
    let t' : Reports all ps q.moment = subst (λ (x : RowsQuestion). Reports all ps x.moment) (sym h.0) t in
    let under = leapt_under all ps c.args.cursor.now c.leap.new.self t gathered c.in-Some.front h in
    let end = c.first.ensures.end c.in_default-first.is in
    let whole : IsAnswer ps q c.leap.new.self.rows.items c.leap.new.self.more = takes_over all ps q t' (number_at c.in-Some.front) c.leap.new.self.ended c.leap.new.self.rows.items c.leap.new.self.more under (λ p x hp hx selected above low. (let lt = key_below p x hp hx in absurd (omega (arith, end, lt, low)))) in
    subst (λ (x : RowsQuestion). IsAnswer ps x c.report-in_default-first.result.rows.items c.report-in_default-first.result.more) h.0
    (subst (λ (rows : List Row). IsAnswer ps q rows c.report-in_default-first.result.more) (sym c.report-in_default-first.ensures.rows)
    (subst (λ (more : Bool). IsAnswer ps q c.leap.new.self.rows.items more) (sym c.report-in_default-first.ensures.more) whole))

pub returns-in_ok-take-in-Here-clause-turn : goal.returns-in_ok-take-in-Here-clause-turn
returns-in_ok-take-in-Here-clause-turn g c = λ blocks all ps represents_all t gathered.
    let q = c.leap.new.self.question in
    let h = subst (HasLeapt c.args.cursor.now c.leap.new.self) c.in-Some.is c.leap.ensures.leapt in
    let under = leapt_under all ps c.args.cursor.now c.leap.new.self t gathered c.in-Some.front h in
    let t' : Reports all ps q.moment = subst (λ (x : RowsQuestion). Reports all ps x.moment) (sym h.0) t in
    let at : c.in-Some-first.from ≡ number_at c.in-Some.front = subst (λ (o : Option ℕ). IfSome o (λ k. k ≡ number_at c.in-Some.front)) c.in-Some-first.is c.first.ensures.key in
    let looked = c.in_ok-reached.ensures.next blocks all represents_all in
    let here : IsReached all c.last_stamp.result c.in-Some-first.from (reached_as c.in-Here.reached) = subst (IsLooked blocks all c.in-Some-first.from c.last_stamp.result) c.in-Here.is looked in
    let reached : IsReached all (last_stamp q.moment) (number_at c.in-Some.front) (reached_as c.in-Here.reached) = subst (λ (n : ℕ). IsReached all (last_stamp q.moment) n (reached_as c.in-Here.reached)) at (subst (λ (s : ℕ). IsReached all s c.in-Some-first.from (reached_as c.in-Here.reached)) c.last_stamp.ensures here) in
    let taken = c.in_ok-take-in-Here.ensures.taken all ps t' under reached in
    reported_turn blocks all ps c.args.cursor.now c.take.new.self c.reported.new.self c.reported.result c.reported.ensures.reported taken.0 (c.take.ensures.question ∙ h.0)
    (rose_further c.args.cursor.now c.leap.new.self c.in-Some.front (front_number c.take.new.self.front) h taken.1)

pub returns-in-InBlock-clause-turn : goal.returns-in-InBlock-clause-turn
returns-in-InBlock-clause-turn g c = λ blocks all ps represents_all t gathered.
    let q = c.leap.new.self.question in
    let h = subst (HasLeapt c.args.cursor.now c.leap.new.self) c.in-Some.is c.leap.ensures.leapt in
    let at : c.in-Some-first.from ≡ number_at c.in-Some.front = subst (λ (o : Option ℕ). IfSome o (λ k. k ≡ number_at c.in-Some.front)) c.in-Some-first.is c.first.ensures.key in
    let looked : GoesOnIn blocks all c.in-Some-first.from c.last_stamp.result c.in-InBlock.place = subst (IsLooked blocks all c.in-Some-first.from c.last_stamp.result) c.in-InBlock.is (c.in_ok-reached.ensures.next blocks all represents_all) in (
      leapt_gathered all ps c.args.cursor.now c.leap.new.self t gathered c.in-Some.front h,
      h.0,
      record { here = ap front_number h.4 ∙ ap (λ (n : ℕ). Some n) (sym at); point = subst (λ (s : ℕ). IsPoint (range_of c.in-InBlock.place.bounds) c.in-Some-first.from s) c.last_stamp.ensures looked.point },
      looked.represents_all,
      not_back c.args.cursor.now c.leap.new.self c.in-Some.front h,
    )

pub returns-in_err-reached-clause-refused : goal.returns-in_err-reached-clause-refused
returns-in_err-reached-clause-refused g c =
    let kept : (all : List Version) (ps : List (Placed Admitted)) → Reports all ps c.args.cursor.now.question.moment → Gathered all ps c.args.cursor.now → Gathered all ps c.leap.new.self = λ all ps t gathered.
    leapt_gathered all ps c.args.cursor.now c.leap.new.self t gathered c.in-Some.front (subst (HasLeapt c.args.cursor.now c.leap.new.self) c.in-Some.is c.leap.ensures.leapt) in
    on_err _ _ kept

pub returns-in_err-take-in-Here-clause-refused : goal.returns-in_err-take-in-Here-clause-refused
returns-in_err-take-in-Here-clause-refused g c =
    let kept : (all : List Version) (ps : List (Placed Admitted)) → Reports all ps c.args.cursor.now.question.moment → Gathered all ps c.args.cursor.now → Gathered all ps c.take.new.self = λ all ps t gathered.
    gathered_same all ps c.leap.new.self c.take.new.self c.in_err-take-in-Here.ensures.same (leapt_gathered all ps c.args.cursor.now c.leap.new.self t gathered c.in-Some.front (subst (HasLeapt c.args.cursor.now c.leap.new.self) c.in-Some.is c.leap.ensures.leapt)) in
    on_err _ _ kept
