use Rattle.std.proofs.Common.{◌≡◌, ℕ, ◌<◌, Option, Some, false, subst, sym, ◌∙◌, arith}
use Rattle.std.proofs.lemmas.Bool.{ltb-true, ltb-false}
use Rattle.route_model.specs.Keys.{key_number, session_number}
use Rattle.route_model.proofs.api.Keys.{session_below}
use Rattle.route_history.specs.Spans.{HasReported}
use Rattle.route_history.proofs.HistoryRounds.{begins, nothing}
use Rattle.route_history.proofs.events.EventsCursor.start.Goals as goal
use Rattle.route_history.proofs.events.EventsCursor.start.Goals.{then-is_empty, else-is_empty}

pub returns-clause-nothing : goal.returns-clause-nothing
returns-clause-nothing c = λ all ps t.
    let q = c.args.question in
    let below : session_number q.peer < key_number q.peer q.prefix = session_below q.peer q.prefix c.encoded_len-len.ensures.valid c.address-address.ensures.valid in
    let ne : key_number q.peer q.prefix ≡ session_number q.peer → ⊥ = λ e. omega (arith, e, below) in
    elim c.if-is_empty.branch [
      | then-is_empty w ↦ subst (λ (at : Option ℕ). HasReported all ps q at q.skip c.new.result.items false) (sym w.result-is) (nothing all ps q t ne c.new.result.items c.new.ensures.items ((let ge = ltb-false _ _ (sym c.is_before-is_empty.ensures ∙ w.if-is_empty.true) in omega (arith, ge, c.end_of.ensures.end, c.start_of-at.ensures))))
      | else-is_empty w ↦ subst (λ (at : Option ℕ). HasReported all ps q at q.skip c.new.result.items false) (sym w.result-is)
          (subst (λ (at : ℕ). HasReported all ps q (Some at) q.skip c.new.result.items false) (sym c.start_of-at.ensures) (begins all ps q t ne c.new.result.items c.new.ensures.items ((let lt = ltb-true _ _ (sym c.is_before-is_empty.ensures ∙ w.if-is_empty.false) in omega (arith, lt, c.end_of.ensures.end, c.start_of-at.ensures)))))
    ]
