use Rattle.std.proofs.Common.{◌≡◌, ◌∙◌, ◌+◌, ◌<◌, ◌≤◌, suc, List, length, map, drop, get_or, refl, sym, ap, subst, arith}
use Rattle.std.specs.List.{AllByRecursion}
use Rattle.route_model.specs.Admission.{Admitted}
use Rattle.route_meaning.specs.Holds.{admitted_time, time_of}
use Rattle.route_meaning.specs.Merged.{Placed, merged}
use Rattle.route_meaning.specs.History.{Intake, History, IsBelowMarks, all_of}
use Rattle.interleaving_core.specs.Steps.{moved, Applies, NothingToApply}
use Rattle.interleaving_core.specs.World.{World, with_history}
use Rattle.interleaving_core.proofs.Machines.{world}
use Rattle.interleaving_core.proofs.NextChanges.{waits, applies_part, applies_whole, nothing}
use Rattle.interleaving_core.proofs.machine.Machine.apply_one.Goals as goal

pub returns-then-not-is_below_marks-clause-idle : goal.returns-then-not-is_below_marks-clause-idle
returns-then-not-is_below_marks-clause-idle c = λ same.
    let m = c.self.inside in
    let h : History = record { intakes = m.given.items; whole = m.whole; some = m.some } in
    let next = c.index-next.result.now in
    let all : c.in_ok-all.all.items ≡ all_of h = c.in_ok-all.ensures ∙ ap (λ (l : List Intake). merged admitted_time (map (λ (i : Intake). i.admitted) l)) c.deref.ensures.value in
    let there : next ≡ get_or (all_of h) m.whole next = c.index-next.ensures ∙ ap (λ (l : List (Placed Admitted)). get_or l m.whole next) all in
    let lt : m.whole < length (all_of h) = omega (arith, c.if-self-len.false, c.len.ensures, c.in_ok-all.all.ok.0, ap length all) in
    let here = waits m.whole (all_of h) next lt there in
    let never : IsBelowMarks h (time_of next) → ⊥ = λ below. (let e : IsBelowMarks h c.time.result = subst (λ t. IsBelowMarks h t) (sym c.time.ensures.time) below in
    let e' = subst (AllByRecursion (λ (i : Intake). c.time.result < i.mark)) (sym c.deref-2.ensures.value) e in absurd (let f = c.if-not-is_below_marks.ensures.1 e' in cc)) in
    (subst (λ (w : World). NothingToApply w.history) c.self.view_is (nothing h next (drop (suc m.whole) (all_of h)) here never), refl)

pub returns-then-saturating_sub-gt1-clause-applied : goal.returns-then-saturating_sub-gt1-clause-applied
returns-then-saturating_sub-gt1-clause-applied c = λ same.
    let m = c.self.inside in
    let h : History = record { intakes = m.given.items; whole = m.whole; some = m.some } in
    let next = c.index-next.result.now in
    let all : c.in_ok-all.all.items ≡ all_of h = c.in_ok-all.ensures ∙ ap (λ (l : List Intake). merged admitted_time (map (λ (i : Intake). i.admitted) l)) c.deref.ensures.value in
    let there : next ≡ get_or (all_of h) m.whole next = c.index-next.ensures ∙ ap (λ (l : List (Placed Admitted)). get_or l m.whole next) all in
    let lt : m.whole < length (all_of h) = omega (arith, c.if-self-len.false, c.len.ensures, c.in_ok-all.all.ok.0, ap length all) in
    let here = waits m.whole (all_of h) next lt there in
    let open_ = subst (AllByRecursion (λ (i : Intake). c.time.result < i.mark)) c.deref-2.ensures.value (c.if-not-is_below_marks.ensures.0 refl) in
    let below : IsBelowMarks h (time_of next) = subst (λ t. IsBelowMarks h t) c.time.ensures.time open_ in
    let count : length c.changes.result.now ≡ length next.item.changes = ap length c.changes.ensures.changes ∙ ap (λ (a : Admitted). length a.changes) c.admission.ensures.admission in
    let more : suc m.some < length next.item.changes = omega (arith, c.if-saturating_sub-gt1.true, c.saturating_sub.ensures, count) in
    subst (λ (w : World). (x : History) × Applies w.history x × (world m.given.items m.whole (m.some + 1) m.questions.items m.down ≡ with_history w x)) c.self.view_is
    (moved h m.whole (suc m.some), applies_part h next (drop (suc m.whole) (all_of h)) here below more, ap (λ n. world m.given.items m.whole n m.questions.items m.down) (let e : m.some + 1 ≡ suc m.some = omega arith in e))

pub returns-clause-applied : goal.returns-clause-applied
returns-clause-applied c = λ same.
    let m = c.self.inside in
    let h : History = record { intakes = m.given.items; whole = m.whole; some = m.some } in
    let next = c.index-next.result.now in
    let all : c.in_ok-all.all.items ≡ all_of h = c.in_ok-all.ensures ∙ ap (λ (l : List Intake). merged admitted_time (map (λ (i : Intake). i.admitted) l)) c.deref.ensures.value in
    let there : next ≡ get_or (all_of h) m.whole next = c.index-next.ensures ∙ ap (λ (l : List (Placed Admitted)). get_or l m.whole next) all in
    let lt : m.whole < length (all_of h) = omega (arith, c.if-self-len.false, c.len.ensures, c.in_ok-all.all.ok.0, ap length all) in
    let here = waits m.whole (all_of h) next lt there in
    let open_ = subst (AllByRecursion (λ (i : Intake). c.time.result < i.mark)) c.deref-2.ensures.value (c.if-not-is_below_marks.ensures.0 refl) in
    let below : IsBelowMarks h (time_of next) = subst (λ t. IsBelowMarks h t) c.time.ensures.time open_ in
    let count : length c.changes.result.now ≡ length next.item.changes = ap length c.changes.ensures.changes ∙ ap (λ (a : Admitted). length a.changes) c.admission.ensures.admission in
    let last : length next.item.changes ≤ suc m.some = omega (arith, c.if-saturating_sub-gt1.false, c.saturating_sub.ensures, count) in
    subst (λ (w : World). (x : History) × Applies w.history x × (world m.given.items (m.whole + 1) 0 m.questions.items m.down ≡ with_history w x)) c.self.view_is
    (moved h (suc m.whole) 0, applies_whole h next (drop (suc m.whole) (all_of h)) here below last, ap (λ n. world m.given.items n 0 m.questions.items m.down) (let e : m.whole + 1 ≡ suc m.whole = omega arith in e))
