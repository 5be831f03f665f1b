-- In a sound world each step has an answer, and leads to a world.
use Rattle.std.proofs.Common.{◌≡◌, ℕ, zero, suc, ◌+◌, ◌<◌, ◌≤◌, ◌^◌, ◌⊎◌, List, [], ◌∷◌, ◌++◌, length, map, take, drop, false, refl, sym, ap, ◌∙◌, inl, inr, arith, subst, Some, None, Option}
use Rattle.std.specs.Prelude.{nat_lt}
use Rattle.std.specs.List.{AllByRecursion, slice_get, slice_set}
use Rattle.std.specs.Global.{Vec}
use Rattle.std.proofs.lemmas.Bool.{cases_Bool, cases_lt}
use Rattle.std.proofs.lemmas.List.{length-take}
use Rattle.std.proofs.lemmas.Option.{same_Some, none-some}
use denote.RawPtr.{null_ptr}
use Rattle.route_model.specs.Admission.{Admitted, IsChange}
use Rattle.route_meaning.specs.Holds.{admitted_time, time_of}
use Rattle.route_meaning.specs.Merged.{Placed, placed, all_placed}
use Rattle.route_meaning.specs.Events.{events}
use Rattle.route_meaning.specs.Rows.{most_rows}
use Rattle.route_meaning.specs.History.{Intake, History, IsIntake, IsHistory, IsBelowMarks, all_of, begun, waiting, applied, settled}
use Rattle.route_meaning.proofs.api.Settling.{all_take, all_drop, all_map_placed}
use Rattle.route_meaning.proofs.api.Sorting.{all_weaker, all_append, all_by_time}
use Rattle.route_meaning.proofs.api.There.{rows_there}
use Rattle.sequencer.specs.Late.{is_late, timely, lates}
use Rattle.sequencer.proofs.api.Setting.{one_there}
use Rattle.interleaving_core.specs.declared.query.Query.TheVariants.{Rows, Events}
use Rattle.interleaving_core.specs.declared.query.Answer.TheVariants.{Rows as RowsReported, Events as EventsReported}
use Rattle.interleaving_core.specs.declared.reply.BatchReply.{BatchReply}
use Rattle.interleaving_core.specs.declared.reply.Reply.{Reply}
use Rattle.interleaving_core.specs.declared.reply.Reply.TheVariants.{Taken, Marked, NoCollector, MarkBack, Applied, Idle, Flushed, Begun, Again, Done, AboveWatermark, NoQuestion, Crashed, Recovered, NeedsRecovery}
use Rattle.interleaving_core.specs.declared.step.Reach.{Reach}
use Rattle.interleaving_core.specs.declared.step.Reach.TheVariants.{UpTo, Further, End}
use Rattle.interleaving_core.specs.declared.step.Step.{Step}
use Rattle.interleaving_core.specs.declared.step.Step.TheVariants.{Admit, Mark, Apply, Flush, Begin, Turn, Crash, Recover}
use Rattle.interleaving_core.specs.declared.question.Question.{Question}
use Rattle.interleaving_core.specs.declared.question.Question.TheVariants.{OfRows, OfEvents, Ended}
use Rattle.interleaving_core.specs.Steps.{given, marked, moved, Applies, AppliesMore, NothingToApply}
use Rattle.interleaving_core.specs.World.{World, asked, started, created, with_history, with_questions, crashed}
use Rattle.interleaving_core.specs.Turns.{added_rows, come_to, added_events, IsDone, TakesTurn}
use Rattle.interleaving_core.specs.Does.{WhenUp, DoesAdmit, DoesMark, DoesApply, last_moment, IsInProgress, DoesTurn, Does, Runs, IsStep}
use Rattle.interleaving_core.proofs.NextChanges.{applies_part, applies_whole, nothing}
use Rattle.interleaving_core.proofs.Wholly.{does_turn}
use Rattle.interleaving_core.proofs.Sound.{IsSound, step_fine, created_sound}

-- a list that isn't too long, as a Vec
abbrev vec : {X : Type 0} (xs : List X) → length xs < 2 ^ 63 → Vec X
vec xs few = record { ptr = null_ptr; len = length xs; cap = length xs; alloc = record { memory = record { seal = tt } }; items = xs; ok = (refl, omega arith); small = few }

-- the reply of the step, and the world that it leads to
abbrev Answered : (Reply → World → Type 0) → Type 0
Answered Says = (reply : Reply) × (v : World) × Says reply v

found : (is : List Intake) (c : ℕ) → c < length is → (i : Intake) × (slice_get is c ≡ Some i)
found [] c lt = absurd (omega arith)
found (i ∷ is) zero lt = (i, refl)
found (i ∷ is) (suc c) lt = found is c (omega arith)

-- ---- batches and marks

few_lates : {X : Type 0} (f : X → ℕ) (mark : ℕ) (earlier : List ℕ) (i : ℕ) (xs : List X) → length (lates f mark earlier i xs) ≤ length xs
few_lates f mark earlier i [] = omega arith
few_lates f mark earlier i (x ∷ xs) =
    let rest = few_lates f mark (earlier ++ f x ∷ []) (i + 1) xs in
    elim (cases_Bool (is_late mark earlier (f x))) [
      | inl late ↦ rw late (omega (arith, rest))
      | inr in_time ↦ rw in_time (omega (arith, rest))
    ]

admit_answered : (w : World) (c : ℕ) (batch : Vec Admitted) → Answered (DoesAdmit w c batch.items)
admit_answered w c batch = elim (cases_lt c (length w.history.intakes)) [
  | inl lt ↦
      let at = found w.history.intakes c lt in
      let i = at.0 in
      let late = lates admitted_time i.mark [] 0 batch.items in
      let few : length late < 2 ^ 63 = omega (arith, few_lates admitted_time i.mark [] 0 batch.items, batch.ok.0, batch.ok.1, batch.small) in
      let reported : BatchReply = record {
        receipt = record { collector = c; from = length i.admitted; to = length i.admitted + length (timely admitted_time i.mark [] batch.items) };
        offered = i.offered + length batch.items;
        late = vec late few;
      } in
      (Taken reported, with_history w (given w.history c batch.items), record { intake = i; here = at.1; reply = record { collector = refl; from = refl; to = refl; offered = refl; late = refl }; after = refl })
  | inr ge ↦ (NoCollector, w, ((λ lt. absurd (omega (arith, ge, lt))), refl))
]

mark_answered : (w : World) (c mark : ℕ) → Answered (DoesMark w c mark)
mark_answered w c mark = elim (cases_lt c (length w.history.intakes)) [
  | inl lt ↦
      let at = found w.history.intakes c lt in
      elim (cases_lt mark at.0.mark) [
        | inl back ↦ (MarkBack, w, (record { intake = at.0; here = at.1; above = back }, refl))
        | inr on ↦ (
          Marked,
          with_history w (marked w.history c mark),
          (
            lt,
            (λ above. let same = one_there (slice_get w.history.intakes c) above.intake at.0 above.here at.1 in absurd (omega (arith, above.above, on, ap (λ (i : Intake). i.mark) same))),
            refl,
          ),
        )
      ]
  | inr ge ↦ (NoCollector, w, ((λ lt. absurd (omega (arith, ge, lt))), refl))
]

-- ---- applications

below_or_not : (t : ℕ) (is : List Intake) → AllByRecursion (λ i. t < i.mark) is ⊎ (AllByRecursion (λ i. t < i.mark) is → ⊥)
below_or_not t [] = inl tt
below_or_not t (i ∷ is) = elim (cases_lt t i.mark) [
  | inl lt ↦ elim (below_or_not t is) [ inl rest ↦ inl (lt, rest) | inr not ↦ inr (λ all. not all.1) ]
  | inr ge ↦ inr (λ all. let lt : t < i.mark = all.0 in absurd (omega (arith, ge, lt)))
]

next_or_none : (h : History) (ps : List (Placed Admitted)) → waiting h ≡ ps → ((g : History) × Applies h g) ⊎ NothingToApply h
next_or_none h [] e = inr (subst (AllByRecursion (λ p. IsBelowMarks h (time_of p) → ⊥)) (sym e) tt)
next_or_none h (next ∷ later) e = elim (below_or_not (time_of next) h.intakes) [
  | inl below ↦ elim (cases_lt (suc h.some) (length next.item.changes)) [
    | inl lt ↦ inl (moved h h.whole (suc h.some), applies_part h next later e below lt)
    | inr ge ↦ inl (moved h (suc h.whole) 0, applies_whole h next later e below ge)
  ]
  | inr never ↦ inr (nothing h next later e never)
]

more_applied : (n : ℕ) (h : History) → (g : History) × AppliesMore n h g
more_applied zero h = (h, refl)
more_applied (suc n) h = elim (next_or_none h (waiting h) refl) [
  | inl a ↦ let rest = more_applied n a.0 in (rest.0, inl (a.0, a.1, rest.1))
  | inr none ↦ (h, inr (none, refl))
]

apply_answered : (w : World) (more : ℕ) → Answered (DoesApply w more)
apply_answered w more = elim (next_or_none w.history (waiting w.history) refl) [
  | inl a ↦ let rest = more_applied more a.0 in (Applied, with_history w rest.0, record { first = a.0; last = rest.0; next = a.1; others = rest.1; after = refl })
  | inr none ↦ (Idle, w, (none, refl))
]

-- ---- turns

abbrev IsMade : Placed Admitted → Type 0
IsMade p = AllByRecursion IsChange p.item.changes

made_placed : (c : ℕ) (is : List Intake) → AllByRecursion IsIntake is → AllByRecursion IsMade (all_placed c (map (λ i. i.admitted) is))
made_placed c [] all = tt
made_placed c (i ∷ is) all =
    all_append IsMade (map (placed c) i.admitted) (all_placed (suc c) (map (λ j. j.admitted) is))
    (all_map_placed IsMade c i.admitted (all_weaker _ _ (λ a valid. valid.changes) i.admitted all.0.valid)) (made_placed (suc c) is all.1)

made_begun : (some : ℕ) (ps : List (Placed Admitted)) → AllByRecursion IsMade ps → AllByRecursion IsMade (begun some ps)
made_begun zero ps all = tt
made_begun (suc some) [] all = tt
made_begun (suc some) (p ∷ ps) all = (all_take IsChange (suc some) p.item.changes all.0, tt)

made_applied : (h : History) → IsHistory h → AllByRecursion IsMade (applied h)
made_applied h right =
    let all : AllByRecursion IsMade (all_of h) = all_by_time (λ p. p.item.time) IsMade (all_placed 0 (map (λ i. i.admitted) h.intakes)) (made_placed 0 h.intakes right.intakes) in
    all_append IsMade (take h.whole (all_of h)) (begun h.some (waiting h)) (all_take IsMade h.whole (all_of h) all) (made_begun h.some (waiting h) (all_drop IsMade h.whole (all_of h) all))

done_or_not : (reach : Reach) (count : ℕ) → IsDone reach count ⊎ (IsDone reach count → ⊥)
done_or_not End count = inl (inr refl)
done_or_not (UpTo spot) count = elim (cases_lt most_rows count) [
  | inl many ↦ inl (inl many)
  | inr few ↦ inr (λ done. elim done [ inl many ↦ absurd (omega (arith, few, many)) | inr end ↦ absurd (cc) ])
]
done_or_not (Further n) count = elim (cases_lt most_rows count) [
  | inl many ↦ inl (inl many)
  | inr few ↦ inr (λ done. elim done [ inl many ↦ absurd (omega (arith, few, many)) | inr end ↦ absurd (cc) ])
]

few_first : {X : Type 0} (xs : List X) → length (take most_rows xs) < 2 ^ 63
few_first xs = omega (arith, length-take most_rows xs)

takes_turn : (ps : List (Placed Admitted)) (reach : Reach) (q : Question) → AllByRecursion IsMade ps → IsInProgress q → (reply : Reply) × (new : Question) × TakesTurn ps reach q reply new
takes_turn ps reach (OfRows g) made on =
    let left = rows_there ps g.question.moment g.question.select g.low None made in
    let all = g.rows ++ added_rows g.low reach left.0 in
    elim (done_or_not reach (length all)) [
      | inl done ↦ (Done (RowsReported (record { rows = vec (take most_rows all) (few_first all); more = nat_lt most_rows (length all) })), Ended (Rows g.question), (left.0, left.1, (done, refl, refl, refl)))
      | inr open_ ↦ (Again, OfRows (record { question = g.question; low = come_to g.low reach; rows = all }), (left.0, left.1, (open_, refl)))
    ]
takes_turn ps reach (OfEvents g) made on =
    let all = g.events ++ added_events reach (drop (length g.events) (events ps g.question)) in
    elim (done_or_not reach (length all)) [
      | inl done ↦ (Done (EventsReported (record { events = vec (take most_rows all) (few_first all); more = nat_lt most_rows (length all) })), Ended (Events g.question), (done, refl, refl, refl))
      | inr open_ ↦ (Again, OfEvents (record { question = g.question; events = all }), (open_, refl))
    ]
takes_turn ps reach (Ended query) made on = absurd on

progress : (q : Question) → IsInProgress q ⊎ (IsInProgress q → ⊥)
progress (OfRows g) = inl tt
progress (OfEvents g) = inl tt
progress (Ended query) = inr (λ on. on)

turn_of : (w : World) (i : ℕ) (reach : Reach) (there : Option Question) → IsHistory w.history → slice_get w.questions i ≡ there → Answered (DoesTurn w i reach)
turn_of w i reach None right e = (NoQuestion, w, ((λ q at on. absurd (none-some q (sym e ∙ at))), refl))
turn_of w i reach (Some q) right e = elim (progress q) [
  | inl on ↦ elim (cases_lt (last_moment (asked q)) (settled w.history)) [
    | inl below ↦
        let turn = takes_turn (applied w.history) reach q (made_applied w.history right) on in
        let v = with_questions w (slice_set w.questions i turn.1) in
        (turn.0, v, does_turn w i reach turn.0 v (record { question = q; here = e; below = below; new = turn.1; turn = turn.2; after = refl }))
    | inr above ↦ (AboveWatermark (settled w.history), w, (record { question = q; here = e; in_progress = on; reported_is = refl; above = above }, refl))
  ]
  | inr ended ↦ (NoQuestion, w, ((λ p at on. let same : p ≡ q = same_Some p q (sym at ∙ e) in ended (subst IsInProgress same on)), refl))
]

-- ---- steps

when_up : (w : World) (Says : Reply → World → Type 0) → Answered Says → Answered (λ reply v. WhenUp w reply v (Says reply v))
when_up w Says a = elim (cases_Bool w.down) [
  | inl down ↦ (NeedsRecovery, w, inr (down, refl, refl))
  | inr up ↦ (a.0, a.1, inl (up, a.2))
]

pub step_answered : (w : World) (step : Step) → IsHistory w.history → Answered (Does w step)
step_answered w (Admit c batch) right = when_up w (DoesAdmit w c batch.items) (admit_answered w c batch)
step_answered w (Mark c mark) right = when_up w (DoesMark w c mark) (mark_answered w c mark)
step_answered w (Apply more) right = when_up w (DoesApply w more) (apply_answered w more)
step_answered w Flush right = when_up w (λ reply v. (reply ≡ Flushed) × (v ≡ w)) (Flushed, w, (refl, refl))
step_answered w (Begin query) right = (Begun (length w.questions), with_questions w (w.questions ++ started query ∷ []), (refl, refl))
step_answered w (Turn i reach) right = when_up w (DoesTurn w i reach) (turn_of w i reach (slice_get w.questions i) right refl)
step_answered w Crash right = (Crashed, crashed w, (refl, refl))
step_answered w Recover right = (Recovered, record { history = w.history; questions = w.questions; down = false }, (refl, refl))

-- any steps made of values are those of a run
run_from : (w : World) (steps : List Step) → IsSound w → AllByRecursion IsStep steps → (replies : List Reply) × (last : World) × Runs w steps replies last
run_from w [] sound valid = ([], w, refl)
run_from w (step ∷ steps) sound valid =
    let a = step_answered w step sound.history in
    let rest = run_from a.1 steps (step_fine w step a.0 a.1 valid.0 sound a.2).sound valid.1 in
    (a.0 ∷ rest.0, rest.1, (a.1, a.2, rest.2))

pub run_answered : (collectors : ℕ) (steps : List Step) → AllByRecursion IsStep steps → (replies : List Reply) × (last : World) × Runs (created collectors) steps replies last
run_answered collectors steps valid = run_from (created collectors) steps (created_sound collectors) valid
