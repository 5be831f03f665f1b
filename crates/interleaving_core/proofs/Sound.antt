-- Each step keeps the world sound, and each history begins the next one.
use Rattle.std.proofs.Common.{◌≡◌, ℕ, zero, suc, ◌≤◌, List, [], ◌∷◌, ◌++◌, length, map, false, refl, sym, ap, ◌∙◌, inl, inr, arith, subst, Some, length-append}
use Rattle.std.specs.List.{AllByRecursion, slice_get, slice_set}
use Rattle.std.proofs.lemmas.Bool.{cases_lt}
use Rattle.std.proofs.lemmas.Option.{same_Some, none-some}
use Rattle.route_model.specs.Admission.{Admitted, IsAdmission}
use Rattle.route_meaning.specs.History.{Intake, History, IsHistory, Begins}
use Rattle.route_model.specs.Moments.{last_mark}
use Rattle.route_meaning.proofs.api.Sorting.{all_weaker, all_append}
use Rattle.route_meaning.proofs.api.Beginning.{Begins-refl, Begins-trans}
use Rattle.sequencer.proofs.api.Setting.{all_at, all_set}
use Rattle.interleaving_core.specs.declared.query.Query.{Query}
use Rattle.interleaving_core.specs.declared.reply.Reply.{Reply}
use Rattle.interleaving_core.specs.declared.reply.Reply.TheVariants.{Taken, Marked, NoCollector, MarkBack, Applied, Idle, Again, Done, AboveWatermark, NoQuestion}
use Rattle.interleaving_core.specs.declared.step.Reach.{Reach}
use Rattle.interleaving_core.specs.declared.step.Step.{Step}
use Rattle.interleaving_core.specs.declared.step.Step.TheVariants.{Admit, Mark, Apply, Flush, Begin, Turn, Crash, Recover}
use Rattle.interleaving_core.specs.Steps.{given, marked, IsMarkAbove}
use Rattle.interleaving_core.specs.declared.question.Question.{Question}
use Rattle.interleaving_core.specs.World.{World, asked, started, ended, created, with_history, with_questions, crashed}
use Rattle.interleaving_core.specs.Does.{WhenUp, DoesAdmit, DoesMark, DoesApply, DoesTurn, Turns, Does, Runs, IsStep}
use Rattle.interleaving_core.proofs.api.GoingOn.{begins_marked, begins_applied}
use Rattle.interleaving_core.proofs.api.Right.{begins_given, right_given, right_marked, right_applied, right_empty, Goes, goes_more}
use Rattle.interleaving_core.proofs.Turning.{IsSoFar, started_so, so_far_later, turn_on}

-- the history is right, and each question is so far as it should be
pub record IsSound (w : World) : Type 0 where
  pub history : IsHistory w.history
  pub questions : AllByRecursion (IsSoFar w.history) w.questions

-- the question of this number stays the question of this number
abbrev pub StaysAsked : World → World → Type 0
StaysAsked w v = (i : ℕ) (q : Question) → slice_get w.questions i ≡ Some q → (r : Question) × (slice_get v.questions i ≡ Some r) × (asked r ≡ asked q)

pub record Fine (w v : World) : Type 0 where
  pub begins : Begins w.history v.history
  pub sound : IsSound v
  pub asks : StaysAsked w v
  pub grows : length w.questions ≤ length v.questions

pub fine_same : (w v : World) → v ≡ w → IsSound w → Fine w v
fine_same w v e sound = subst (Fine w) (sym e) (record { begins = Begins-refl w.history; sound = sound; asks = λ i q at. (q, at, refl); grows = omega arith })

pub fine_trans : (w m v : World) → Fine w m → Fine m v → Fine w v
fine_trans w m v a b = record {
  begins = Begins-trans w.history m.history v.history a.begins b.begins;
  sound = b.sound;
  asks = λ i q at. (let r = a.asks i q at in let s = b.asks i r.0 r.1 in (s.0, s.1, s.2 ∙ r.2));
  grows = omega (arith, a.grows, b.grows);
}

-- another history that goes on
fine_history : (w : World) (h : History) → IsSound w → Goes w.history h → Fine w (with_history w h)
fine_history w h sound goes = record {
  begins = goes.begins;
  sound = record { history = goes.right; questions = all_weaker _ _ (λ q so. so_far_later w.history h q goes.begins so) w.questions sound.questions };
  asks = λ i q at. (q, at, refl);
  grows = omega arith;
}

when_up : (w : World) (reply : Reply) (v : World) (Up : Type 0) → IsSound w → WhenUp w reply v Up → (Up → Fine w v) → Fine w v
when_up w reply v Up sound (inl up) fine = fine up.1
when_up w reply v Up sound (inr down) fine = fine_same w v down.2 sound

admit_fine : (w : World) (c : ℕ) (batch : List Admitted) (reply : Reply) (v : World) → AllByRecursion IsAdmission batch → IsSound w → DoesAdmit w c batch reply v → Fine w v
admit_fine w c batch (Taken reported) v valid sound d = subst (Fine w) (sym d.after) (fine_history w (given w.history c batch) sound (record { begins = begins_given w.history c batch; right = right_given w.history c batch valid sound.history }))
admit_fine w c batch NoCollector v valid sound d = fine_same w v d.1 sound
admit_fine w c batch _ v valid sound d = absurd d

pub not_back : (h : History) (c mark : ℕ) → (IsMarkAbove h c mark → ⊥) → (i : Intake) → slice_get h.intakes c ≡ Some i → i.mark ≤ mark
not_back h c mark back i here = elim (cases_lt mark i.mark) [ inl lt ↦ absurd (back (record { intake = i; here = here; above = lt })) | inr ge ↦ ge ]

mark_fine : (w : World) (c mark : ℕ) (reply : Reply) (v : World) → mark ≤ last_mark → IsSound w → DoesMark w c mark reply v → Fine w v
mark_fine w c mark Marked v low sound d = subst (Fine w) (sym d.2) (fine_history w (marked w.history c mark) sound (record { begins = begins_marked w.history c mark d.1; right = right_marked w.history c mark (not_back w.history c mark d.1) low sound.history }))
mark_fine w c mark NoCollector v low sound d = fine_same w v d.1 sound
mark_fine w c mark MarkBack v low sound d = fine_same w v d.1 sound
mark_fine w c mark _ v low sound d = absurd d

apply_fine : (w : World) (more : ℕ) (reply : Reply) (v : World) → IsSound w → DoesApply w more reply v → Fine w v
apply_fine w more Applied v sound d =
    let rest = goes_more more d.first d.last (right_applied w.history d.first sound.history d.next) d.others in
    subst (Fine w) (sym d.after) (fine_history w d.last sound (record { begins = Begins-trans w.history d.first d.last (begins_applied w.history d.first d.next) rest.begins; right = rest.right }))
apply_fine w more Idle v sound d = fine_same w v d.1 sound
apply_fine w more _ v sound d = absurd d

-- ---- questions

pub get_push : (xs : List Question) (y : Question) (i : ℕ) (x : Question) → slice_get xs i ≡ Some x → slice_get (xs ++ y ∷ []) i ≡ Some x
get_push [] y i x at = absurd (none-some x at)
get_push (z ∷ xs) y zero x at = at
get_push (z ∷ xs) y (suc i) x at = get_push xs y i x at

pub get_pushed : (xs : List Question) (y : Question) → slice_get (xs ++ y ∷ []) (length xs) ≡ Some y
get_pushed [] y = refl
get_pushed (z ∷ xs) y = get_pushed xs y

pub length_set : (xs : List Question) (i : ℕ) (y : Question) → length (slice_set xs i y) ≡ length xs
length_set [] i y = refl
length_set (x ∷ xs) zero y = refl
length_set (x ∷ xs) (suc i) y = ap suc (length_set xs i y)

-- after one question is set, each number has the same question as before, or one that asks the same
set_asks : (xs : List Question) (i j : ℕ) (x y q : Question) → slice_get xs i ≡ Some x → asked y ≡ asked x → slice_get xs j ≡ Some q → (r : Question) × (slice_get (slice_set xs i y) j ≡ Some r) × (asked r ≡ asked q)
set_asks [] i j x y q here same at = absurd (none-some q at)
set_asks (z ∷ xs) zero zero x y q here same at = (y, refl, same ∙ ap asked (sym (same_Some z x here)) ∙ ap asked (same_Some z q at))
set_asks (z ∷ xs) zero (suc j) x y q here same at = (q, at, refl)
set_asks (z ∷ xs) (suc i) zero x y q here same at = (q, at, refl)
set_asks (z ∷ xs) (suc i) (suc j) x y q here same at = set_asks xs i j x y q here same at

fine_turn : (w : World) (i : ℕ) (reach : Reach) (reply : Reply) (v : World) → IsSound w → Turns w i reach reply v → Fine w v
fine_turn w i reach reply v sound t =
    let so = all_at (IsSoFar w.history) w.questions i t.question sound.questions t.here in
    let on = turn_on w.history reach t.question t.new reply sound.history t.below so t.turn in
    subst (Fine w) (sym t.after) (record {
      begins = Begins-refl w.history;
      sound = record { history = sound.history; questions = all_set (IsSoFar w.history) w.questions i t.new sound.questions on.so };
      asks = λ j q at. set_asks w.questions i j t.question t.new q t.here on.same at;
      grows = omega (arith, length_set w.questions i t.new);
    })

turn_fine : (w : World) (i : ℕ) (reach : Reach) (reply : Reply) (v : World) → IsSound w → DoesTurn w i reach reply v → Fine w v
turn_fine w i reach Again v sound d = fine_turn w i reach Again v sound d
turn_fine w i reach (Done answer) v sound d = fine_turn w i reach (Done answer) v sound d
turn_fine w i reach (AboveWatermark reported) v sound d = fine_same w v d.1 sound
turn_fine w i reach NoQuestion v sound d = fine_same w v d.1 sound
turn_fine w i reach _ v sound d = absurd d

begin_fine : (w : World) (query : Query) → IsSound w → Fine w (with_questions w (w.questions ++ started query ∷ []))
begin_fine w query sound = record {
  begins = Begins-refl w.history;
  sound = record { history = sound.history; questions = all_append (IsSoFar w.history) w.questions (started query ∷ []) sound.questions (started_so w.history query, tt) };
  asks = λ i q at. (q, get_push w.questions (started query) i q at, refl);
  grows = omega (arith, length-append w.questions (started query ∷ []));
}

all_ended : (h : History) (qs : List Question) → AllByRecursion (IsSoFar h) (map ended qs)
all_ended h [] = tt
all_ended h (q ∷ qs) = (tt, all_ended h qs)

ended_asks : (qs : List Question) (i : ℕ) (q : Question) → slice_get qs i ≡ Some q → (r : Question) × (slice_get (map ended qs) i ≡ Some r) × (asked r ≡ asked q)
ended_asks [] i q at = absurd (none-some q at)
ended_asks (z ∷ qs) zero q at = (ended z, refl, ap asked (same_Some z q at))
ended_asks (z ∷ qs) (suc i) q at = ended_asks qs i q at

pub ended_length : (qs : List Question) → length (map ended qs) ≡ length qs
ended_length [] = refl
ended_length (q ∷ qs) = ap suc (ended_length qs)

crash_fine : (w : World) → IsSound w → Fine w (crashed w)
crash_fine w sound = record {
  begins = Begins-refl w.history;
  sound = record { history = sound.history; questions = all_ended w.history w.questions };
  asks = λ i q at. ended_asks w.questions i q at;
  grows = omega (arith, ended_length w.questions);
}

recover_fine : (w : World) → IsSound w → Fine w (record { history = w.history; questions = w.questions; down = false })
recover_fine w sound = record { begins = Begins-refl w.history; sound = record { history = sound.history; questions = sound.questions }; asks = λ i q at. (q, at, refl); grows = omega arith }

pub step_fine : (w : World) (step : Step) (reply : Reply) (v : World) → IsStep step → IsSound w → Does w step reply v → Fine w v
step_fine w (Admit c batch) reply v valid sound d = when_up w reply v _ sound d (λ up. admit_fine w c batch.items reply v valid sound up)
step_fine w (Mark c mark) reply v valid sound d = when_up w reply v _ sound d (λ up. mark_fine w c mark reply v valid sound up)
step_fine w (Apply more) reply v valid sound d = when_up w reply v _ sound d (λ up. apply_fine w more reply v sound up)
step_fine w Flush reply v valid sound d = when_up w reply v _ sound d (λ up. fine_same w v up.1 sound)
step_fine w (Begin query) reply v valid sound d = subst (Fine w) (sym d.1) (begin_fine w query sound)
step_fine w (Turn i reach) reply v valid sound d = when_up w reply v _ sound d (λ up. turn_fine w i reach reply v sound up)
step_fine w Crash reply v valid sound d = subst (Fine w) (sym d.1) (crash_fine w sound)
step_fine w Recover reply v valid sound d = subst (Fine w) (sym d.1) (recover_fine w sound)

pub run_fine : (w v : World) (steps : List Step) (replies : List Reply) → AllByRecursion IsStep steps → IsSound w → Runs w steps replies v → Fine w v
run_fine w v [] [] valid sound run = fine_same w v run sound
run_fine w v [] (r ∷ rs) valid sound run = absurd run
run_fine w v (s ∷ ss) [] valid sound run = absurd run
run_fine w v (s ∷ ss) (r ∷ rs) valid sound run =
    let first = step_fine w s r run.0 valid.0 sound run.1 in
    fine_trans w run.0 v first (run_fine run.0 v ss rs valid.1 first.sound run.2)

pub created_sound : (n : ℕ) → IsSound (created n)
created_sound n = record { history = right_empty n; questions = tt }
