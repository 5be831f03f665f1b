-- What was taken stands in the history at the end, and nothing else does.
use Rattle.std.proofs.Common.{◌≡◌, ℕ, zero, suc, List, [], ◌∷◌, ◌++◌, length, map, take, drop, replicate, true, false, ◌==◌, refl, sym, ap, ◌∙◌, inl, inr, subst, Some, append-nil, append_assoc, cond, ◌+◌, arith, length-append, ◌≤◌}
use Rattle.std.specs.List.{AllByRecursion, AllZip, slice_get}
use Rattle.std.proofs.lemmas.Bool.{cases_Bool, eqb-true, eq-eqb, cases_lt}
use Rattle.std.proofs.lemmas.Option.{same_Some, none-some}
use Rattle.route_model.specs.Admission.{Admitted}
use Rattle.route_meaning.specs.Holds.{admitted_time}
use Rattle.route_meaning.proofs.api.Settling.{all_take, all_drop}
use Rattle.route_meaning.specs.History.{Intake, History, GoesOn, floor, Begins}
use Rattle.sequencer.specs.Late.{greatest, timely, lates}
use Rattle.sequencer.proofs.api.Sieving.{greatest-push}
use Rattle.sequencer.proofs.api.Setting.{all_at, one_there}
use Rattle.interleaving_core.specs.declared.reply.BatchReply.{BatchReply}
use Rattle.interleaving_core.specs.declared.reply.Reply.{Reply}
use Rattle.interleaving_core.specs.declared.reply.Reply.TheVariants.{Taken, Marked, NoCollector, MarkBack, Applied, Idle, Again, Done, AboveWatermark, NoQuestion, NeedsRecovery}
use Rattle.interleaving_core.specs.declared.step.Step.{Step}
use Rattle.interleaving_core.specs.declared.step.Step.TheVariants.{Admit, Mark, Apply, Flush, Begin, Turn, Crash, Recover}
use Rattle.interleaving_core.specs.Steps.{changed, with_batch, with_mark, given, marked, IsMarkAbove, Applies, AppliesMore}
use Rattle.interleaving_core.specs.World.{World, created}
use Rattle.interleaving_core.specs.Does.{WhenUp, Admits, DoesAdmit, Does, Runs, IsStep}
use Rattle.interleaving_core.specs.Headline.{reported_by, reported_of, taken_by, taken_of, offered_by, offered_of, IsRecorded, IsKept, IsGiven}
use Rattle.interleaving_core.proofs.Sound.{not_back, step_fine, run_fine, created_sound}
use Rattle.interleaving_core.proofs.Places.{split}
use Rattle.interleaving_core.proofs.Lateness.{greatest-append, timely_reported, lates_reported}

-- ---- one collector's intake

changed_here : (c : ℕ) (f : Intake → Intake) (is : List Intake) (i : Intake) → slice_get is c ≡ Some i → slice_get (changed c f is) c ≡ Some (f i)
changed_here c f [] i at = absurd (none-some i at)
changed_here zero f (j ∷ is) i at = ap (λ (x : Intake). Some (f x)) (same_Some j i at)
changed_here (suc c) f (j ∷ is) i at = changed_here c f is i at

changed_elsewhere : (d c : ℕ) (f : Intake → Intake) (is : List Intake) → (d ≡ c → ⊥) → slice_get (changed d f is) c ≡ slice_get is c
changed_elsewhere d c f [] ne = refl
changed_elsewhere zero zero f (i ∷ is) ne = absurd (ne refl)
changed_elsewhere zero (suc c) f (i ∷ is) ne = refl
changed_elsewhere (suc d) zero f (i ∷ is) ne = refl
changed_elsewhere (suc d) (suc c) f (i ∷ is) ne = changed_elsewhere d c f is (λ e. ne (ap suc e))

-- the collector's intake later
record Later (js : List Intake) (c : ℕ) (i : Intake) : Type 0 where
  intake : Intake
  here : slice_get js c ≡ Some intake
  goes : GoesOn (floor i) i intake

later : (is js : List Intake) (c : ℕ) (i : Intake) → AllZip (λ i j. GoesOn (floor i) i j) is js → slice_get is c ≡ Some i → Later js c i
later [] js c i z at = absurd (none-some i at)
later (k ∷ is) [] c i z at = absurd z
later (k ∷ is) (j ∷ js) zero i z at = record { intake = j; here = refl; goes = subst (λ (l : Intake). GoesOn (floor l) l j) (same_Some k i at) z.0 }
later (k ∷ is) (j ∷ js) (suc c) i z at = (let l = later is js c i z.1 at in record { intake = l.intake; here = l.here; goes = l.goes })

earlier : (is js : List Intake) (c : ℕ) (j : Intake) → AllZip (λ i j. GoesOn (floor i) i j) is js → slice_get js c ≡ Some j → (i : Intake) × (slice_get is c ≡ Some i)
earlier is [] c j z at = absurd (none-some j at)
earlier [] (k ∷ js) c j z at = absurd z
earlier (i ∷ is) (k ∷ js) zero j z at = (i, refl)
earlier (i ∷ is) (k ∷ js) (suc c) j z at = earlier is js c j z.1 at

-- ---- what the steps gave

-- the collector's intake after a step that offered some, added these, and gave these times and marks after the earlier ones
record After (h : History) (c : ℕ) (i : Intake) (added : List Admitted) (earlier reported : List ℕ) (offered : List Admitted) : Type 0 where
  intake : Intake
  here : slice_get h.intakes c ≡ Some intake
  admitted : intake.admitted ≡ i.admitted ++ added
  mark_is : intake.mark ≡ greatest 0 (earlier ++ reported)
  offered_is : intake.offered ≡ i.offered + length offered

-- the mark of the intake is the greatest of the times and marks given
abbrev IsReported : Intake → List ℕ → Type 0
IsReported i earlier = i.mark ≡ greatest 0 earlier

reported_nothing : (i : Intake) (earlier : List ℕ) → IsReported i earlier → i.mark ≡ greatest 0 (earlier ++ [])
reported_nothing i earlier is = is ∙ ap (greatest 0) (sym (append-nil earlier))

same_after : (h g : History) (c : ℕ) (i : Intake) (earlier : List ℕ) → IsReported i earlier → g.intakes ≡ h.intakes → slice_get h.intakes c ≡ Some i → After g c i [] earlier [] []
same_after h g c i earlier is e at = record { intake = i; here = ap (λ (l : List Intake). slice_get l c) e ∙ at; admitted = sym (append-nil i.admitted); mark_is = reported_nothing i earlier is; offered_is = omega arith }

same_world : (w v : World) (c : ℕ) (i : Intake) (earlier : List ℕ) → IsReported i earlier → v ≡ w → slice_get w.history.intakes c ≡ Some i → After v.history c i [] earlier [] []
same_world w v c i earlier is e at = same_after w.history v.history c i earlier is (ap (λ (x : World). x.history.intakes) e) at

applies_same : (h g : History) → Applies h g → g.intakes ≡ h.intakes
applies_same h g a = elim (cases_lt (suc h.some) (length a.next.item.changes)) [
  | inl lt ↦ ap (λ (x : History). x.intakes) (a.part lt)
  | inr ge ↦ ap (λ (x : History). x.intakes) (a.whole ge)
]

more_same : (n : ℕ) (h g : History) → AppliesMore n h g → g.intakes ≡ h.intakes
more_same zero h g e = ap (λ (x : History). x.intakes) e
more_same (suc n) h g (inl a) = more_same n a.0 g a.2 ∙ applies_same h a.0 a.1
more_same (suc n) h g (inr none) = ap (λ (x : History). x.intakes) none.1

not_same : (d c : ℕ) → (d == c) ≡ false → d ≡ c → ⊥
not_same d c e same = absurd (let f : true ≡ false = sym (eq-eqb d c same) ∙ e in cc)

batch_after : (w : World) (d c : ℕ) (batch : List Admitted) (i : Intake) (earlier : List ℕ) → IsReported i earlier → slice_get w.history.intakes c ≡ Some i
    → After (given w.history d batch) c i (cond (d == c) (timely admitted_time 0 earlier batch) []) earlier (cond (d == c) (map admitted_time batch) []) (cond (d == c) batch [])
batch_after w d c batch i earlier is at = elim (cases_Bool (d == c)) [
  | inl e ↦ rw e (let same : d ≡ c = eqb-true d c e in record {
    intake = with_batch batch i;
    here = ap (λ (n : ℕ). slice_get (changed n (with_batch batch) w.history.intakes) c) same ∙ changed_here c (with_batch batch) w.history.intakes i at;
    admitted = ap (λ (l : List Admitted). i.admitted ++ l) (ap (λ (m : ℕ). timely admitted_time m [] batch) is ∙ timely_reported admitted_time earlier batch);
    mark_is = ap (λ (m : ℕ). greatest m (map admitted_time batch)) is ∙ sym (greatest-append 0 earlier (map admitted_time batch));
    offered_is = refl;
  })
  | inr e ↦ rw e (record {
    intake = i;
    here = changed_elsewhere d c (with_batch batch) w.history.intakes (not_same d c e) ∙ at;
    admitted = sym (append-nil i.admitted);
    mark_is = reported_nothing i earlier is;
    offered_is = omega arith;
  })
]

-- a mark that isn't below the one before is the greatest
mark_reported : (mark m : ℕ) (earlier : List ℕ) → m ≡ greatest 0 earlier → m ≤ mark → mark ≡ greatest 0 (earlier ++ mark ∷ [])
mark_reported mark m earlier is le = omega (arith, is, le, greatest-push 0 earlier mark)

mark_after_is : (w : World) (d c mark : ℕ) (i : Intake) (earlier : List ℕ) → IsReported i earlier → (IsMarkAbove w.history d mark → ⊥) → slice_get w.history.intakes c ≡ Some i
    → After (marked w.history d mark) c i [] earlier (cond (d == c) (mark ∷ []) []) []
mark_after_is w d c mark i earlier is back at = elim (cases_Bool (d == c)) [
  | inl e ↦ rw e (let same : d ≡ c = eqb-true d c e in record {
    intake = with_mark mark i;
    here = ap (λ (n : ℕ). slice_get (changed n (with_mark mark) w.history.intakes) c) same ∙ changed_here c (with_mark mark) w.history.intakes i at;
    admitted = sym (append-nil i.admitted);
    mark_is = mark_reported mark i.mark earlier is (not_back w.history d mark back i (ap (slice_get w.history.intakes) same ∙ at));
    offered_is = omega arith;
  })
  | inr e ↦ rw e (record {
    intake = i;
    here = changed_elsewhere d c (with_mark mark) w.history.intakes (not_same d c e) ∙ at;
    admitted = sym (append-nil i.admitted);
    mark_is = reported_nothing i earlier is;
    offered_is = omega arith;
  })
]

-- what the step says was added and given
abbrev AfterStep : World → ℕ → Intake → List ℕ → Step → Reply → Type 0
AfterStep v c i earlier step reply = After v.history c i (taken_by c earlier step reply) earlier (reported_by c step reply) (offered_by c step reply)

after_admit : (w v : World) (d c : ℕ) (batch : List Admitted) (i : Intake) (earlier : List ℕ) (reported : BatchReply) → IsReported i earlier → Admits w d batch reported v → slice_get w.history.intakes c ≡ Some i
    → After v.history c i (cond (d == c) (timely admitted_time 0 earlier batch) []) earlier (cond (d == c) (map admitted_time batch) []) (cond (d == c) batch [])
after_admit w v d c batch i earlier reported is a at =
    subst (λ (x : World). After x.history c i (cond (d == c) (timely admitted_time 0 earlier batch) []) earlier (cond (d == c) (map admitted_time batch) []) (cond (d == c) batch [])) (sym a.after) (batch_after w d c batch i earlier is at)

-- a step whose reply is that all is down
down_after : (w v : World) (c : ℕ) (i : Intake) (earlier : List ℕ) (step : Step) (reply : Reply) → IsReported i earlier → reply ≡ NeedsRecovery → v ≡ w
    → taken_by c earlier step NeedsRecovery ≡ [] → reported_by c step NeedsRecovery ≡ [] → offered_by c step NeedsRecovery ≡ [] → slice_get w.history.intakes c ≡ Some i → AfterStep v c i earlier step reply
down_after w v c i earlier step reply is e same none unreported unoffered at =
    subst (λ (r : Reply). AfterStep v c i earlier step r) (sym e)
    (subst (λ (l : List Admitted). After v.history c i l earlier (reported_by c step NeedsRecovery) (offered_by c step NeedsRecovery)) (sym none)
    (subst (λ (l : List ℕ). After v.history c i [] earlier l (offered_by c step NeedsRecovery)) (sym unreported)
    (subst (λ (l : List Admitted). After v.history c i [] earlier [] l) (sym unoffered) (same_world w v c i earlier is same at))))

step_after : (w v : World) (c : ℕ) (i : Intake) (earlier : List ℕ) (step : Step) (reply : Reply) → IsReported i earlier → Does w step reply v → slice_get w.history.intakes c ≡ Some i → AfterStep v c i earlier step reply
step_after w v c i earlier (Admit d batch) (Taken reported) is (inl up) at = after_admit w v d c batch.items i earlier reported is up.1 at
step_after w v c i earlier (Admit d batch) NoCollector is (inl up) at = same_world w v c i earlier is up.1.1 at
step_after w v c i earlier (Admit d batch) _ is (inl up) at = absurd up.1
step_after w v c i earlier (Admit d batch) reply is (inr down) at = down_after w v c i earlier (Admit d batch) reply is down.1 down.2 refl refl refl at
step_after w v c i earlier (Mark d mark) Marked is (inl up) at = subst (λ (x : World). After x.history c i [] earlier (cond (d == c) (mark ∷ []) []) []) (sym up.1.2) (mark_after_is w d c mark i earlier is up.1.1 at)
step_after w v c i earlier (Mark d mark) NoCollector is (inl up) at = same_world w v c i earlier is up.1.1 at
step_after w v c i earlier (Mark d mark) MarkBack is (inl up) at = same_world w v c i earlier is up.1.1 at
step_after w v c i earlier (Mark d mark) _ is (inl up) at = absurd up.1
step_after w v c i earlier (Mark d mark) reply is (inr down) at = down_after w v c i earlier (Mark d mark) reply is down.1 down.2 refl refl refl at
step_after w v c i earlier (Apply more) Applied is (inl up) at =
    same_after w.history v.history c i earlier is (ap (λ (x : World). x.history.intakes) up.1.after ∙ (more_same more up.1.first up.1.last up.1.others ∙ applies_same w.history up.1.first up.1.next)) at
step_after w v c i earlier (Apply more) Idle is (inl up) at = same_world w v c i earlier is up.1.1 at
step_after w v c i earlier (Apply more) _ is (inl up) at = absurd up.1
step_after w v c i earlier (Apply more) reply is (inr down) at = same_world w v c i earlier is down.2 at
step_after w v c i earlier Flush reply is (inl up) at = same_world w v c i earlier is up.1.1 at
step_after w v c i earlier Flush reply is (inr down) at = same_world w v c i earlier is down.2 at
step_after w v c i earlier (Begin query) reply is d at = same_after w.history v.history c i earlier is (ap (λ (x : World). x.history.intakes) d.1) at
step_after w v c i earlier (Turn number reach) Again is (inl up) at = same_after w.history v.history c i earlier is (ap (λ (x : World). x.history.intakes) up.1.after) at
step_after w v c i earlier (Turn number reach) (Done answer) is (inl up) at = same_after w.history v.history c i earlier is (ap (λ (x : World). x.history.intakes) up.1.after) at
step_after w v c i earlier (Turn number reach) (AboveWatermark reported) is (inl up) at = same_world w v c i earlier is up.1.1 at
step_after w v c i earlier (Turn number reach) NoQuestion is (inl up) at = same_world w v c i earlier is up.1.1 at
step_after w v c i earlier (Turn number reach) _ is (inl up) at = absurd up.1
step_after w v c i earlier (Turn number reach) reply is (inr down) at = same_world w v c i earlier is down.2 at
step_after w v c i earlier Crash reply is d at = same_after w.history v.history c i earlier is (ap (λ (x : World). x.history.intakes) d.1) at
step_after w v c i earlier Recover reply is d at = same_after w.history v.history c i earlier is (ap (λ (x : World). x.history.intakes) d.1) at

-- what the steps of a run gave the collector
run_after : (w v : World) (steps : List Step) (replies : List Reply) (c : ℕ) (i : Intake) (earlier : List ℕ) → IsReported i earlier → Runs w steps replies v → slice_get w.history.intakes c ≡ Some i
    → After v.history c i (taken_of c earlier steps replies) earlier (reported_of c steps replies) (offered_of c steps replies)
run_after w v [] [] c i earlier is run at = same_world w v c i earlier is run at
run_after w v [] (r ∷ rs) c i earlier is run at = absurd run
run_after w v (s ∷ ss) [] c i earlier is run at = absurd run
run_after w v (s ∷ ss) (r ∷ rs) c i earlier is run at =
    let a = step_after w run.0 c i earlier s r is run.1 at in
    let next = earlier ++ reported_by c s r in
    let rest = run_after run.0 v ss rs c a.intake next a.mark_is run.2 a.here in
    let by = taken_by c earlier s r in
    record {
      intake = rest.intake;
      here = rest.here;
      admitted = rest.admitted ∙ (ap (λ (l : List Admitted). l ++ taken_of c next ss rs) a.admitted ∙ append_assoc i.admitted by (taken_of c next ss rs));
      mark_is = rest.mark_is ∙ ap (greatest 0) (append_assoc earlier (reported_by c s r) (reported_of c ss rs));
      offered_is = omega (arith, rest.offered_is, a.offered_is, length-append (offered_by c s r) (offered_of c ss rs));
    }

nothing_there : (n c : ℕ) (x i : Intake) → slice_get (replicate n x) c ≡ Some i → x ≡ i
nothing_there zero c x i at = absurd (none-some i at)
nothing_there (suc n) zero x i at = same_Some x i at
nothing_there (suc n) (suc c) x i at = nothing_there n c x i at

-- a collector has just what the steps gave
pub all_given : (n : ℕ) (v : World) (steps : List Step) (replies : List Reply) (c : ℕ) (j : Intake) → AllByRecursion IsStep steps → Runs (created n) steps replies v → slice_get v.history.intakes c ≡ Some j → IsGiven j c steps replies
all_given n v steps replies c j valid run last =
    let first = earlier (created n).history.intakes v.history.intakes c j (run_fine (created n) v steps replies valid (created_sound n) run).begins.each last in
    let none = nothing_there n c (record { admitted = []; mark = 0; offered = 0 }) first.0 first.1 in
    let a = run_after (created n) v steps replies c first.0 [] (ap (λ (x : Intake). x.mark) (sym none)) run first.1 in
    let same : j ≡ a.intake = one_there (slice_get v.history.intakes c) j a.intake last a.here in
    record {
      admitted = ap (λ (x : Intake). x.admitted) same ∙ (a.admitted ∙ ap (λ (x : Intake). x.admitted ++ taken_of c [] steps replies) (sym none));
      mark = ap (λ (x : Intake). x.mark) same ∙ a.mark_is;
      offered = omega (arith, ap (λ (x : Intake). x.offered) same, a.offered_is, ap (λ (x : Intake). x.offered) none);
    }

-- ---- receipts

admit_kept : (w m : World) (h : History) (c : ℕ) (batch : List Admitted) (reported : BatchReply) (earlier : List ℕ) (before : List Admitted) (count : ℕ)
    → ((i : Intake) → slice_get w.history.intakes c ≡ Some i → (i.mark ≡ greatest 0 earlier) × (i.admitted ≡ before) × (i.offered ≡ count)) → Admits w c batch reported m → Begins m.history h → IsRecorded h earlier before count c batch reported
admit_kept w m h c batch reported earlier before count is a b =
    let b' : Begins (given w.history c batch) h = subst (λ (x : World). Begins x.history h) a.after b in
    let l = later (changed c (with_batch batch) w.history.intakes) h.intakes c (with_batch batch a.intake) b'.each (changed_here c (with_batch batch) w.history.intakes a.intake a.here) in
    let e = is a.intake a.here in
    let sieved : timely admitted_time a.intake.mark [] batch ≡ timely admitted_time 0 earlier batch = ap (λ (n : ℕ). timely admitted_time n [] batch) e.0 ∙ timely_reported admitted_time earlier batch in
    let late : lates admitted_time a.intake.mark [] 0 batch ≡ lates admitted_time 0 earlier 0 batch = ap (λ (n : ℕ). lates admitted_time n [] 0 batch) e.0 ∙ lates_reported admitted_time earlier batch in
    let now : IsRecorded h earlier a.intake.admitted a.intake.offered c batch reported = record {
      intake = l.intake;
      here = l.here;
      collector = a.reply.collector;
      after = l.goes.more;
      admitted = l.goes.begins ∙ ap (λ (k : List Admitted). (a.intake.admitted ++ k) ++ l.goes.more) sieved;
      from = a.reply.from;
      to = omega (arith, a.reply.to, ap length sieved);
      offered = a.reply.offered;
      late = a.reply.late ∙ late;
    } in
    subst (λ (l' : List Admitted). IsRecorded h earlier l' count c batch reported) e.1 (subst (λ (n : ℕ). IsRecorded h earlier a.intake.admitted n c batch reported) e.2 now)

taken_kept : (w m : World) (h : History) (c : ℕ) (batch : List Admitted) (reported : BatchReply) (earlier : List ℕ) (before : List Admitted) (count : ℕ)
    → ((i : Intake) → slice_get w.history.intakes c ≡ Some i → (i.mark ≡ greatest 0 earlier) × (i.admitted ≡ before) × (i.offered ≡ count)) → WhenUp w (Taken reported) m (DoesAdmit w c batch (Taken reported) m) → Begins m.history h
    → IsRecorded h earlier before count c batch reported
taken_kept w m h c batch reported earlier before count is (inl up) b = admit_kept w m h c batch reported earlier before count is up.1 b
taken_kept w m h c batch reported earlier before count is (inr down) b = absurd (let e : Taken reported ≡ NeedsRecovery = down.1 in cc)

step_kept : (n : ℕ) (w m : World) (h : History) (steps : List Step) (replies : List Reply) (step : Step) (reply : Reply) → AllByRecursion IsStep steps → Runs (created n) steps replies w → Does w step reply m → Begins m.history h → IsKept h steps replies step reply
step_kept n w m h steps replies (Admit c batch) (Taken reported) valid run d b =
    taken_kept w m h c batch.items reported (reported_of c steps replies) (taken_of c [] steps replies) (length (offered_of c steps replies))
    (λ i at. let g = all_given n w steps replies c i valid run at in (g.mark, g.admitted, g.offered)) d b
step_kept n w m h steps replies (Admit c batch) _ valid run d b = tt
step_kept n w m h steps replies _ reply valid run d b = tt

-- each batch that was taken follows what was given before it
pub each_kept : (n : ℕ) (v : World) (steps : List Step) (replies : List Reply) (k : ℕ) (step : Step) (reply : Reply) → AllByRecursion IsStep steps → Runs (created n) steps replies v → slice_get steps k ≡ Some step → slice_get replies k ≡ Some reply
    → IsKept v.history (take k steps) (take k replies) step reply
each_kept n v steps replies k step reply valid run at reported =
    let s = split (created n) v steps replies k step reply run at reported in
    let front = all_take IsStep k steps valid in
    let sound = (run_fine (created n) s.before (take k steps) (take k replies) front (created_sound n) s.first).sound in
    let next = step_fine s.before step reply s.after (all_at IsStep steps k step valid at) sound s.does in
    let rest = run_fine s.after v (drop (suc k) steps) (drop (suc k) replies) (all_drop IsStep (suc k) steps valid) next.sound s.later in
    step_kept n s.before s.after v.history (take k steps) (take k replies) step reply front s.first s.does rest.begins
