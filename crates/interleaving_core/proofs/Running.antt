-- Whatever is reported in a run is true of the history at its end.
use Rattle.std.proofs.Common.{◌≡◌, ℕ, zero, suc, ◌<◌, ◌≤◌, List, [], ◌∷◌, ◌++◌, length, take, drop, sym, ap, ◌∙◌, inl, inr, arith, subst, Some}
use Rattle.std.specs.List.{AllByRecursion, slice_get}
use Rattle.std.proofs.lemmas.Option.{same_Some, none-some}
use Rattle.route_meaning.specs.History.{History, IsHistory, Begins, all_of, applied, settled}
use Rattle.route_meaning.proofs.api.Agreeing.{IsAnswer-until, IsEventsAnswer-until, until-later}
use Rattle.route_meaning.proofs.api.Front.{settled_stays}
use Rattle.route_meaning.proofs.api.Settling.{all_take, all_drop}
use Rattle.sequencer.proofs.api.Setting.{all_at, one_there}
use Rattle.interleaving_core.specs.declared.query.Query.{Query}
use Rattle.interleaving_core.specs.declared.query.Query.TheVariants.{Rows, Events}
use Rattle.interleaving_core.specs.declared.query.Answer.{Answer}
use Rattle.interleaving_core.specs.declared.query.Answer.TheVariants.{Rows as RowsReported, Events as EventsReported}
use Rattle.interleaving_core.specs.declared.reply.Reply.{Reply}
use Rattle.interleaving_core.specs.declared.reply.Reply.TheVariants.{Begun, Done, NeedsRecovery}
use Rattle.interleaving_core.specs.declared.step.Reach.{Reach}
use Rattle.interleaving_core.specs.declared.step.Step.{Step}
use Rattle.interleaving_core.specs.declared.step.Step.TheVariants.{Begin, Turn}
use Rattle.interleaving_core.specs.declared.question.Question.{Question}
use Rattle.interleaving_core.specs.World.{World, asked, started, created, with_questions}
use Rattle.interleaving_core.specs.Does.{last_moment, Turns, Does, Runs, IsStep}
use Rattle.interleaving_core.specs.Headline.{IsAnswered}
use Rattle.interleaving_core.proofs.Places.{there}
use Rattle.interleaving_core.proofs.Turning.{IsSoFar, asked_started, turn_done}
use Rattle.interleaving_core.proofs.Sound.{IsSound, step_fine, run_fine, created_sound, get_pushed}

-- below the settled watermark what is answered over what is applied is the answer over all that is admitted later
answered_later : (h g : History) (query : Query) (answer : Answer) → IsHistory h → Begins h g → last_moment query < settled h → IsAnswered (applied h) query answer → IsAnswered (all_of g) query answer
answered_later h g (Rows q) (RowsReported a) right b lt is = IsAnswer-until (applied h) (all_of g) q a.rows.items a.more (until-later h g q.moment right b lt) is
answered_later h g (Rows q) (EventsReported a) right b lt is = is
answered_later h g (Events q) (RowsReported a) right b lt is = is
answered_later h g (Events q) (EventsReported a) right b lt is = IsEventsAnswer-until (applied h) (all_of g) q a.events.items a.more (until-later h g q.to right b lt) is

-- over all of the history the question has the answer, and its last moment is settled
abbrev pub IsSettled : History → Query → Answer → Type 0
IsSettled g query answer = IsAnswered (all_of g) query answer × (last_moment query < settled g)

-- the step that is done took a turn
does_turn : (w : World) (i : ℕ) (reach : Reach) (answer : Answer) (v : World) → Does w (Turn i reach) (Done answer) v → Turns w i reach (Done answer) v
does_turn w i reach answer v (inl up) = up.1
does_turn w i reach answer v (inr down) = absurd (let e : Done answer ≡ NeedsRecovery = down.1 in cc)

-- a turn that is done answers what was asked
done_now : (w m v : World) (i : ℕ) (reach : Reach) (answer : Answer) (q : Question) → IsSound w → Does w (Turn i reach) (Done answer) m → Begins w.history v.history → slice_get w.questions i ≡ Some q → IsSettled v.history (asked q) answer
done_now w m v i reach answer q sound d b at =
    let t = does_turn w i reach answer m d in
    let same : t.question ≡ q = one_there (slice_get w.questions i) t.question q t.here at in
    let so = all_at (IsSoFar w.history) w.questions i t.question sound.questions t.here in
    subst (λ (x : Question). IsSettled v.history (asked x) answer) same (
      answered_later w.history v.history (asked t.question) answer sound.history b t.below (turn_done w.history reach t.question t.new answer sound.history t.below so t.turn),
      settled_stays w.history v.history (last_moment (asked t.question)) sound.history b t.below,
    )

-- each later turn that is done too
done_later : (w v : World) (steps : List Step) (replies : List Reply) (i k : ℕ) (q : Question) (reach : Reach) (answer : Answer) → AllByRecursion IsStep steps → IsSound w → Runs w steps replies v → slice_get w.questions i ≡ Some q
    → slice_get steps k ≡ Some (Turn i reach) → slice_get replies k ≡ Some (Done answer) → IsSettled v.history (asked q) answer
done_later w v [] rs i k q reach answer valid sound run at step reply = absurd (none-some (Turn i reach) step)
done_later w v (s ∷ ss) [] i k q reach answer valid sound run at step reply = absurd run
done_later w v (s ∷ ss) (r ∷ rs) i zero q reach answer valid sound run at step reply =
    let d : Does w (Turn i reach) (Done answer) run.0 = subst (λ (x : Reply). Does w (Turn i reach) x run.0) (same_Some r (Done answer) reply) (subst (λ (x : Step). Does w x r run.0) (same_Some s (Turn i reach) step) run.1) in
    done_now w run.0 v i reach answer q sound d (run_fine w v (s ∷ ss) (r ∷ rs) valid sound run).begins at
done_later w v (s ∷ ss) (r ∷ rs) i (suc k) q reach answer valid sound run at step reply =
    let first = step_fine w s r run.0 valid.0 sound run.1 in
    let next = first.asks i q at in
    subst (λ (x : Query). IsSettled v.history x answer) next.2 (done_later run.0 v ss rs i k next.0 reach answer valid.1 first.sound run.2 next.1 step reply)

-- the first step began the question
begins_now : (w m : World) (query : Query) (i : ℕ) (s : Step) (r : Reply) → Does w s r m → s ≡ Begin query → r ≡ Begun i → (i ≡ length w.questions) × (m ≡ with_questions w (w.questions ++ started query ∷ []))
begins_now w m query i s r d es er =
    let d' : Does w (Begin query) (Begun i) m = subst (λ (x : Reply). Does w (Begin query) x m) er (subst (λ (x : Step). Does w x r m) es d) in
    (let e : Begun i ≡ Begun (length w.questions) = d'.0 in cc, d'.1)

-- a question that begins gets a number that isn't taken
begun_above : (w v : World) (steps : List Step) (replies : List Reply) (i j : ℕ) (query : Query) → AllByRecursion IsStep steps → IsSound w → Runs w steps replies v → slice_get steps j ≡ Some (Begin query) → slice_get replies j ≡ Some (Begun i) → length w.questions ≤ i
begun_above w v [] rs i j query valid sound run step reply = absurd (none-some (Begin query) step)
begun_above w v (s ∷ ss) [] i j query valid sound run step reply = absurd run
begun_above w v (s ∷ ss) (r ∷ rs) i zero query valid sound run step reply = omega (arith, (begins_now w run.0 query i s r run.1 (same_Some s (Begin query) step) (same_Some r (Begun i) reply)).0)
begun_above w v (s ∷ ss) (r ∷ rs) i (suc j) query valid sound run step reply =
    let first = step_fine w s r run.0 valid.0 sound run.1 in
    omega (arith, first.grows, begun_above run.0 v ss rs i j query valid.1 first.sound run.2 step reply)

-- no question is done before it begins
not_before : (w m v : World) (ss : List Step) (rs : List Reply) (i j : ℕ) (reach : Reach) (answer : Answer) (query : Query) (s : Step) (r : Reply) → AllByRecursion IsStep ss → IsStep s → IsSound w → Does w s r m → Runs m ss rs v
    → s ≡ Turn i reach → r ≡ Done answer → slice_get ss j ≡ Some (Begin query) → slice_get rs j ≡ Some (Begun i) → ⊥
not_before w m v ss rs i j reach answer query s r valid one sound d run es er step reply =
    let fine = step_fine w s r m one sound d in
    let t = does_turn w i reach answer m (subst (λ (x : Reply). Does w (Turn i reach) x m) er (subst (λ (x : Step). Does w x r m) es d)) in
    omega (arith, fine.grows, there w.questions i t.question t.here, begun_above m v ss rs i j query valid fine.sound run step reply)

pub all_answers : (w v : World) (steps : List Step) (replies : List Reply) (j k i : ℕ) (query : Query) (reach : Reach) (answer : Answer) → AllByRecursion IsStep steps → IsSound w → Runs w steps replies v
    → slice_get steps j ≡ Some (Begin query) → slice_get replies j ≡ Some (Begun i) → slice_get steps k ≡ Some (Turn i reach) → slice_get replies k ≡ Some (Done answer) → IsSettled v.history query answer
all_answers w v [] rs j k i query reach answer valid sound run bs br ts tr = absurd (none-some (Begin query) bs)
all_answers w v (s ∷ ss) [] j k i query reach answer valid sound run bs br ts tr = absurd run
all_answers w v (s ∷ ss) (r ∷ rs) zero zero i query reach answer valid sound run bs br ts tr = absurd (let e : Begin query ≡ Turn i reach = sym (same_Some s (Begin query) bs) ∙ same_Some s (Turn i reach) ts in cc)
all_answers w v (s ∷ ss) (r ∷ rs) zero (suc k) i query reach answer valid sound run bs br ts tr =
    let first = step_fine w s r run.0 valid.0 sound run.1 in
    let now = begins_now w run.0 query i s r run.1 (same_Some s (Begin query) bs) (same_Some r (Begun i) br) in
    let at : slice_get run.0.questions i ≡ Some (started query) =
    ap (λ (x : World). slice_get x.questions i) now.1 ∙ (ap (slice_get (w.questions ++ started query ∷ [])) now.0 ∙ get_pushed w.questions (started query)) in
    subst (λ (x : Query). IsSettled v.history x answer) (asked_started query) (done_later run.0 v ss rs i k (started query) reach answer valid.1 first.sound run.2 at ts tr)
all_answers w v (s ∷ ss) (r ∷ rs) (suc j) zero i query reach answer valid sound run bs br ts tr =
    absurd (not_before w run.0 v ss rs i j reach answer query s r valid.1 valid.0 sound run.1 run.2 (same_Some s (Turn i reach) ts) (same_Some r (Done answer) tr) bs br)
all_answers w v (s ∷ ss) (r ∷ rs) (suc j) (suc k) i query reach answer valid sound run bs br ts tr =
    let first = step_fine w s r run.0 valid.0 sound run.1 in
    all_answers run.0 v ss rs j k i query reach answer valid.1 first.sound run.2 bs br ts tr

-- each earlier history begins the last one
pub all_begin : (n k : ℕ) (w v : World) (steps : List Step) (replies : List Reply) → AllByRecursion IsStep steps → Runs (created n) (take k steps) (take k replies) w → Runs w (drop k steps) (drop k replies) v → Begins w.history v.history
all_begin n k w v steps replies valid before after =
    let now = run_fine (created n) w (take k steps) (take k replies) (all_take IsStep k steps valid) (created_sound n) before in
    (run_fine w v (drop k steps) (drop k replies) (all_drop IsStep k steps valid) now.sound after).begins
