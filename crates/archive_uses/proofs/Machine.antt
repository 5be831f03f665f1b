-- What a call that is answered does to a history, and the steps of the pure machine that it is.
use Rattle.std.proofs.Common.{◌≡◌, ℕ, ◌<◌, ◌≤◌, inl, inr, List, [], ◌∷◌, ◌++◌, length, true, false, refl, sym, subst, Some, zero, suc}
use Rattle.std.specs.List.{AllByRecursion, slice_get, slice_set}
use Rattle.route_model.specs.Admission.{Admitted}
use Rattle.route_meaning.specs.History.{Begins, Intake, History, applied, settled}
use Rattle.interleaving_core.specs.declared.query.Query.{Query}
use Rattle.interleaving_core.specs.declared.question.Question.TheVariants.{Ended}
use Rattle.interleaving_core.specs.declared.query.Query.TheVariants.{Rows, Events}
use Rattle.interleaving_core.specs.declared.reply.Reply.{Reply}
use Rattle.interleaving_core.specs.declared.reply.Reply.TheVariants.{Taken, Marked, NoCollector, MarkBack, Applied, Idle, Flushed, Begun, Done, AboveWatermark, Crashed, Recovered, NeedsRecovery}
use Rattle.interleaving_core.specs.declared.step.Reach.TheVariants.{End}
use Rattle.interleaving_core.specs.declared.step.Step.{Step}
use Rattle.interleaving_core.specs.declared.step.Step.TheVariants.{Admit, Mark, Apply, Flush, Begin, Turn, Crash, Recover}
use Rattle.interleaving_core.specs.Steps.{IsCollector, marked, IsMarkAbove, given, AppliesMore, NothingToApply}
use Rattle.interleaving_core.specs.World.{World, asked, started, crashed, with_history, with_questions}
use Rattle.interleaving_core.specs.Headline.{IsAnswered}
use Rattle.interleaving_core.specs.Does.{IsReply, IsInProgress, Runs, IsStep, last_moment}
use Rattle.route_meaning.proofs.api.Beginning.{Begins-refl, Begins-trans}
use Rattle.interleaving_core.proofs.api.GoingOn.{begins_applied, begins_marked}
use Rattle.interleaving_core.proofs.api.Right.{begins_given}
use Rattle.interleaving_core.proofs.Answering.{answered_in_one}
use Rattle.interleaving_core.proofs.Sound.{get_pushed}
use Rattle.disk_archive.specs.Moves.{Moves}
use Rattle.archive_uses.specs.Use.{Call, AreSteps, IsCall}
use Rattle.archive_uses.specs.Use.Call.{admit, mark, apply, flush, ask}

-- a batch that was taken
pub record Takes (c : ℕ) (batch : List Admitted) (h g : History) (represents_node : Intake → Type 0) : Type 0 where
  pub intake : Intake
  pub here : slice_get h.intakes c ≡ Some intake
  pub reply : represents_node intake
  pub after : g ≡ given h c batch

-- over a history that is represented the call is answered so, and leads to that history
abbrev pub Answers : Call → Reply → History → History → Type 0
Answers (admit c batch) (Taken receipt) h g = Takes c batch.items h g (λ i. IsReply i c batch.items receipt)
Answers (admit c batch) NoCollector h g = (IsCollector h c → ⊥) × (g ≡ h)
Answers (admit c batch) _ h g = ⊥
Answers (mark c m) Marked h g = IsCollector h c × (IsMarkAbove h c m → ⊥) × (g ≡ marked h c m)
Answers (mark c m) NoCollector h g = (IsCollector h c → ⊥) × (g ≡ h)
Answers (mark c m) MarkBack h g = IsMarkAbove h c m × (g ≡ h)
Answers (mark c m) _ h g = ⊥
Answers apply Applied h g = Moves h g
Answers apply Idle h g = NothingToApply h × (g ≡ h)
Answers apply _ h g = ⊥
Answers flush Flushed h g = g ≡ h
Answers flush _ h g = ⊥
Answers (ask query) (Done answer) h g = (last_moment query < settled h) × IsAnswered (applied h) query answer × (g ≡ h)
Answers (ask query) (AboveWatermark at) h g = (at ≡ settled h) × (settled h ≤ last_moment query) × (g ≡ h)
Answers (ask query) _ h g = ⊥

-- from this world steps lead to such a history, of which the call is made
pub record Goes (call : Call) (reply : Reply) (w : World) (g : History) : Type 0 where
  pub steps : List Step
  pub replies : List Reply
  pub next : World
  pub are : AreSteps call reply steps replies
  pub valid : AllByRecursion IsStep steps
  pub runs : Runs w steps replies next
  pub down : next.down ≡ w.down
  pub history : next.history ≡ g

asked_started : (query : Query) → asked (started query) ≡ query
asked_started (Rows q) = refl
asked_started (Events q) = refl

in_progress : (query : Query) → IsInProgress (started query)
in_progress (Rows q) = tt
in_progress (Events q) = tt

-- in a world that is up
pub answered_goes : (call : Call) (reply : Reply) (w : World) (g : History) → IsCall call → w.down ≡ false → Answers call reply w.history g → Goes call reply w g
answered_goes (admit c batch) (Taken receipt) w g valid up a = record {
  steps = Admit c batch ∷ [];
  replies = Taken receipt ∷ [];
  next = with_history w (given w.history c batch.items);
  are = (refl, refl);
  valid = (valid, tt);
  runs = (with_history w (given w.history c batch.items), inl (up, record { intake = a.intake; here = a.here; reply = a.reply; after = refl }), refl);
  down = refl;
  history = sym a.after;
}
answered_goes (admit c batch) NoCollector w g valid up a = record {
  steps = Admit c batch ∷ [];
  replies = NoCollector ∷ [];
  next = w;
  are = (refl, refl);
  valid = (valid, tt);
  runs = (w, inl (up, (a.0, refl)), refl);
  down = refl;
  history = sym a.1;
}
answered_goes (admit c batch) _ w g valid up a = absurd a
answered_goes (mark c m) Marked w g valid up a = record {
  steps = Mark c m ∷ [];
  replies = Marked ∷ [];
  next = with_history w (marked w.history c m);
  are = (refl, refl);
  valid = (valid, tt);
  runs = (with_history w (marked w.history c m), inl (up, (a.0, a.1, refl)), refl);
  down = refl;
  history = sym a.2;
}
answered_goes (mark c m) NoCollector w g valid up a = record {
  steps = Mark c m ∷ [];
  replies = NoCollector ∷ [];
  next = w;
  are = (refl, refl);
  valid = (valid, tt);
  runs = (w, inl (up, (a.0, refl)), refl);
  down = refl;
  history = sym a.1;
}
answered_goes (mark c m) MarkBack w g valid up a = record {
  steps = Mark c m ∷ [];
  replies = MarkBack ∷ [];
  next = w;
  are = (refl, refl);
  valid = (valid, tt);
  runs = (w, inl (up, (a.0, refl)), refl);
  down = refl;
  history = sym a.1;
}
answered_goes (mark c m) _ w g valid up a = absurd a
answered_goes apply Applied w g valid up a = record {
  steps = Apply a.more ∷ [];
  replies = Applied ∷ [];
  next = with_history w g;
  are = (a.more, refl, refl);
  valid = (tt, tt);
  runs = (with_history w g, inl (up, record { first = a.first; last = g; next = a.next; others = a.others; after = refl }), refl);
  down = refl;
  history = refl;
}
answered_goes apply Idle w g valid up a = record {
  steps = Apply 0 ∷ [];
  replies = Idle ∷ [];
  next = w;
  are = (0, refl, refl);
  valid = (tt, tt);
  runs = (w, inl (up, (a.0, refl)), refl);
  down = refl;
  history = sym a.1;
}
answered_goes apply _ w g valid up a = absurd a
answered_goes flush Flushed w g valid up a = record {
  steps = Flush ∷ [];
  replies = Flushed ∷ [];
  next = w;
  are = (refl, refl);
  valid = (tt, tt);
  runs = (w, inl (up, (refl, refl)), refl);
  down = refl;
  history = sym a;
}
answered_goes flush _ w g valid up a = absurd a
answered_goes (ask query) (Done answer) w g valid up a =
    let i = length w.questions in
    let begun = with_questions w (w.questions ++ started query ∷ []) in
    let last = with_questions begun (slice_set begun.questions i (Ended query)) in
    record {
      steps = Begin query ∷ Turn i End ∷ [];
      replies = Begun i ∷ Done answer ∷ [];
      next = last;
      are = (i, refl, refl);
      valid = (tt, (tt, tt));
      runs = (begun, (refl, refl), (last, answered_in_one begun i query answer up (get_pushed w.questions (started query)) a.0 a.1, refl));
      down = refl;
      history = sym a.2;
    }
answered_goes (ask query) (AboveWatermark at) w g valid up a =
    let i = length w.questions in
    let begun = with_questions w (w.questions ++ started query ∷ []) in
    record {
      steps = Begin query ∷ Turn i End ∷ [];
      replies = Begun i ∷ AboveWatermark at ∷ [];
      next = begun;
      are = (i, refl, refl);
      valid = (tt, (tt, tt));
      runs = (
        begun,
        (refl, refl),
        (
          begun,
          inl (
            up,
            (
              record {
                question = started query;
                here = get_pushed w.questions (started query);
                in_progress = in_progress query;
                reported_is = a.0;
                above = subst (λ q. settled w.history ≤ last_moment q) (sym (asked_started query)) a.1;
              },
              refl,
            ),
          ),
          refl,
        ),
      );
      down = refl;
      history = sym a.2;
    }
answered_goes (ask query) _ w g valid up a = absurd a

-- in a world that is down
pub down_goes : (call : Call) (w : World) → IsCall call → w.down ≡ true → Goes call NeedsRecovery w w.history
down_goes (admit c batch) w valid down = record { steps = Admit c batch ∷ []; replies = NeedsRecovery ∷ []; next = w; are = (refl, refl); valid = (valid, tt); runs = (w, inr (down, refl, refl), refl); down = refl; history = refl }
down_goes (mark c m) w valid down = record { steps = Mark c m ∷ []; replies = NeedsRecovery ∷ []; next = w; are = (refl, refl); valid = (valid, tt); runs = (w, inr (down, refl, refl), refl); down = refl; history = refl }
down_goes apply w valid down = record { steps = Apply 0 ∷ []; replies = NeedsRecovery ∷ []; next = w; are = (0, refl, refl); valid = (tt, tt); runs = (w, inr (down, refl, refl), refl); down = refl; history = refl }
down_goes flush w valid down = record { steps = Flush ∷ []; replies = NeedsRecovery ∷ []; next = w; are = (refl, refl); valid = (tt, tt); runs = (w, inr (down, refl, refl), refl); down = refl; history = refl }
down_goes (ask query) w valid down =
    let i = length w.questions in
    let begun = with_questions w (w.questions ++ started query ∷ []) in
    record {
      steps = Begin query ∷ Turn i End ∷ [];
      replies = Begun i ∷ NeedsRecovery ∷ [];
      next = begun;
      are = (i, refl, refl);
      valid = (tt, (tt, tt));
      runs = (begun, (refl, refl), (begun, inr (down, refl, refl), refl));
      down = refl;
      history = refl;
    }

-- it goes down
pub crash_runs : (w : World) → Runs w (Crash ∷ []) (Crashed ∷ []) (crashed w)
crash_runs w = (crashed w, (refl, refl), refl)

-- and comes up again
abbrev pub recovered : World → World
recovered w = record { history = w.history; questions = w.questions; down = false }

pub recover_runs : (w : World) → Runs w (Recover ∷ []) (Recovered ∷ []) (recovered w)
recover_runs w = (recovered w, (refl, refl), refl)

-- so the one history begins the other
begins_more : (n : ℕ) (h g : History) → AppliesMore n h g → Begins h g
begins_more zero h g same = subst (Begins h) (sym same) (Begins-refl h)
begins_more (suc n) h g (inl more) = Begins-trans h more.0 g (begins_applied h more.0 more.1) (begins_more n more.0 g more.2)
begins_more (suc n) h g (inr none) = subst (Begins h) (sym none.1) (Begins-refl h)

begins_same : (h g : History) → g ≡ h → Begins h g
begins_same h g same = subst (Begins h) (sym same) (Begins-refl h)

pub answers_begin : (call : Call) (reply : Reply) (h g : History) → Answers call reply h g → Begins h g
answers_begin (admit c batch) (Taken receipt) h g a = subst (Begins h) (sym a.after) (begins_given h c batch.items)
answers_begin (admit c batch) NoCollector h g a = begins_same h g a.1
answers_begin (admit c batch) _ h g a = absurd a
answers_begin (mark c m) Marked h g a = subst (Begins h) (sym a.2) (begins_marked h c m a.1)
answers_begin (mark c m) NoCollector h g a = begins_same h g a.1
answers_begin (mark c m) MarkBack h g a = begins_same h g a.1
answers_begin (mark c m) _ h g a = absurd a
answers_begin apply Applied h g a = Begins-trans h a.first g (begins_applied h a.first a.next) (begins_more a.more a.first g a.others)
answers_begin apply Idle h g a = begins_same h g a.1
answers_begin apply _ h g a = absurd a
answers_begin flush Flushed h g a = begins_same h g a
answers_begin flush _ h g a = absurd a
answers_begin (ask query) (Done answer) h g a = begins_same h g a.2
answers_begin (ask query) (AboveWatermark at) h g a = begins_same h g a.2
answers_begin (ask query) _ h g a = absurd a
