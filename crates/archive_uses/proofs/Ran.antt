-- Runs of the pure machine that uses are, and how they go on.
use Rattle.std.proofs.Common.{◌≡◌, ℕ, inr, List, [], ◌∷◌, ◌++◌, Bool, true, false, refl, sym, ◌∙◌, ap, subst, append_assoc, append-nil}
use Rattle.std.specs.List.{AllByRecursion}
use Rattle.route_meaning.specs.History.{Begins, History}
use Rattle.route_meaning.proofs.api.Sorting.{all_append}
use Rattle.interleaving_core.specs.declared.reply.Reply.{Reply}
use Rattle.interleaving_core.specs.declared.reply.Reply.TheVariants.{Crashed, Recovered, NeedsRecovery}
use Rattle.interleaving_core.specs.declared.step.Step.{Step}
use Rattle.interleaving_core.specs.declared.step.Step.TheVariants.{Crash, Recover}
use Rattle.interleaving_core.specs.World.{World, created, crashed}
use Rattle.interleaving_core.specs.Steps.{empty}
use Rattle.interleaving_core.specs.Does.{Runs, IsStep}
use Rattle.archive_uses.specs.Use.{Call, Use, AreBroken, StepsOf, AllStepsOf, IsCall}
use Rattle.archive_uses.specs.Use.Use.{called, opened}
use Rattle.archive_uses.specs.Use.Verdict.{replied}
use Rattle.archive_uses.proofs.Machine.{Answers, answers_begin, answered_goes, down_goes, crash_runs, recover_runs, recovered}

-- what is true of a history is true of each that it begins
abbrev pub Stays : (History → Type 0) → Type 0
Stays Q = (h g : History) → Begins h g → Q h → Q g

-- A run from a created world that the uses are, to a world with this history, which is down or isn't; and Q is true of the history.
pub record Ran (collectors : ℕ) (Q : History → Type 0) (us : List Use) (down : Bool) (h : History) : Type 0 where
  pub steps : List Step
  pub replies : List Reply
  pub last : World
  pub valid : AllByRecursion IsStep steps
  pub steps_of : AllStepsOf us steps replies
  pub runs : Runs (created collectors) steps replies last
  pub is_down : last.down ≡ down
  pub history : last.history ≡ h
  pub held : Q h

pub runs_more : (w m v : World) (ss ts : List Step) (rs qs : List Reply) → Runs w ss rs m → Runs m ts qs v → Runs w (ss ++ ts) (rs ++ qs) v
runs_more w m v [] ts [] qs first later = subst (λ x. Runs x ts qs v) first later
runs_more w m v [] ts (r ∷ rs) qs first later = absurd first
runs_more w m v (s ∷ ss) ts [] qs first later = absurd first
runs_more w m v (s ∷ ss) ts (r ∷ rs) qs first later = (first.0, first.1, runs_more first.0 m v ss ts rs qs first.2 later)

-- one more use
pub steps_more : (us : List Use) (u : Use) (ss ts : List Step) (rs qs : List Reply) → AllStepsOf us ss rs → StepsOf u ts qs → AllStepsOf (us ++ u ∷ []) (ss ++ ts) (rs ++ qs)
steps_more [] u ss ts rs qs none one = (ts, [], qs, [], one, (refl, refl), ap (λ (x : List Step). x ++ ts) none.0 ∙ sym (append-nil ts), ap (λ (x : List Reply). x ++ qs) none.1 ∙ sym (append-nil qs))
steps_more (v ∷ us) u ss ts rs qs t one = (
  t.0,
  t.1 ++ ts,
  t.2,
  t.3 ++ qs,
  t.4,
  steps_more us u t.1 ts t.3 qs t.5 one,
  ap (λ (x : List Step). x ++ ts) t.6 ∙ append_assoc t.0 t.1 ts,
  ap (λ (x : List Reply). x ++ qs) t.7 ∙ append_assoc t.2 t.3 qs,
)

-- no use was made
pub ran_none : (collectors : ℕ) (Q : History → Type 0) → Q (empty collectors) → Ran collectors Q [] false (empty collectors)
ran_none collectors Q held = record { held = held; steps = []; replies = []; last = created collectors; valid = tt; steps_of = (refl, refl); runs = refl; is_down = refl; history = refl }

-- a run goes on by one use
pub ran_more : (n : ℕ) (Q : History → Type 0) (us : List Use) (u : Use) (d : Bool) (h : History) (r : Ran n Q us d h) (ss : List Step) (rs : List Reply) (v : World) → AllByRecursion IsStep ss → StepsOf u ss rs → Runs r.last ss rs v → (down : Bool) (g : History) → v.down ≡ down → v.history ≡ g → Q g → Ran n Q (us ++ u ∷ []) down g
ran_more n Q us u d h r ss rs v valid represents_node runs down g is_down history held = record {
  held = held;
  steps = r.steps ++ ss;
  replies = r.replies ++ rs;
  last = v;
  valid = all_append IsStep r.steps ss r.valid valid;
  steps_of = steps_more us u r.steps ss r.replies rs r.steps_of represents_node;
  runs = runs_more (created n) r.last v r.steps ss r.replies rs r.runs runs;
  is_down = is_down;
  history = history;
}

-- a call that was answered
pub ran_answered : (n : ℕ) (Q : History → Type 0) (stays : Stays Q) (us : List Use) (call : Call) (reply : Reply) (h g : History) → IsCall call → Answers call reply h g → Ran n Q us false h → Ran n Q (us ++ called call (replied reply) ∷ []) false g
ran_answered n Q stays us call reply h g valid a r =
    let k = answered_goes call reply r.last g valid r.is_down (subst (λ x. Answers call reply x g) (sym r.history) a) in
    ran_more n Q us (called call (replied reply)) false h r k.steps k.replies k.next k.valid k.are k.runs false g (k.down ∙ r.is_down) k.history (stays h g (answers_begin call reply h g a) r.held)

-- a call on an archive that must be opened again
pub ran_down : (n : ℕ) (Q : History → Type 0) (us : List Use) (call : Call) (h : History) → IsCall call → Ran n Q us true h → Ran n Q (us ++ called call (replied NeedsRecovery) ∷ []) true h
ran_down n Q us call h valid r =
    let k = down_goes call r.last valid r.is_down in
    ran_more n Q us (called call (replied NeedsRecovery)) true h r k.steps k.replies k.next k.valid k.are k.runs true h (k.down ∙ r.is_down) (k.history ∙ r.history) r.held

-- a use that does nothing
pub ran_still : (n : ℕ) (Q : History → Type 0) (us : List Use) (u : Use) (d : Bool) (h : History) → StepsOf u [] [] → Ran n Q us d h → Ran n Q (us ++ u ∷ []) d h
ran_still n Q us u d h represents_node r = ran_more n Q us u d h r [] [] r.last tt represents_node refl d h r.is_down r.history r.held

-- a use that is a crash
pub ran_crash : (n : ℕ) (Q : History → Type 0) (us : List Use) (u : Use) (d : Bool) (h : History) → StepsOf u (Crash ∷ []) (Crashed ∷ []) → Ran n Q us d h → Ran n Q (us ++ u ∷ []) true h
ran_crash n Q us u d h represents_node r = ran_more n Q us u d h r (Crash ∷ []) (Crashed ∷ []) (crashed r.last) (tt, tt) represents_node (crash_runs r.last) true h refl r.history r.held

-- a use that is a crash after a call that was done whole
pub ran_whole : (n : ℕ) (Q : History → Type 0) (stays : Stays Q) (us : List Use) (u : Use) (call : Call) (reply : Reply) (h g : History) → IsCall call → ((ss : List Step) (rs : List Reply) → AreBroken call ss rs → StepsOf u ss rs) → Answers call reply h g → Ran n Q us false h → Ran n Q (us ++ u ∷ []) true g
ran_whole n Q stays us u call reply h g valid is a r =
    let k = answered_goes call reply r.last g valid r.is_down (subst (λ x. Answers call reply x g) (sym r.history) a) in
    ran_more n Q us u false h r (k.steps ++ Crash ∷ []) (k.replies ++ Crashed ∷ []) (crashed k.next)
    (all_append IsStep k.steps (Crash ∷ []) k.valid (tt, tt))
    (is (k.steps ++ Crash ∷ []) (k.replies ++ Crashed ∷ []) (inr (reply, k.steps, k.replies, k.are, refl, refl)))
    (runs_more r.last k.next (crashed k.next) k.steps (Crash ∷ []) k.replies (Crashed ∷ []) k.runs (crash_runs k.next)) true g refl k.history (stays h g (answers_begin call reply h g a) r.held)

-- both disks were opened
pub ran_opened : (n : ℕ) (Q : History → Type 0) (us : List Use) (h : History) → Ran n Q us true h → Ran n Q (us ++ opened ∷ []) false h
ran_opened n Q us h r = ran_more n Q us opened true h r (Recover ∷ []) (Recovered ∷ []) (recovered r.last) (tt, tt) (refl, refl) (recover_runs r.last) false h refl r.history r.held

-- what else is true of its history
pub ran_with : (n : ℕ) (P Q : History → Type 0) (us : List Use) (d : Bool) (h : History) → Q h → Ran n P us d h → Ran n Q us d h
ran_with n P Q us d h held r = record { steps = r.steps; replies = r.replies; last = r.last; valid = r.valid; steps_of = r.steps_of; runs = r.runs; is_down = r.is_down; history = r.history; held = held }
