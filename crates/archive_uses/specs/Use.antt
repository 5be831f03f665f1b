-- What is made of an archive on two disks, and the steps of the pure machine that it is.
use Rattle.std.specs.Prelude.{ℕ, List, [], ◌∷◌, ◌++◌, ◌≡◌, ◌≤◌, ◌⊎◌}
use Rattle.std.specs.List.{AllByRecursion}
use Rattle.std.specs.Global.{Vec}
use Rattle.route_model.specs.Admission.{Admitted, IsAdmission}
use Rattle.route_model.specs.Moments.{last_mark}
use Rattle.interleaving_core.specs.declared.query.Query.{Query}
use Rattle.interleaving_core.specs.declared.reply.Reply.{Reply}
use Rattle.interleaving_core.specs.declared.reply.Reply.TheVariants.{Begun, Crashed, Recovered}
use Rattle.interleaving_core.specs.declared.step.Reach.TheVariants.{End}
use Rattle.interleaving_core.specs.declared.step.Step.{Step}
use Rattle.interleaving_core.specs.declared.step.Step.TheVariants.{Admit, Mark, Apply, Flush, Begin, Turn, Crash, Recover}

-- a call on an archive: a batch or a mark of a collector, a step of applying, one of flushing, or a question, by its last turn
pub data Call : Type 0 where
  admit : ℕ → Vec Admitted → Call
  mark : ℕ → ℕ → Call
  apply : Call
  flush : Call
  ask : Query → Call

-- How a call ended: with a reply of the pure machine; with none, since it was refused, or was a turn of a question that goes on, and the
-- archive may be used on; or it failed, and the archive must be opened again.
pub data Verdict : Type 0 where
  replied : Reply → Verdict
  quiet : Verdict
  failed : Verdict

-- What is made of an archive and its disks.
pub data Use : Type 0 where
  -- a call that ended so
  called : Call → Verdict → Use
  -- a crash inside a call
  cut : Call → Use
  -- a call that only reads and that the machine doesn't have: a check, or a look at what is settled
  looked : Use
  -- a crash inside such a call
  cut_looking : Use
  -- a question is begun, whose cursor is in hand from now on
  begun : Use
  -- the settled blocks are read that an errand of a question in hand asks for
  finished : Use
  -- both disks are taken out of the archive
  closed : Use
  -- a crash while no call is made
  lost : Use
  -- both disks begin again as a crash left them
  found : Use
  -- both disks are opened
  opened : Use
  -- an opening is refused, and both disks are handed back
  shut : Use
  -- a crash inside an opening
  cut_opening : Use

-- the steps that a call is which gets this reply, and their replies
abbrev pub AreSteps : Call → Reply → List Step → List Reply → Type 0
AreSteps (admit c batch) reply steps replies = (steps ≡ Admit c batch ∷ []) × (replies ≡ reply ∷ [])
AreSteps (mark c m) reply steps replies = (steps ≡ Mark c m ∷ []) × (replies ≡ reply ∷ [])
AreSteps apply reply steps replies = (more : ℕ) × (steps ≡ Apply more ∷ []) × (replies ≡ reply ∷ [])
AreSteps flush reply steps replies = (steps ≡ Flush ∷ []) × (replies ≡ reply ∷ [])
AreSteps (ask query) reply steps replies = (i : ℕ) × (steps ≡ Begin query ∷ Turn i End ∷ []) × (replies ≡ Begun i ∷ reply ∷ [])

-- all goes down
abbrev pub AreCrash : List Step → List Reply → Type 0
AreCrash steps replies = (steps ≡ Crash ∷ []) × (replies ≡ Crashed ∷ [])

-- a call goes down: it was done whole, or not at all
abbrev pub AreBroken : Call → List Step → List Reply → Type 0
AreBroken call steps replies = AreCrash steps replies
    ⊎ ((reply : Reply) × (before : List Step) × (answers : List Reply) × AreSteps call reply before answers × (steps ≡ before ++ Crash ∷ []) × (replies ≡ answers ++ Crashed ∷ []))

-- nothing is done
abbrev pub AreNone : List Step → List Reply → Type 0
AreNone steps replies = (steps ≡ []) × (replies ≡ [])

-- the steps of a use, and their replies
abbrev pub StepsOf : Use → List Step → List Reply → Type 0
StepsOf (called call (replied reply)) steps replies = AreSteps call reply steps replies
StepsOf (called call quiet) steps replies = AreNone steps replies
StepsOf (called call failed) steps replies = AreBroken call steps replies
StepsOf (cut call) steps replies = AreBroken call steps replies
StepsOf looked steps replies = AreNone steps replies
StepsOf cut_looking steps replies = AreCrash steps replies
StepsOf begun steps replies = AreNone steps replies
StepsOf finished steps replies = AreNone steps replies
StepsOf closed steps replies = AreCrash steps replies
StepsOf lost steps replies = AreCrash steps replies
StepsOf found steps replies = AreNone steps replies
StepsOf opened steps replies = (steps ≡ Recover ∷ []) × (replies ≡ Recovered ∷ [])
StepsOf shut steps replies = AreNone steps replies
StepsOf cut_opening steps replies = AreCrash steps replies

-- the uses, one after another, are these steps, and their replies
abbrev pub AllStepsOf : List Use → List Step → List Reply → Type 0
AllStepsOf [] steps replies = AreNone steps replies
AllStepsOf (u ∷ us) steps replies = (first later : List Step) × (answers others : List Reply) × StepsOf u first answers × AllStepsOf us later others × (steps ≡ first ++ later) × (replies ≡ answers ++ others)

-- the call is made of values: each record of a batch is an admission, and a mark is one
abbrev pub IsCall : Call → Type 0
IsCall (admit c batch) = AllByRecursion IsAdmission batch.items
IsCall (mark c m) = m ≤ last_mark
IsCall _ = Unit {0}

-- the use is made of values
abbrev pub IsUse : Use → Type 0
IsUse (called call verdict) = IsCall call
IsUse (cut call) = IsCall call
IsUse _ = Unit {0}
