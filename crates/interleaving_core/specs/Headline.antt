-- What is promised of every run.
use Rattle.std.specs.Prelude.{ℕ, List, [], ◌∷◌, ◌++◌, ◌+◌, ◌≡◌, ◌<◌, ◌==◌, if◌then◌else◌, Some, length, map, take, drop, slice_get}
use Rattle.route_model.specs.Admission.{Admitted}
use Rattle.route_meaning.specs.Holds.{admitted_time}
use Rattle.route_meaning.specs.Merged.{Placed}
use Rattle.route_meaning.specs.Rows.{IsAnswer}
use Rattle.route_meaning.specs.Events.{IsEventsAnswer}
use Rattle.route_meaning.specs.History.{Intake, History, IsHistory, Begins, all_of, settled}
use Rattle.sequencer.specs.Late.{greatest, timely, lates}
use Rattle.interleaving_core.specs.declared.query.Query.{Query}
use Rattle.interleaving_core.specs.declared.query.Query.TheVariants.{Rows, Events}
use Rattle.interleaving_core.specs.declared.query.Answer.{Answer}
use Rattle.interleaving_core.specs.declared.query.Answer.TheVariants.{Rows as RowsReported, Events as EventsReported}
use Rattle.interleaving_core.specs.declared.reply.BatchReply.{BatchReply}
use Rattle.interleaving_core.specs.declared.reply.Reply.{Reply}
use Rattle.interleaving_core.specs.declared.reply.Reply.TheVariants.{Taken, Marked, Begun, Done}
use Rattle.interleaving_core.specs.declared.step.Reach.{Reach}
use Rattle.interleaving_core.specs.declared.step.Step.{Step}
use Rattle.interleaving_core.specs.declared.step.Step.TheVariants.{Admit, Mark, Begin, Turn}
use Rattle.interleaving_core.specs.World.{World, created}
use Rattle.interleaving_core.specs.Does.{Runs, last_moment}

-- over these admissions the question has this answer
abbrev pub IsAnswered : List (Placed Admitted) → Query → Answer → Type 0
IsAnswered ps (Rows q) (RowsReported a) = IsAnswer ps q a.rows.items a.more
IsAnswered ps (Rows q) (EventsReported a) = ⊥
IsAnswered ps (Events q) (RowsReported a) = ⊥
IsAnswered ps (Events q) (EventsReported a) = IsEventsAnswer ps q a.events.items a.more

-- the times and the mark that the step gave for the collector c, those of late records too
abbrev pub reported_by : ℕ → Step → Reply → List ℕ
reported_by c (Admit d batch) (Taken reported) = if d == c then map admitted_time batch.items else []
reported_by c (Mark d mark) Marked = if d == c then mark ∷ [] else []
reported_by c step reply = []

-- all the times and marks that the steps gave for the collector c
abbrev pub reported_of : ℕ → List Step → List Reply → List ℕ
reported_of c [] replies = []
reported_of c (step ∷ steps) [] = []
reported_of c (step ∷ steps) (reply ∷ replies) = reported_by c step reply ++ reported_of c steps replies

-- what the step offered for the collector c that was taken and wasn't late: each record below none of these times and marks, and below none before it in its batch
abbrev pub taken_by : ℕ → List ℕ → Step → Reply → List Admitted
taken_by c earlier (Admit d batch) (Taken reported) = if d == c then timely admitted_time 0 earlier batch.items else []
taken_by c earlier step reply = []

-- All that the steps offered for the collector c that was taken and wasn't late, in the order of offering: each record below none of the times and marks that
-- were given for the collector before it, these earlier ones among them.
abbrev pub taken_of : ℕ → List ℕ → List Step → List Reply → List Admitted
taken_of c earlier [] replies = []
taken_of c earlier (step ∷ steps) [] = []
taken_of c earlier (step ∷ steps) (reply ∷ replies) = taken_by c earlier step reply ++ taken_of c (earlier ++ reported_by c step reply) steps replies

-- what the step offered for the collector c: a batch that was taken, its late records too
abbrev pub offered_by : ℕ → Step → Reply → List Admitted
offered_by c (Admit d batch) (Taken reported) = if d == c then batch.items else []
offered_by c step reply = []

-- all that the steps offered for the collector c in batches that were taken, late records too
abbrev pub offered_of : ℕ → List Step → List Reply → List Admitted
offered_of c [] replies = []
offered_of c (step ∷ steps) [] = []
offered_of c (step ∷ steps) (reply ∷ replies) = offered_by c step reply ++ offered_of c steps replies

-- The receipt names the collector. At the receipt's numbers the list of the collector has exactly the records of the batch that weren't late after these
-- earlier times and marks, and before them these others. The reply reports the late ones, and how many were offered in all, `count` of them before.
pub record IsRecorded (h : History) (earlier : List ℕ) (before : List Admitted) (count : ℕ) (c : ℕ) (batch : List Admitted) (reported : BatchReply) : Type 0 where
  pub intake : Intake
  pub here : slice_get h.intakes c ≡ Some intake
  pub collector : reported.receipt.collector ≡ c
  pub after : List Admitted
  pub admitted : intake.admitted ≡ (before ++ timely admitted_time 0 earlier batch) ++ after
  pub from : reported.receipt.from ≡ length before
  pub to : reported.receipt.to ≡ length before + length (timely admitted_time 0 earlier batch)
  pub offered : reported.offered ≡ count + length batch
  pub late : reported.late.items ≡ lates admitted_time 0 earlier 0 batch

-- where the step gave a batch that was taken, it is recorded: after what these earlier steps gave for the collector, times and marks included
abbrev pub IsKept : History → List Step → List Reply → Step → Reply → Type 0
IsKept h steps replies (Admit c batch) (Taken reported) = IsRecorded h (reported_of c steps replies) (taken_of c [] steps replies) (length (offered_of c steps replies)) c batch.items reported
IsKept h steps replies step reply = Unit {0}

-- What the collector c has is what the steps gave: its list is all that they offered for it that wasn't late, in the order of offering; its mark is the
-- greatest of the times and marks that they gave for it; and its count is that of all that they offered for it.
pub record IsGiven (i : Intake) (c : ℕ) (steps : List Step) (replies : List Reply) : Type 0 where
  pub admitted : i.admitted ≡ taken_of c [] steps replies
  pub mark : i.mark ≡ greatest 0 (reported_of c steps replies)
  pub offered : i.offered ≡ length (offered_of c steps replies)

-- an earlier step than that of the place k began the question of the number i
pub record IsBegun (steps : List Step) (replies : List Reply) (i k : ℕ) : Type 0 where
  pub place : ℕ
  pub earlier : place < k
  pub query : Query
  pub step : slice_get steps place ≡ Some (Begin query)
  pub reply : slice_get replies place ≡ Some (Begun i)

-- the step of one place began the question, and a turn of it, at another place, was done with this answer
pub record WasDone (steps : List Step) (replies : List Reply) (query : Query) (answer : Answer) : Type 0 where
  pub number : ℕ
  pub began : ℕ
  pub begin : slice_get steps began ≡ Some (Begin query)
  pub begun : slice_get replies began ≡ Some (Begun number)
  pub place : ℕ
  pub reach : Reach
  pub turn : slice_get steps place ≡ Some (Turn number reach)
  pub done : slice_get replies place ≡ Some (Done answer)

-- What is true at the end of every run from a created world: the history at the end is right, and each earlier one begins it; each
-- question that is done was begun; it has the answer of the history at the end, below whose settled watermark its last moment is; each
-- batch that was taken is recorded at the numbers of its receipt; and no collector has anything but what was offered for it and wasn't late,
-- in the order of offering.
pub record Headline (collectors : ℕ) (steps : List Step) (replies : List Reply) (last : World) : Type 0 where
  pub right : IsHistory last.history
  pub begun : (k i : ℕ) (reach : Reach) (answer : Answer) → slice_get steps k ≡ Some (Turn i reach) → slice_get replies k ≡ Some (Done answer) → IsBegun steps replies i k
  pub answers : (query : Query) (answer : Answer) → WasDone steps replies query answer → IsAnswered (all_of last.history) query answer
  pub settled : (query : Query) (answer : Answer) → WasDone steps replies query answer → last_moment query < settled last.history
  pub begins : (k : ℕ) (w : World) → Runs (created collectors) (take k steps) (take k replies) w → Runs w (drop k steps) (drop k replies) last → Begins w.history last.history
  pub receipts : (k : ℕ) (step : Step) (reply : Reply) → slice_get steps k ≡ Some step → slice_get replies k ≡ Some reply → IsKept last.history (take k steps) (take k replies) step reply
  pub only : (c : ℕ) (intake : Intake) → slice_get last.history.intakes c ≡ Some intake → IsGiven intake c steps replies
