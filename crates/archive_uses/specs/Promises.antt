-- What uses leave in a history, without a step of the pure machine.
use Rattle.std.specs.Prelude.{◌≡◌, ◌<◌, ◌⊎◌, ◌==◌, if◌then◌else◌, ℕ, List, [], ◌∷◌, ◌++◌, Some, slice_get}
use Rattle.std.specs.Global.{Vec}
use Rattle.route_model.specs.Admission.{Admitted}
use Rattle.route_meaning.specs.History.{Intake, History, IsHistory, all_of, settled}
use Rattle.interleaving_core.specs.declared.query.Query.{Query}
use Rattle.interleaving_core.specs.declared.query.Answer.{Answer}
use Rattle.interleaving_core.specs.declared.reply.BatchReply.{BatchReply}
use Rattle.interleaving_core.specs.declared.reply.Reply.TheVariants.{Taken, Done}
use Rattle.interleaving_core.specs.Does.{last_moment}
use Rattle.interleaving_core.specs.Headline.{IsAnswered, IsRecorded}
use Rattle.archive_uses.specs.Use.{Use}
use Rattle.archive_uses.specs.Use.Call.{admit, ask}
use Rattle.archive_uses.specs.Use.Use.{called, cut}
use Rattle.archive_uses.specs.Use.Verdict.{replied, failed}

-- the records that a use may have given for the collector c: those of a batch that was taken, or of one whose call failed or was cut
abbrev pub offered_by : ℕ → Use → List Admitted
offered_by c (called (admit d batch) (replied (Taken reply))) = if d == c then batch.items else []
offered_by c (called (admit d batch) failed) = if d == c then batch.items else []
offered_by c (cut (admit d batch)) = if d == c then batch.items else []
offered_by c u = []

-- those that the uses may have given for it, in their order
abbrev pub offered_in : ℕ → List Use → List Admitted
offered_in c [] = []
offered_in c (u ∷ us) = offered_by c u ++ offered_in c us

-- the one list is the other without some of its elements
abbrev pub IsPartOf : {X : Type 0} → List X → List X → Type 0
IsPartOf xs [] = xs ≡ []
IsPartOf {X} xs (y ∷ ys) = IsPartOf xs ys ⊎ ((rest : List X) × (xs ≡ y ∷ rest) × IsPartOf rest ys)

-- The batch is recorded in the history at the numbers of its receipt, but for the records that the reply calls late: those below some earlier
-- times and marks, or below one before them in the batch. Any earlier ones are allowed here, since the uses alone don't say which there
-- were: a call that failed or was cut gave its own, or didn't. `AreRun` says which, by the steps that the uses are.
abbrev pub IsRecordedThere : History → ℕ → List Admitted → BatchReply → Type 0
IsRecordedThere h c batch reply = (earlier : List ℕ) × (before : List Admitted) × (count : ℕ) × IsRecorded h earlier before count c batch reply

-- The history is right. Each question that was answered has the answer of this history, below whose settled watermark its last moment is; each batch
-- that was taken is recorded at the numbers of its receipt; and no collector has a record but of what was offered for it, in that order.
pub record IsPromised (us : List Use) (h : History) : Type 0 where
  pub right : IsHistory h
  pub answers : (k : ℕ) (query : Query) (answer : Answer) → slice_get us k ≡ Some (called (ask query) (replied (Done answer))) → IsAnswered (all_of h) query answer
  pub settled : (k : ℕ) (query : Query) (answer : Answer) → slice_get us k ≡ Some (called (ask query) (replied (Done answer))) → last_moment query < settled h
  pub receipts : (k c : ℕ) (batch : Vec Admitted) (reply : BatchReply) → slice_get us k ≡ Some (called (admit c batch) (replied (Taken reply))) → IsRecordedThere h c batch.items reply
  pub only : (c : ℕ) (i : Intake) → slice_get h.intakes c ≡ Some i → IsPartOf i.admitted (offered_in c us)
