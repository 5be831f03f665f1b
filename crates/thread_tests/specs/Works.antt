-- What threads do on an archive that they share, and what that means.
use Rattle.std.specs.Prelude.{◌≡◌, ◌<◌, ⊤, List, [], ◌∷◌, Result, Ok, Err}
use Rattle.std.specs.List.{AllZip}
use Rattle.route_meaning.specs.History.{History, applied, settled}
use Rattle.interleaving_core.specs.declared.query.Query.{Query}
use Rattle.interleaving_core.specs.declared.query.Answer.{Answer}
use Rattle.interleaving_core.specs.Does.{last_moment}
use Rattle.interleaving_core.specs.Headline.{IsAnswered}
use Rattle.board.specs.Past.{Past}
use Rattle.board.specs.Views.{View, IsFrontOf}
use Rattle.query_threads.specs.Seeing.{Sees, Since}
use Rattle.query_threads.specs.Steps.{DoesAdmit, DoesMark, DoesApply}
use Rattle.query_threads.specs.Turns.{IsReported}
use Rattle.query_threads.specs.declared.refusal.AskError.{AskError}
use Rattle.shared_archive.specs.Held.{HeldRepresents}
use Rattle.thread_tests.specs.declared.works.Work.{Work}
use Rattle.thread_tests.specs.declared.works.Work.TheVariants.{Admit, Mark, Apply, Ask}
use Rattle.thread_tests.specs.declared.works.Returned.{Returned}
use Rattle.thread_tests.specs.declared.works.Returned.TheVariants.{Admitted, Marked, Applied, Answered}
use Rattle.thread_tests.specs.declared.sharing.Played.{Played}

-- The answer to a question over this history, below whose settled watermark its last moment is; or it is refused, since it isn't below, or for
-- a trouble from outside.
abbrev pub IsReplyOver : History → Query → Result Answer AskError → Type 0
IsReplyOver h query (Ok answer) = IsAnswered (applied h) query answer × (last_moment query < settled h)
IsReplyOver h query (Err refusal) = IsReported refusal h query

-- A call returned this, between what the thread's pass saw before it and after it: it was made on a past that goes on from the first, and the
-- reply is that of this past.
abbrev pub IsReplied : Work → Returned → View → View → Type 0
IsReplied (Admit c batch) (Admitted result) v w = Sees (DoesAdmit c batch.items result) v w
IsReplied (Mark c mark) (Marked result) v w = Sees (DoesMark c mark result) v w
IsReplied Apply (Applied result) v w = Sees (DoesApply result) v w
IsReplied (Ask query) (Answered result) v w = Since v w × IsReplyOver w.past.history query result
IsReplied _ _ v w = ⊥

-- calls returned these, one after another, each from what the one before it left
abbrev pub Follows : List Work → List Returned → View → View → Type 0
Follows [] [] v w = w ≡ v
Follows (work ∷ works) (one ∷ returned) v w = (u : View) × IsReplied work one v u × Follows works returned u w
Follows _ _ v w = ⊥

-- a question that was answered has the answer of this history
abbrev pub IsAnswerOf : History → Work → Returned → Type 0
IsAnswerOf h (Ask query) (Answered (Ok answer)) = IsAnswered (applied h) query answer
IsAnswerOf h _ _ = ⊤

-- All calls of one thread: they follow one another from what its pass saw first to what the last past goes on from; and whatever was answered is
-- the answer of the last past's history.
pub record IsWork (works : List Work) (returned : List Returned) (first : View) (last : Past) : Type 0 where
  pub seen : View
  pub follows : Follows works returned first seen
  pub front : IsFrontOf last seen
  pub answers : AllZip (IsAnswerOf last.history) works returned

-- What two threads did on an archive that they shared, whose passes saw this first: when it is closed it represents a past, up to which the calls
-- of both lead.
pub record IsPlayed (first : View) (works others : List Work) (played : Played) : Type 0 where
  pub last : Past
  pub represented : HeldRepresents played.store.archive last
  pub one : IsWork works played.one.items first last
  pub two : IsWork others played.two.items first last
