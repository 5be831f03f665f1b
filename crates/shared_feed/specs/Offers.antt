-- What a feed does with a shared archive, turn by turn.
use Rattle.std.specs.Prelude.{◌≡◌, ℕ, ◌-◌, List, [], ◌∷◌, ◌++◌, length, Ok, Err, ⊤}
use Rattle.route_model.specs.Admission.{Admitted}
use Rattle.board.specs.Views.{View}
use Rattle.interleaving_core.specs.declared.reply.BatchReply.{BatchReply}
use Rattle.query_threads.specs.Seeing.{Sees, Since}
use Rattle.query_threads.specs.Steps.{DoesAdmit}
use Rattle.query_threads.specs.declared.refusal.AdmitError.{AdmitError}
use Rattle.query_threads.specs.declared.refusal.AdmitError.TheVariants as admits
use Rattle.resolve.specs.declared.fault.ResolveFault.{ResolveFault}
use Rattle.server.specs.Marks.{AppliesUntilIdle}
use Rattle.service.specs.Faults.{of_record}
use Rattle.service.specs.FeedLines.{admitted_text}
use Rattle.service.specs.FeedTexts.{capped}
use Rattle.service.specs.Outputs.{OutputState, Reports}
use Rattle.service.specs.Refusals.{refused_record_line}
use Rattle.service.specs.Turns.{Turn, Offer, Refuse}
use Rattle.service.specs.declared.faults.FeedStop.{FeedStop}
use Rattle.service.specs.declared.faults.FeedStop.TheVariants as stops

-- A call made over what the pass had seen, or later, admitted the batch, as the reply says. Other threads may have called before it.
-- If nothing is promised of the archive, no call of it is claimed to be right.
pub record Admits (promised : Type 0) (c : ℕ) (batch : List Admitted) (reply : BatchReply) (v w : View) : Type 0 where
  pub at : View
  pub since : Since v at
  pub sees : promised → Sees (DoesAdmit c batch (Ok reply)) at w

-- a call made over what the pass had seen, or later, refused the batch for this
pub record Refuses (promised : Type 0) (c : ℕ) (batch : List Admitted) (refusal : AdmitError) (v w : View) : Type 0 where
  pub at : View
  pub since : Since v at
  pub sees : promised → Sees (DoesAdmit c batch (Err refusal)) at w

-- the batch was refused as the ring was full; then what may be applied was applied, and it was refused so again
pub record StaysFull (promised : Type 0) (c : ℕ) (batch : List Admitted) (v w : View) : Type 0 where
  pub full : View
  pub room : View
  pub first : Refuses promised c batch admits.IntakeFull v full
  pub applied : promised → AppliesUntilIdle full room
  pub second : Refuses promised c batch admits.IntakeFull room w

-- why a batch isn't taken; nothing is stated of troubles
abbrev pub IsNotTaken : Type 0 → ℕ → List Admitted → View → View → FeedStop → Type 0
IsNotTaken promised c batch v w stops.NoCollector = Refuses promised c batch admits.NoCollector v w
IsNotTaken promised c batch v w stops.CounterFull = Refuses promised c batch admits.CounterFull v w
IsNotTaken promised c batch v w stops.IntakeFull = StaysFull promised c batch v w
IsNotTaken promised c batch v w (stops.Trouble trouble) = ⊤
IsNotTaken promised c batch v w stops.Outside = ⊤

-- how many records of a batch were admitted
abbrev pub admitted_in : BatchReply → ℕ
admitted_in reply = reply.receipt.to - reply.receipt.from

-- how many of them came late
abbrev pub late_in : BatchReply → ℕ
late_in reply = length reply.late.items

-- These turns were made one after another: each batch was admitted, with this reply, whose lines were written; of each refused record the
-- line was.
pub data Makes (promised : Type 0) (c : ℕ) (v : View) (was : OutputState) : List Turn → List BatchReply → View → OutputState → Type 0 where
  Begun : Makes promised c v was [] [] v was
  Offered : (turns : List Turn) (replies : List BatchReply) (w x : View) (now out : OutputState) (batch : List Admitted) (reply : BatchReply)
      → Makes promised c v was turns replies w now → Admits promised c batch reply w x → Reports now out (admitted_text reply) → Makes promised c v was (turns ++ Offer batch ∷ []) (replies ++ reply ∷ []) x out
  Refused : (turns : List Turn) (replies : List BatchReply) (w : View) (now out : OutputState) (place : ℕ) (fault : ResolveFault)
      → Makes promised c v was turns replies w now → Reports now out (refused_record_line (of_record fault) (capped place)) → Makes promised c v was (turns ++ Refuse place fault ∷ []) replies w out
