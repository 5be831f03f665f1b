-- Uses of an archive on two disks, one after another, with crashes inside any of them.
use Rattle.std.specs.Prelude.{◌≡◌, ◌⊎◌, ◌++◌, ℕ, List, [], ◌∷◌, Option, Some, None, Result, Ok, Err, slice_get, slice_set}
use Rattle.disk_models.specs.declared.erase.EraseDisk.{Ghosts as EraseGhosts}
use Rattle.disk_models.specs.declared.once.OnceDisk.{Ghosts as OnceGhosts}
use Rattle.disk_models.specs.Left.{CrashPair, IsFound, Left, LeftNow}
use Rattle.interleaving_core.specs.declared.query.Answer.{Answer}
use Rattle.interleaving_core.specs.declared.reply.BatchReply.{BatchReply}
use Rattle.disk_archive.specs.declared.archive.Archive.{Archive}
use Rattle.disk_archive.specs.declared.error.AdmitError.{AdmitError}
use Rattle.disk_archive.specs.declared.mark_error.MarkError.{MarkError}
use Rattle.disk_archive.specs.declared.apply_error.ApplyError.{ApplyError}
use Rattle.disk_archive.specs.declared.applying.Step.{Step}
use Rattle.disk_archive.specs.declared.flush_error.FlushError.{FlushError}
use Rattle.disk_archive.specs.declared.flushing.Flush.{Flush}
use Rattle.disk_archive.specs.declared.ask_error.AskError.{AskError}
use Rattle.disk_archive.specs.declared.open_error.OpenError.{OpenError}
use Rattle.disk_archive.specs.declared.refused.Refused.{Refused}
use Rattle.once_store.specs.declared.reader.ShelfReader.{ShelfReader}
use Rattle.once_store.specs.declared.error.BlockError.{BlockError}
use Rattle.once_store.specs.Readers.{reader_disk}
use Rattle.tsb_walk.specs.Knowing.{ReadsWell}
use Rattle.route_meaning.specs.History.{History}
use Rattle.interleaving_core.specs.declared.query.Query.{Query}
use Rattle.disk_archive.specs.declared.cursor.Cursor.{Cursor}
use Rattle.disk_archive.specs.declared.descending.Descent.{Descent}
use Rattle.disk_archive.specs.declared.descending.Descent.TheVariants.{Done, Again, Historical}
use Rattle.disk_archive.specs.declared.errand.Errand.{Errand}
use Rattle.disk_archive.specs.Cursors.{asks as query_of, IsGathered}
use Rattle.disk_archive.specs.Archives.{erase_of, erase_state, is_down, once_of, once_state, pen_in}
use Rattle.disk_archive.specs.Outcome.{erase_after, pen_after}
use Rattle.archive_uses.specs.Use.{Call, Use, Verdict}
use Rattle.archive_uses.specs.Use.Call.{admit, mark, apply, flush, ask}
use Rattle.archive_uses.specs.Use.Use.{called, cut, looked, cut_looking, begun, finished, closed, lost, found, opened, shut, cut_opening}
use Rattle.archive_uses.specs.Verdicts.{of_admit, of_mark, of_apply, of_flush, of_ask, of_turn}
use Rattle.archive_uses.specs.Calls.{Admits, Marks, Steps, Flushes, Asks, Looks, Turns, Finishes, IsCut}
use Rattle.archive_uses.specs.Openings.{Opens}

-- What there is: an archive, which may have to be opened again; both disks, with the pen of the write-once one; or what a crash left of
-- disks, of which the write-once one has this many blocks.
pub data Stage (E O Pen Seen : Type 0) (erase : EraseGhosts E) (once : OnceGhosts O Pen Seen) : Type 0 where
  on : Archive E O Pen Seen erase once → Stage E O Pen Seen erase once
  off : E → O → Pen → Stage E O Pen Seen erase once
  gone : ℕ → Left → Stage E O Pen Seen erase once

-- a crash came inside a call that only reads
abbrev pub LookCut : {E O Pen Seen : Type 0} {erase : EraseGhosts E} {once : OnceGhosts O Pen Seen} → Archive E O Pen Seen erase once → Left → Type 0
LookCut {E} {O} {Pen} {Seen} {erase} {once} a left = (z : Archive E O Pen Seen erase once) × Looks a z × IsCut a z left

-- the call ended so
abbrev pub CallEnds : {E O Pen Seen : Type 0} {erase : EraseGhosts E} {once : OnceGhosts O Pen Seen} → Call → Verdict → Archive E O Pen Seen erase once → Archive E O Pen Seen erase once → Type 0
CallEnds (admit c batch) v a z = (result : Result BatchReply AdmitError) × Admits a z c batch.items result × (v ≡ of_admit result (is_down z))
CallEnds (mark c m) v a z = (result : Result (Unit {0}) MarkError) × Marks a z c m result × (v ≡ of_mark result (is_down z))
CallEnds apply v a z = (result : Result Step ApplyError) × Steps a z result × (v ≡ of_apply result (is_down z))
CallEnds flush v a z = (result : Result Flush FlushError) × Flushes a z result × (v ≡ of_flush result (is_down z))
CallEnds (ask query) v a z = (result : Result Answer AskError) × Asks a z query result × (v ≡ of_ask result (is_down z))

-- a crash came inside the call, which would have ended somehow
abbrev pub CallCut : {E O Pen Seen : Type 0} {erase : EraseGhosts E} {once : OnceGhosts O Pen Seen} → Call → Archive E O Pen Seen erase once → Left → Type 0
CallCut {E} {O} {Pen} {Seen} {erase} {once} (admit c batch) a left = (z : Archive E O Pen Seen erase once) × (result : Result BatchReply AdmitError) × Admits a z c batch.items result × IsCut a z left
CallCut {E} {O} {Pen} {Seen} {erase} {once} (mark c m) a left = (z : Archive E O Pen Seen erase once) × (result : Result (Unit {0}) MarkError) × Marks a z c m result × IsCut a z left
CallCut {E} {O} {Pen} {Seen} {erase} {once} apply a left = (z : Archive E O Pen Seen erase once) × (result : Result Step ApplyError) × Steps a z result × IsCut a z left
CallCut {E} {O} {Pen} {Seen} {erase} {once} flush a left = (z : Archive E O Pen Seen erase once) × (result : Result Flush FlushError) × Flushes a z result × IsCut a z left
CallCut (ask query) a left = LookCut a left

-- from one stage the use leads to another
abbrev pub Leads : {E O Pen Seen : Type 0} {erase : EraseGhosts E} {once : OnceGhosts O Pen Seen} → Use → Stage E O Pen Seen erase once → Stage E O Pen Seen erase once → Type 0
Leads (called call v) (on a) (on z) = CallEnds call v a z
Leads {once = once} (cut call) (on a) (gone n left) = CallCut call a left × (n ≡ once.block_count (once_of a))
Leads looked (on a) (on z) = Looks a z
Leads {once = once} cut_looking (on a) (gone n left) = LookCut a left × (n ≡ once.block_count (once_of a))
Leads closed (on a) (off e o pen) = (e ≡ erase_of a) × (o ≡ once_of a) × (pen ≡ pen_in a)
Leads {once = once} lost (on a) (gone n left) = LeftNow (erase_state a) (once_state a) left × (n ≡ once.block_count (once_of a))
Leads {erase = erase} {once = once} lost (off e o pen) (gone n left) = LeftNow (erase.model e) (once.model pen) left × (n ≡ once.block_count o)
Leads {erase = erase} {once = once} found (gone n left) (off e o pen) = IsFound (erase.model e) (once.model pen) left × (once.block_count o ≡ n) × erase.honest e × once.honest o pen
Leads opened (off e o pen) (on a) = Opens e o pen (Ok a)
Leads {E} {O} {Pen} {Seen} {erase} {once} shut (off e o pen) (off f p new) = (refused : Refused E O OpenError Pen Seen) × Opens {erase = erase} {once = once} e o pen (Err refused) × (f ≡ refused.erase) × (p ≡ refused.once.value) × (new ≡ refused.pen)
Leads {E} {O} {Pen} {Seen} {erase} {once} cut_opening (off e o pen) (gone n left) = (result : Result (Archive E O Pen Seen erase once) (Refused E O OpenError Pen Seen)) × Opens e o pen result
    × CrashPair (erase.model e) (erase.model (erase_after result)) (once.model pen) (once.model pen) (once.model (pen_after result)) left × (n ≡ once.block_count o)
Leads _ _ _ = ⊥

-- an errand in hand: on a disk of this many blocks, of which these were settled when it was given
pub record Errands : Type 0 where
  pub errand : Errand
  pub blocks : ℕ
  pub known : ℕ → Option (List ℕ)

-- a question in hand: its cursor, and its errand, if its last turn gave one
pub record Asked : Type 0 where
  pub cursor : Cursor
  pub errand : Option Errands

-- what there is, and the questions in hand
pub record Scene (E O Pen Seen : Type 0) (erase : EraseGhosts E) (once : OnceGhosts O Pen Seen) : Type 0 where
  pub stage : Stage E O Pen Seen erase once
  pub hand : List Asked

-- the errand that a turn gave
abbrev pub errand_given : {E O Pen Seen : Type 0} {erase : EraseGhosts E} {once : OnceGhosts O Pen Seen} → Archive E O Pen Seen erase once → Result Descent AskError → Option Errands
errand_given {once = once} a (Ok (Historical errand)) = Some (record { errand = errand; blocks = once.block_count (once_of a); known = (once_state a).settled })
errand_given a (Ok (Done answer)) = None
errand_given a (Ok Again) = None
errand_given a (Err e) = None

-- a turn of a question in hand, which ends so
pub record TurnEnds {E O Pen Seen : Type 0} {erase : EraseGhosts E} {once : OnceGhosts O Pen Seen} (query : Query) (v : Verdict) (a z : Archive E O Pen Seen erase once) (hand next : List Asked) : Type 0 where
  pub number : ℕ
  pub question : Asked
  pub here : slice_get hand number ≡ Some question
  pub asks : query_of question.cursor ≡ query
  pub cursor : Cursor
  pub result : Result Descent AskError
  pub turns : Turns a z question.cursor cursor result
  pub verdict : v ≡ of_turn result (is_down z)
  pub after : next ≡ slice_set hand number (record { cursor = cursor; errand = errand_given a result })

-- a question is begun, over whatever history
pub record BeginEnds (hand next : List Asked) : Type 0 where
  pub cursor : Cursor
  pub gathered : (h : History) → IsGathered cursor h
  pub after : next ≡ hand ++ record { cursor = cursor; errand = None } ∷ []

-- The errand of a question in hand is finished, by a reader of a disk of as many blocks that reads well, and by a look that knows each block that
-- was settled when the errand was given.
pub record FinishEnds {O Pen Seen : Type 0} (once : OnceGhosts O Pen Seen) (hand next : List Asked) : Type 0 where
  pub number : ℕ
  pub question : Asked
  pub here : slice_get hand number ≡ Some question
  pub given : Errands
  pub has : question.errand ≡ Some given
  pub reader : ShelfReader O Pen Seen once
  pub seen : Seen
  pub well : ReadsWell once reader seen
  pub blocks : once.block_count (reader_disk reader) ≡ given.blocks
  pub knows : (n : ℕ) (octets : List ℕ) → given.known n ≡ Some octets → once.known seen n ≡ Some octets
  pub cursor : Cursor
  pub result : Result (Unit {0}) BlockError
  pub finishes : Finishes once reader seen given.errand question.cursor cursor result
  pub after : next ≡ slice_set hand number (record { cursor = cursor; errand = None })

-- A use with the questions in hand: they stay, but for the one that takes a turn; a crash ends them.
abbrev pub Goes : {E O Pen Seen : Type 0} {erase : EraseGhosts E} {once : OnceGhosts O Pen Seen} → Use → Stage E O Pen Seen erase once → Stage E O Pen Seen erase once → List Asked → List Asked → Type 0
Goes (called (ask query) v) (on a) (on z) hand next = (CallEnds (ask query) v a z × (next ≡ hand)) ⊎ TurnEnds query v a z hand next
Goes begun s t hand next = (t ≡ s) × BeginEnds hand next
Goes {once = once} finished s t hand next = (t ≡ s) × FinishEnds once hand next
Goes (cut call) s t hand next = Leads (cut call) s t × (next ≡ [])
Goes cut_looking s t hand next = Leads cut_looking s t × (next ≡ [])
Goes lost s t hand next = Leads lost s t × (next ≡ [])
Goes cut_opening s t hand next = Leads cut_opening s t × (next ≡ [])
Goes u s t hand next = Leads u s t × (next ≡ hand)

-- the uses, one after another, lead from one scene to another
abbrev pub Uses : {E O Pen Seen : Type 0} {erase : EraseGhosts E} {once : OnceGhosts O Pen Seen} → Scene E O Pen Seen erase once → List Use → Scene E O Pen Seen erase once → Type 0
Uses s [] t = t ≡ s
Uses {E} {O} {Pen} {Seen} {erase} {once} s (u ∷ us) t = (between : Scene E O Pen Seen erase once) × Goes u s.stage between.stage s.hand between.hand × Uses between us t
