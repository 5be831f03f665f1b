-- What the calls of an archive promise, as a record of each: from the archive before the call, and what it was given, to the archive after it
-- and what it returned. Each field is a clause of the call.
use Rattle.std.specs.Prelude.{◌≡◌, ◌≤◌, ◌<◌, ◌⊎◌, ◌↔◌, ℕ, List, true, false, Result, Ok, Err, IfOk, OnOk, OnErr, Some, slice_get}
use Rattle.disk_models.specs.declared.erase.EraseDisk.{Ghosts as EraseGhosts}
use Rattle.disk_models.specs.declared.once.OnceDisk.{Ghosts as OnceGhosts}
use Rattle.disk_models.specs.Once.{Grows}
use Rattle.disk_models.specs.Left.{CrashPair, Left}
use Rattle.route_model.specs.Admission.{Admitted}
use Rattle.route_meaning.specs.History.{Intake, History, applied, settled}
use Rattle.interleaving_core.specs.declared.query.Query.{Query}
use Rattle.interleaving_core.specs.declared.query.Answer.{Answer}
use Rattle.interleaving_core.specs.declared.reply.BatchReply.{BatchReply}
use Rattle.interleaving_core.specs.Does.{IsReply, last_moment}
use Rattle.interleaving_core.specs.Headline.{IsAnswered}
use Rattle.interleaving_core.specs.Steps.{IsMarkAbove, NothingToApply, given, marked}
use Rattle.disk_archive.specs.declared.archive.Archive.{Archive}
use Rattle.disk_archive.specs.declared.error.AdmitError.{AdmitError}
use Rattle.disk_archive.specs.declared.error.AdmitError.TheVariants as admits
use Rattle.disk_archive.specs.declared.mark_error.MarkError.{MarkError}
use Rattle.disk_archive.specs.declared.mark_error.MarkError.TheVariants as marks
use Rattle.disk_archive.specs.declared.apply_error.ApplyError.{ApplyError}
use Rattle.disk_archive.specs.declared.apply_error.ApplyError.TheVariants as applies
use Rattle.disk_archive.specs.declared.applying.Step.{Step}
use Rattle.disk_archive.specs.declared.applying.Step.TheVariants as steps
use Rattle.disk_archive.specs.declared.flush_error.FlushError.{FlushError}
use Rattle.disk_archive.specs.declared.flush_error.FlushError.TheVariants as flushes
use Rattle.disk_archive.specs.declared.flushing.Flush.{Flush}
use Rattle.disk_archive.specs.declared.ask_error.AskError.{AskError}
use Rattle.disk_archive.specs.declared.ask_error.AskError.TheVariants as asks
use Rattle.disk_archive.specs.declared.cursor.Cursor.{Cursor}
use Rattle.disk_archive.specs.declared.descending.Descent.{Descent}
use Rattle.disk_archive.specs.declared.errand.Errand.{Errand}
use Rattle.once_store.specs.declared.reader.ShelfReader.{ShelfReader}
use Rattle.once_store.specs.declared.error.BlockError.{BlockError}
use Rattle.disk_archive.specs.Cursors.{asks as query_of, IsGathered}
use Rattle.disk_archive.specs.Descents.{Descends, LocatedKnown}
use Rattle.disk_archive.specs.Archives.{Represents, RepresentsIfHonest, IsHonest, erase_of, erase_state, is_down, once_of, once_state, settings_of, site_of}
use Rattle.disk_archive.specs.Crashes.{Crashes}
use Rattle.disk_archive.specs.Moves.{Moves}
use Rattle.disk_archive.specs.Sites.{LeftRepresents, LeftEither, LeftMarked}

-- What each call keeps: the settings, the disks, whether they follow their models, and what is tried and settled. On an archive that must be opened again
-- it does nothing.
pub record Keeps {E O Pen Seen : Type 0} {erase : EraseGhosts E} {once : OnceGhosts O Pen Seen} (old new : Archive E O Pen Seen erase once) : Type 0 where
  pub settings : settings_of new ≡ settings_of old
  pub honest : IsHonest old ↔ IsHonest new
  pub disk : once_of new ≡ once_of old
  pub grows : IsHonest old → Grows (once_state old) (once_state new)
  pub idle : IsHonest old → is_down old ≡ true → (erase_of new ≡ erase_of old) × (once_state new ≡ once_state old) × (is_down new ≡ true)

-- a batch of the collector c
pub record Admits {E O Pen Seen : Type 0} {erase : EraseGhosts E} {once : OnceGhosts O Pen Seen} (old new : Archive E O Pen Seen erase once) (c : ℕ) (batch : List Admitted) (result : Result BatchReply AdmitError) : Type 0 where
  pub ok : OnOk result ((h : History) → RepresentsIfHonest old h → RepresentsIfHonest new (given h c batch))
  pub reply : IsHonest old → (h : History) → RepresentsIfHonest old h → (i : Intake) → slice_get h.intakes c ≡ Some i → IfOk result (IsReply i c batch)
  pub err : OnErr result ((h : History) → RepresentsIfHonest old h → RepresentsIfHonest new h)
  pub crash : (h : History) → Represents old h → Crashes old new (LeftEither (site_of old) h (given h c batch))
  pub still_usable : OnOk result (is_down new ≡ false)
  pub falls : is_down old ≡ false → is_down new ≡ true → result ≡ Err admits.Fault
  pub recovery : (result ≡ Err admits.NeedsRecovery) ↔ (is_down old ≡ true)
  pub no_collector : (result ≡ Err admits.NoCollector) ↔ ((is_down old ≡ false) × ((settings_of old).collectors ≤ c))
  pub keeps : Keeps old new

-- a mark of the collector c
pub record Marks {E O Pen Seen : Type 0} {erase : EraseGhosts E} {once : OnceGhosts O Pen Seen} (old new : Archive E O Pen Seen erase once) (c mark : ℕ) (result : Result (Unit {0}) MarkError) : Type 0 where
  pub ok : OnOk result ((h : History) → RepresentsIfHonest old h → RepresentsIfHonest new (marked h c mark))
  pub err : OnErr result ((h : History) → RepresentsIfHonest old h → RepresentsIfHonest new h)
  pub crash : (h : History) → Represents old h → Crashes old new (LeftMarked (site_of old) h c mark)
  pub still_usable : OnOk result (is_down new ≡ false)
  pub falls : is_down old ≡ false → is_down new ≡ true → result ≡ Err marks.Fault
  pub recovery : (result ≡ Err marks.NeedsRecovery) ↔ (is_down old ≡ true)
  pub no_collector : (result ≡ Err marks.NoCollector) ↔ ((is_down old ≡ false) × ((settings_of old).collectors ≤ c))
  pub mark_back : IsHonest old → (h : History) → RepresentsIfHonest old h → (result ≡ Err marks.MarkBack) ↔ ((is_down old ≡ false) × IsMarkAbove h c mark)
  pub keeps : Keeps old new

-- a step of applying
pub record Steps {E O Pen Seen : Type 0} {erase : EraseGhosts E} {once : OnceGhosts O Pen Seen} (old new : Archive E O Pen Seen erase once) (result : Result Step ApplyError) : Type 0 where
  pub applied : IfOk result (λ step. step ≡ steps.Applied → IsHonest old → (h : History) → RepresentsIfHonest old h → (g : History) × Moves h g × RepresentsIfHonest new g)
  pub idle : IfOk result (λ step. IsHonest old → (h : History) → RepresentsIfHonest old h → (step ≡ steps.Idle) ↔ NothingToApply h)
  pub idle_same : result ≡ Ok steps.Idle → (h : History) → RepresentsIfHonest old h → RepresentsIfHonest new h
  pub err : OnErr result ((h : History) → RepresentsIfHonest old h → RepresentsIfHonest new h)
  pub crash : (h : History) → Represents old h → (g : History) × ((g ≡ h) ⊎ Moves h g) × Crashes old new (LeftEither (site_of old) h g)
  pub still_usable : OnOk result (is_down new ≡ false)
  pub recovery : (result ≡ Err applies.NeedsRecovery) ↔ (is_down old ≡ true)
  pub keeps : Keeps old new

-- a step of flushing
pub record Flushes {E O Pen Seen : Type 0} {erase : EraseGhosts E} {once : OnceGhosts O Pen Seen} (old new : Archive E O Pen Seen erase once) (result : Result Flush FlushError) : Type 0 where
  pub holds : (h : History) → RepresentsIfHonest old h → RepresentsIfHonest new h
  pub crash : (h : History) → Represents old h → Crashes old new (LeftRepresents (site_of old) h)
  pub usable : OnOk result ((is_down old ≡ false) × (is_down new ≡ false))
  pub recovery : (result ≡ Err flushes.NeedsRecovery) ↔ (is_down old ≡ true)
  pub keeps : Keeps old new

-- a call that only reads
pub record Looks {E O Pen Seen : Type 0} {erase : EraseGhosts E} {once : OnceGhosts O Pen Seen} (old new : Archive E O Pen Seen erase once) : Type 0 where
  pub holds : (h : History) → RepresentsIfHonest old h → RepresentsIfHonest new h
  pub crash : (h : History) → Represents old h → Crashes old new (LeftRepresents (site_of old) h)
  pub down : is_down new ≡ is_down old
  pub keeps : Keeps old new

-- a question
pub record Asks {E O Pen Seen : Type 0} {erase : EraseGhosts E} {once : OnceGhosts O Pen Seen} (old new : Archive E O Pen Seen erase once) (query : Query) (result : Result Answer AskError) : Type 0 where
  pub answered : IfOk result (λ answer. IsHonest old → (h : History) → RepresentsIfHonest old h → IsAnswered (applied h) query answer)
  pub below : OnOk result (IsHonest old → (h : History) → RepresentsIfHonest old h → last_moment query < settled h)
  pub above : IsHonest old → (h : History) → RepresentsIfHonest old h → (mark : ℕ) → (result ≡ Err (asks.AboveWatermark mark)) ↔ ((is_down old ≡ false) × (mark ≡ settled h) × (settled h ≤ last_moment query))
  pub recovery : (result ≡ Err asks.NeedsRecovery) ↔ (is_down old ≡ true)
  pub looks : Looks old new

-- a turn of a question, from one cursor to the next
pub record Turns {E O Pen Seen : Type 0} {erase : EraseGhosts E} {once : OnceGhosts O Pen Seen} (old new : Archive E O Pen Seen erase once) (c d : Cursor) (result : Result Descent AskError) : Type 0 where
  pub descends : IfOk result (λ descent. IsHonest old → (h : History) → RepresentsIfHonest old h → IsGathered c h → Descends (once.block_count (once_of old)) (once_state old).settled h c d descent)
  pub gathered : IsHonest old → (h : History) → RepresentsIfHonest old h → IsGathered c h → IsGathered d h
  pub same : query_of d ≡ query_of c
  pub below : OnOk result (IsHonest old → (h : History) → RepresentsIfHonest old h → last_moment (query_of c) < settled h)
  pub above : IsHonest old → (h : History) → RepresentsIfHonest old h → (mark : ℕ) → (result ≡ Err (asks.AboveWatermark mark)) ↔ ((is_down old ≡ false) × (mark ≡ settled h) × (settled h ≤ last_moment (query_of c)))
  pub recovery : (result ≡ Err asks.NeedsRecovery) ↔ (is_down old ≡ true)
  pub unmoved : is_down old ≡ true → d ≡ c
  pub looks : Looks old new

-- an errand is finished by a reader of blocks, with a look at what is settled, from one cursor to the next
pub record Finishes {O Pen Seen : Type 0} (once : OnceGhosts O Pen Seen) (reader : ShelfReader O Pen Seen once) (seen : Seen) (errand : Errand) (c d : Cursor) (result : Result (Unit {0}) BlockError) : Type 0 where
  pub gathered : (h : History) → LocatedKnown once reader seen errand c h → OnOk result (IsGathered d h)
  pub same : query_of d ≡ query_of c
  pub kept : OnErr result ((h : History) → IsGathered c h → IsGathered d h)

-- A crash inside the call may leave this, if all that the call burns is burnt before its first erasable write. That it is, is assumed.
abbrev pub IsCut : {E O Pen Seen : Type 0} {erase : EraseGhosts E} {once : OnceGhosts O Pen Seen} → Archive E O Pen Seen erase once → Archive E O Pen Seen erase once → Left → Type 0
IsCut old new left = CrashPair (erase_state old) (erase_state new) (once_state old) (once_state new) (once_state new) left
