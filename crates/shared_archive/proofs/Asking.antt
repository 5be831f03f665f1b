-- Questions over a past, and their errands.
use Rattle.std.proofs.Common.{◌≡◌, ◌∙◌, ◌↔◌, ◌<◌, ◌≤◌, ℕ, Bool, false, List, Option, Result, Err, refl, sym, ap, subst}
use Rattle.disk_models.specs.declared.erase.EraseDisk.{Ghosts as EraseGhosts}
use Rattle.disk_models.specs.declared.once.OnceDisk.{Ghosts}
use Rattle.disk_models.specs.Once.{OnceState}
use Rattle.once_store.specs.declared.reader.ShelfReader.{ShelfReader}
use Rattle.once_store.specs.Readers.{kept_blocks, reader_disk}
use Rattle.route_meaning.specs.History.{History, settled}
use Rattle.interleaving_core.specs.declared.query.Query.{Query}
use Rattle.interleaving_core.specs.Does.{last_moment}
use Rattle.tsb_walk.specs.Inside.{CachesInside}
use Rattle.tsb_walk.specs.Knowing.{ReadsWell}
use Rattle.board.specs.Past.{Past, Among}
use Rattle.query_threads.specs.Looks.{AreSettled, AreTheSettled}
use Rattle.query_threads.specs.Turns.{IsReported, IsReportedAt}
use Rattle.disk_archive.specs.declared.archive.Archive.{Archive}
use Rattle.disk_archive.specs.Archives.{once_of, once_state}
use Rattle.disk_archive.specs.Reading.{ReadsFrom}
use Rattle.disk_archive.specs.declared.ask_error.AskError.{AskError}
use Rattle.disk_archive.specs.declared.ask_error.AskError.TheVariants as asks
use Rattle.disk_archive.specs.declared.cursor.Cursor.{Cursor}
use Rattle.disk_archive.specs.declared.errand.Errand.{Errand}
use Rattle.disk_archive.specs.Descents.{Located, LocatedKnown}
use Rattle.shared_archive.specs.Represented.{LocatedInPast, RepresentsPast}
use Rattle.shared_archive.specs.inner.StoreCalls.{of_ask}
use Rattle.shared_archive.proofs.Blocks.{block_of, entry_of}

-- why what asks up to a moment isn't answered
pub not_looked : {R : Type 0} (down : Bool) (h : History) (moment : ℕ) (e : AskError)
    → ((mark : ℕ) → (◌≡◌ {A = Result R AskError} (Err e) (Err (asks.AboveWatermark mark))) ↔ ((down ≡ false) × (mark ≡ settled h) × (settled h ≤ moment)))
    → ((page : ℕ) → e ≡ asks.BadNode page → ⊥)
    → ((block : ℕ) → e ≡ asks.Damaged block → ⊥)
    → IsReportedAt (of_ask e) h moment
not_looked down h moment asks.NeedsRecovery above sound undamaged = tt
not_looked down h moment (asks.AboveWatermark mark) above sound undamaged = let reported = (above mark).0 refl in (reported.1, reported.2)
not_looked down h moment (asks.BadNode page) above sound undamaged = sound page refl
not_looked down h moment (asks.Damaged block) above sound undamaged = undamaged block refl
not_looked down h moment asks.Fault above sound undamaged = tt
not_looked down h moment asks.OutOfMemory above sound undamaged = tt

-- why a question isn't answered
pub not_answered : {R : Type 0} (down : Bool) (h : History) (query : Query) (e : AskError)
    → ((mark : ℕ) → (◌≡◌ {A = Result R AskError} (Err e) (Err (asks.AboveWatermark mark))) ↔ ((down ≡ false) × (mark ≡ settled h) × (settled h ≤ last_moment query)))
    → ((page : ℕ) → e ≡ asks.BadNode page → ⊥)
    → ((block : ℕ) → e ≡ asks.Damaged block → ⊥)
    → IsReported (of_ask e) h query
not_answered {R} down h query e above sound undamaged = not_looked {R = R} down h (last_moment query) e above sound undamaged

-- an errand that lies in settled blocks lies in those of the past, which are these
pub located_past : (count : ℕ) (known : ℕ → Option (List ℕ)) (errand : Errand) (c : Cursor) (p : Past) → AreTheSettled count known p.blocks → Located count known errand c p.history → LocatedInPast count errand c p
located_past count known errand c p are l other same = record {
  right = l.right;
  below = l.below;
  gathered = l.gathered;
  versions = l.versions;
  kept = l.kept;
  represents_node = l.represents_node;
  are = λ n node here. (let b = l.are n node here in record { inside = b.inside; octets = b.octets; here = ((same n b.octets).0 ((are n b.octets).1 (b.inside, b.here))).1; represents_node = b.represents_node });
  represents_all = l.represents_all;
}

module _ {O Pen Seen : Type 0} (device : Ghosts O Pen Seen) (reader : ShelfReader O Pen Seen device) (seen : Seen) where
  -- blocks that are settled are known, and lie on the disk
  pub reads_well : AreSettled (device.block_count (reader_disk reader)) (device.known seen) (kept_blocks reader) → device.honest_seen (reader_disk reader) seen → ReadsWell device reader seen
  reads_well are honest = record { honest = honest; kept = λ n block k. (are n block (block_of (kept_blocks reader) n block k)).1 }

  pub keeps_inside : AreSettled (device.block_count (reader_disk reader)) (device.known seen) (kept_blocks reader) → CachesInside device reader
  keeps_inside are = λ n block k. (are n block (block_of (kept_blocks reader) n block k)).0

  -- the errand lies in the blocks that the reader knows
  pub located_known : (errand : Errand) (c : Cursor) (p : Past) → AreSettled (device.block_count (reader_disk reader)) (device.known seen) (kept_blocks reader) → device.honest_seen (reader_disk reader) seen → LocatedInPast (device.block_count (reader_disk reader)) errand c p
      → AreTheSettled (device.block_count (reader_disk reader)) (device.known seen) p.blocks → LocatedKnown device reader seen errand c p.history
  located_known errand c p are honest l past = record { well = reads_well are honest; located = l (device.known seen) past }

  -- what a reader keeps afterwards is settled still
  pub settled_still : (new : ShelfReader O Pen Seen device) (seen' : Seen) → ReadsWell device new seen' → CachesInside device new → reader_disk new ≡ reader_disk reader → device.known seen' ≡ device.known seen → AreSettled (device.block_count (reader_disk reader)) (device.known seen) (kept_blocks new)
  settled_still new seen' well inside disk known = λ n octets b.
      let k = entry_of (kept_blocks new) n octets b in
      (subst (λ (d : O). n < device.block_count d) disk (inside n octets k), ap (λ (f : ℕ → Option (List ℕ)). f n) (sym known) ∙ well.kept n octets k)

-- ---- the reader of a walk

module _ {E O Pen Seen : Type 0} {erase : EraseGhosts E} {once : Ghosts O Pen Seen} (a z : Archive E O Pen Seen erase once) (reader new : ShelfReader O Pen Seen once) (p : Past) (k : RepresentsPast a p) where
  -- a reader of the past's blocks, on the archive's disk, is one of the archive
  pub from_past : reader_disk reader ≡ once_of a → Among (kept_blocks reader) p.blocks → ReadsFrom a reader
  from_past disk among = record { disk = disk; kept = λ n octets kept. ((k.blocks n octets).0 (among n octets (block_of (kept_blocks reader) n octets kept))).1 }

  -- what such a reader keeps lies on its disk
  inside : reader_disk reader ≡ once_of a → Among (kept_blocks reader) p.blocks → CachesInside once reader
  inside disk among n octets kept = subst (λ (d : O). n < once.block_count d) (sym disk) ((k.blocks n octets).0 (among n octets (block_of (kept_blocks reader) n octets kept))).0

  -- what it keeps after a call that left the blocks as they were is of the past's blocks
  pub among_then : once_of z ≡ once_of a → once_state z ≡ once_state a → reader_disk reader ≡ once_of a → Among (kept_blocks reader) p.blocks → ReadsFrom z new → (CachesInside once reader → CachesInside once new) → Among (kept_blocks new) p.blocks
  among_then same state disk among from on_disk n octets b =
      let kept = entry_of (kept_blocks new) n octets b in
      (k.blocks n octets).1 (subst (λ (d : O). n < once.block_count d) (from.disk ∙ same) (on_disk (inside disk among) n octets kept), ap (λ (o : OnceState). o.settled n) (sym state) ∙ from.kept n octets kept)

-- the same of one archive and one reader
pub reads_from : {E O Pen Seen : Type 0} {erase : EraseGhosts E} {once : Ghosts O Pen Seen} (a : Archive E O Pen Seen erase once) (reader : ShelfReader O Pen Seen once) (p : Past) → RepresentsPast a p → reader_disk reader ≡ once_of a → Among (kept_blocks reader) p.blocks → ReadsFrom a reader
reads_from a reader p k = from_past a a reader reader p k
