-- What calls on a file leave, one after another.
use Rattle.std.proofs.Common.{◌∙◌, ℕ, ap, refl, inl, inr, ⊎_elim, arith}
use Rattle.disk_models.specs.Erase.{DiskState, Lingers, MayLeave, Stays, WritesWithin}
use Rattle.disk_models.proofs.api.Moments.{as_before_none, leaves_none, stays_none}
use Rattle.disk_files.specs.declared.file.OctetFile.{Ghosts}
use Rattle.disk_files.specs.declared.seen.FileSeen.{FileSeen}
use Rattle.disk_files.specs.declared.error.FileError.{FileError}
use Rattle.disk_files.specs.declared.error.Part.TheVariants.{Blocks, Map}
use Rattle.disk_files.specs.Files.{FileLingers, FileStays}
use Rattle.disk_files.specs.Marked.{OthersStay}
use Rattle.disk_files.specs.Refusals.{AreAmiss, AreBlocksUnopened, IsUnopened}
use Rattle.disk_files.specs.Seen.{SeenStays, seen_blocks_of, seen_map_of}
use Rattle.disk_files.proofs.Parts.{stays_lingers}

-- no call
pub lingers_none : (s : DiskState) → Lingers s s
lingers_none s = record {
  one_of = λ i settled. refl;
  unsynced = λ i un. un;
  moves = inr (as_before_none s);
  crash = leaves_none s (MayLeave s);
}

-- no call on a file
pub file_lingers_none : {F : Type 0} (file : Ghosts F) (f : F) → FileLingers file f f
file_lingers_none file f = record { follows = (λ h. h, λ h. h); size = λ h. refl; lingers = λ h. lingers_none (file.model f) }

-- looks, and then a sync
pub lingers_after_stays : {F : Type 0} (file : Ghosts F) (f0 f1 f2 : F) → FileStays file f0 f1 → FileLingers file f1 f2 → FileLingers file f0 f2
lingers_after_stays file f0 f1 f2 a b = record {
  follows = (λ h. b.follows.0 (a.follows.0 h), λ h. a.follows.1 (b.follows.1 h));
  size = λ h. b.size (a.follows.0 h) ∙ a.size h;
  lingers = λ h. stays_lingers _ _ _ (a.stays h) (b.lingers (a.follows.0 h));
}

-- looks alone
pub lingers_of_stays : {F : Type 0} (file : Ghosts F) (f0 f1 : F) → FileStays file f0 f1 → FileLingers file f0 f1
lingers_of_stays file f0 f1 a = lingers_after_stays file f0 f1 f1 a (file_lingers_none file f1)

-- no look
pub file_stays_none : {F : Type 0} (file : Ghosts F) (f : F) → FileStays file f f
file_stays_none file f = record { follows = (λ h. h, λ h. h); size = λ h. refl; stays = λ h. stays_none (file.model f) }

-- no read
pub seen_stays_none : {F : Type 0} (file : Ghosts F) (seen : FileSeen F) → SeenStays file seen seen
seen_stays_none file seen = record {
  identity = refl;
  unsettled = refl;
  follows_map = (λ h. h, λ h. h);
  follows = (λ h. h, λ h. h);
  map = λ h. stays_none (file.model (seen_map_of seen));
  blocks = λ h. stays_none (file.model (seen_blocks_of seen));
}

-- a write of this block's octet, and then no sync
pub others_written : (n : ℕ) (s0 s1 : DiskState) → WritesWithin n 1 s0 s1 → OthersStay n s0 s1
others_written n s0 s1 w = record {
  octet = λ i other settled. w.outside i (λ inside. other (omega (arith, inside.0, inside.1)));
  unsynced = λ i other un. ⊎_elim (λ was. was) (λ inside. absurd (other (omega (arith, inside.0, inside.1)))) (w.unsynced i un);
}

-- the same, and a sync, done or failed
pub others_marked : (n : ℕ) (s0 s1 s2 : DiskState) → WritesWithin n 1 s0 s1 → Lingers s1 s2 → OthersStay n s0 s2
others_marked n s0 s1 s2 w l =
    let o = others_written n s0 s1 w in
    record {
      octet = λ i other settled. l.one_of i (λ un. settled (o.unsynced i other un)) ∙ o.octet i other settled;
      unsynced = λ i other un. o.unsynced i other (l.unsynced i un);
    }

-- a read, and then this block's octet alone
pub others_after_stays : (n : ℕ) (s0 s1 s2 : DiskState) → Stays s0 s1 → OthersStay n s1 s2 → OthersStay n s0 s2
others_after_stays n s0 s1 s2 a o = record {
  octet = λ i other settled. o.octet i other (λ un. settled (a.unsynced i un)) ∙ ap (λ (f : ℕ → ℕ). f i) a.same;
  unsynced = λ i other un. a.unsynced i (o.unsynced i other un);
}

-- a read alone
pub others_of_stays : (n : ℕ) (s0 s1 : DiskState) → Stays s0 s1 → OthersStay n s0 s1
others_of_stays n s0 s1 a = record {
  octet = λ i other settled. ap (λ (f : ℕ → ℕ). f i) a.same;
  unsynced = λ i other un. a.unsynced i un;
}

-- a disk of blocks isn't opened for sizes that were found, for its map, or for its blocks
pub amiss_unopened : (count size : ℕ) (why : FileError) → AreAmiss count size why → AreBlocksUnopened why
amiss_unopened count size why amiss = inl (count, (size, amiss))

pub map_unopened : (why : FileError) → IsUnopened Map why → AreBlocksUnopened why
map_unopened why it = inr (inl it)

pub blocks_unopened : (why : FileError) → IsUnopened Blocks why → AreBlocksUnopened why
blocks_unopened why it = inr (inr it)
