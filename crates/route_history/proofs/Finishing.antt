-- What a reader knows after a look.
use Rattle.std.proofs.Common.{◌≡◌, ℕ, List, Option, sym, subst}
use Rattle.disk_models.specs.declared.once.OnceDisk.{Ghosts}
use Rattle.once_store.specs.declared.reader.ShelfReader.{ShelfReader}
use Rattle.once_store.specs.Readers.{reader_disk}
use Rattle.version_model.specs.Versions.{Version}
use Rattle.tsb_walk.specs.declared.looks.Parted.{Parted}
use Rattle.tsb_walk.specs.declared.looks.Parted.TheVariants.{Here, InBlock}
use Rattle.tsb_walk.specs.Knowing.{ReadsWell, AreKnown}
use Rattle.route_history.specs.EventTurns.{IsKnownPart}

module _ {O Pen Seen : Type 0} (device : Ghosts O Pen Seen) (all : List Version) (key from : ℕ) where
  pub reads_well : (r : ShelfReader O Pen Seen device) (s : Seen) (parted : Parted) → IsKnownPart device r s all key from parted → ReadsWell device r s
  reads_well r s (Here part) h = h.1
  reads_well r s (InBlock place) h = h.well

  pub known_on : (r t : ShelfReader O Pen Seen device) (s u : Seen) (parted : Parted) → IsKnownPart device r s all key from parted → ReadsWell device t u → device.known u ≡ device.known s → reader_disk t ≡ reader_disk r → IsKnownPart device t u all key from parted
  known_on r t s u (Here part) h well known disk = (h.0, well)
  known_on r t s u (InBlock place) h well known disk = record {
    well = well;
    blocks = h.blocks;
    known = subst (λ (k : ℕ → Option (List ℕ)). AreKnown k (device.block_count (reader_disk t)) h.blocks) (sym known) (subst (λ (d : O). AreKnown (device.known s) (device.block_count d) h.blocks) (sym disk) h.known);
    represents_all = h.represents_all;
  }
