-- Trees that are read: what stays where pages and blocks are only read.
use Rattle.std.proofs.Common.{◌≡◌, ℕ, ◌<◌, ◌^◌, List, refl, ap, arith, Result, Ok, Err, IfErr, Bool}
use Rattle.disk_models.specs.declared.once.OnceDisk.{Ghosts as OnceGhosts}
use Rattle.once_store.specs.declared.error.BlockError.{BlockError}
use Rattle.once_store.specs.declared.error.BlockError.TheVariants as blocks
use Rattle.once_store.specs.declared.reader.ShelfReader.{ShelfReader}
use Rattle.once_store.specs.Readers.{reader_disk}
use Rattle.page_tx.specs.declared.pages.Pages.{Ghosts}
use Rattle.page_tx.specs.Start.{Start}
use Rattle.route_history.specs.Blame.{BlamesNone}
use Rattle.tsb_walk.specs.declared.error.NodeError.{NodeError}
use Rattle.tsb_walk.specs.declared.error.NodeError.TheVariants as nodes
use Rattle.tsb_walk.specs.Refusals.{LookRefusal, WalkRefusal, of_block}
use Rattle.tsb_walk.specs.declared.page_place.PagePlace.{PagePlace}
use Rattle.tsb_walk.specs.Knowing.{ReadsWell, RepresentsKnown}
use Rattle.tsb_walk.specs.Looked.{GoesOnIn}
use Rattle.tsb_walk.specs.Shown.{keys_at, HasKey}
use Rattle.tsb_walk.proofs.Gathering.{known_on}
use Rattle.version_model.specs.declared.part.Place.{Place}
use Rattle.version_model.specs.Pages.{Keys, all_keys}
use Rattle.version_model.specs.Ranges.{high_or, key_end}
use Rattle.version_model.specs.Versions.{Version}
use Rattle.tree_questions.specs.Reading.{ReadsTree}

-- a place of all keys has each key
pub has_key : (place : PagePlace) (key : ℕ) → keys_at place ≡ all_keys → key < 256 ^ 40 → HasKey place key
has_key place key all fits =
    let low : place.low ≡ 0 = ap (λ (k : Keys). k.low) all in
    let high : high_or place.high ≡ key_end = ap (λ (k : Keys). k.high) all in
    record { low = omega (arith, low); high = omega (arith, high, fits) }

module _ {P : Type 0} (pages : Ghosts P) {O Pen Seen : Type 0} (device : OnceGhosts O Pen Seen) (root : PagePlace) (burnt : ℕ) (all : List Version) where
  -- where pages were only read
  pub reads_pages : (held held' : P) (reader : ShelfReader O Pen Seen device) (seen : Seen) → ((start : Start) (shown : List (List ℕ)) → pages.shows held start shown → pages.shows held' start shown)
      → ReadsTree pages held device reader seen root burnt all → ReadsTree pages held' device reader seen root burnt all
  reads_pages held held' reader seen shows r = record {
    start = r.start;
    shown = r.shown;
    shows = shows r.start r.shown r.shows;
    store = r.store;
    represents_all = r.represents_all;
    named = r.named;
    rising = r.rising;
    well = r.well;
    known = r.known;
  }

  -- where a block was read
  pub reads_block : (held held' : P) (reader reader' : ShelfReader O Pen Seen device) (seen seen' : Seen) → ((start : Start) (shown : List (List ℕ)) → pages.shows held start shown → pages.shows held' start shown)
      → (r : ReadsTree pages held device reader seen root burnt all) → ReadsWell device reader' seen' → device.known seen' ≡ device.known seen → reader_disk reader' ≡ reader_disk reader → ReadsTree pages held' device reader' seen' root burnt all
  reads_block held held' reader reader' seen seen' shows r well same disk = record {
    start = r.start;
    shown = r.shown;
    shows = shows r.start r.shown r.shows;
    store = r.store;
    represents_all = r.represents_all;
    named = r.named;
    rising = r.rising;
    well = well;
    known = known_on device reader reader' seen seen' r.store.blocks same disk r.known;
  }

  -- the place in the past to which a look leads stands by known blocks
  pub place_known : (held : P) (reader : ShelfReader O Pen Seen device) (seen : Seen) (r : ReadsTree pages held device reader seen root burnt all) (key stamp : ℕ) (place : Place) → GoesOnIn r.store.blocks all key stamp place → RepresentsKnown device reader seen all place
  place_known held reader seen r key stamp place goes = record { well = r.well; blocks = r.store.blocks; known = r.known; represents_all = goes.represents_all }

-- where pages alone may be called bad, and none is, nothing is blamed
pub page_blames : {A : Type 0} (r : Result A NodeError) (down : Bool) → IfErr r (LookRefusal down) → ((page : ℕ) → r ≡ Err (nodes.BadNode page) → ⊥) → IfErr r BlamesNone
page_blames (Ok a) down refused never = tt
page_blames (Err (nodes.BadNode page)) down refused never = never page refl
page_blames (Err (nodes.Damaged block)) down refused never = refused
page_blames (Err nodes.Fault) down refused never = tt
page_blames (Err nodes.OnceFault) down refused never = tt
page_blames (Err nodes.NeedsRecovery) down refused never = tt
page_blames (Err nodes.OutOfMemory) down refused never = tt

-- where no block is called damaged, nothing is blamed
pub block_blames : {A : Type 0} (r : Result A BlockError) → ((block : ℕ) → r ≡ Err (blocks.Damaged block) → ⊥) → IfErr r (λ e. BlamesNone (of_block e))
block_blames (Ok a) never = tt
block_blames (Err (blocks.Damaged block)) never = never block refl
block_blames (Err blocks.Fault) never = tt
block_blames (Err blocks.OutOfMemory) never = tt

-- the same of a walk to a column
pub walk_blames : {A : Type 0} (r : Result A NodeError) (down : Bool) → IfErr r (WalkRefusal down) → ((page : ℕ) → r ≡ Err (nodes.BadNode page) → ⊥) → IfErr r BlamesNone
walk_blames (Ok a) down refused never = tt
walk_blames (Err (nodes.BadNode page)) down refused never = never page refl
walk_blames (Err (nodes.Damaged block)) down refused never = refused
walk_blames (Err nodes.Fault) down refused never = tt
walk_blames (Err nodes.OnceFault) down refused never = tt
walk_blames (Err nodes.NeedsRecovery) down refused never = tt
walk_blames (Err nodes.OutOfMemory) down refused never = tt
