-- Parts of a key's versions, gathered one after another.
use Rattle.std.proofs.Common.{◌≡◌, ℕ, ◌≤◌, List, [], ◌∷◌, ◌++◌, filter, Option, refl, sym, ◌∙◌, ap, subst, arith}
use Rattle.std.proofs.lemmas.List.{map-append}
use Rattle.disk_models.specs.declared.once.OnceDisk.{Ghosts}
use Rattle.once_store.specs.declared.error.BlockError.{BlockError}
use Rattle.once_store.specs.declared.error.BlockError.TheVariants as blocks
use Rattle.once_store.specs.declared.reader.ShelfReader.{ShelfReader}
use Rattle.once_store.specs.Readers.{reader_disk}
use Rattle.version_model.specs.declared.entry.Entry.{Entry}
use Rattle.version_model.specs.declared.part.Place.{Place}
use Rattle.version_model.specs.Versions.{Version, IsRising}
use Rattle.version_model.specs.Ranges.{end_or}
use Rattle.version_model.specs.Looks.{is_of, IsPart}
use Rattle.version_model.specs.Entries.{versions_of, version_of}
use Rattle.version_model.specs.Blocks.{BlockNode}
use Rattle.version_model.proofs.api.LooksShown.{is_of_no}
use Rattle.version_model.proofs.api.PartsJoined.{joined}
use Rattle.tsb_walk.specs.declared.error.NodeError.TheVariants as nodes
use Rattle.tsb_walk.specs.Knowing.{ReadsWell, AreKnown, RepresentsKnown}
use Rattle.tsb_walk.specs.Looked.{GoesOnIn}
use Rattle.tsb_walk.specs.Refusals.{of_block}

-- a refusal that is reported as damage is damage
pub of_damaged : (refusal : BlockError) (block : ℕ) → of_block refusal ≡ nodes.Damaged block → refusal ≡ blocks.Damaged block
of_damaged (blocks.Damaged n) block e = (let same : n ≡ block = cc in ap (λ (m : ℕ). blocks.Damaged m) same)
of_damaged blocks.Fault block e = absurd (cc)
of_damaged blocks.OutOfMemory block e = absurd (cc)

module _ {O Pen Seen : Type 0} (device : Ghosts O Pen Seen) where
  -- a place in the past of a tree that stands stands by known blocks, where the tree's blocks are known
  pub place_known : (reader : ShelfReader O Pen Seen device) (seen : Seen) (blocks : ℕ → Option BlockNode) (all : List Version) (key stamp : ℕ) (place : Place) → GoesOnIn blocks all key stamp place
      → ReadsWell device reader seen → AreKnown (device.known seen) (device.block_count (reader_disk reader)) blocks → RepresentsKnown device reader seen all place
  place_known reader seen blocks all key stamp place goes well known = record { well = well; blocks = blocks; known = known; represents_all = goes.represents_all }

  -- what is known stays known
  pub known_on : (reader reader' : ShelfReader O Pen Seen device) (seen seen' : Seen) (nodes : ℕ → Option BlockNode) → device.known seen' ≡ device.known seen → reader_disk reader' ≡ reader_disk reader
      → AreKnown (device.known seen) (device.block_count (reader_disk reader)) nodes → AreKnown (device.known seen') (device.block_count (reader_disk reader')) nodes
  known_on reader reader' seen seen' nodes same disk known =
      subst (λ (d : O). AreKnown (device.known seen') (device.block_count d) nodes) (sym disk)
      (subst (λ (f : ℕ → Option (List ℕ)). AreKnown f (device.block_count (reader_disk reader)) nodes) (sym same) known)

-- before the first stamp there is none
none_first : (key : ℕ) (all : List Version) → filter (is_of key 0 0) all ≡ []
none_first key [] = refl
none_first key (v ∷ vs) = (let out = is_of_no key 0 0 v (λ k f t. omega (arith, t)) in rw out (none_first key vs))

pub none_gathered : (key from : ℕ) (all : List Version) (entries : List Entry) → entries ≡ [] → from ≡ 0 → versions_of entries ≡ filter (is_of key 0 from) all
none_gathered key from all entries empty first = ap versions_of empty ∙ sym (none_first key all) ∙ ap (λ (n : ℕ). filter (is_of key 0 n) all) (sym first)

-- the next part after those that are gathered
pub gathered : (all : List Version) (key from : ℕ) (reported : Option ℕ) (old more new : List Entry) → IsRising all → new ≡ old ++ more → versions_of old ≡ filter (is_of key 0 from) all → IsPart all key from (versions_of more) reported
    → versions_of new ≡ filter (is_of key 0 (end_or reported)) all
gathered all key from reported old more new rising is so_far part =
    let apart : versions_of new ≡ versions_of old ++ versions_of more = ap versions_of is ∙ map-append version_of old more in
    let reported_both : versions_of old ++ versions_of more ≡ filter (is_of key 0 from) all ++ filter (is_of key from (end_or reported)) all = λ i. so_far i ++ part.are i in
    let high : from ≤ end_or reported = omega (arith, part.above) in
    apart ∙ reported_both ∙ joined key 0 from (end_or reported) (omega arith) high all rising
