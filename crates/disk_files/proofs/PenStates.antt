-- The state of a disk, by what its pen has.
use Rattle.std.proofs.Common.{◌≡◌, ◌↔◌, ◌∙◌, ℕ, List, false, IsTrue, Result, Ok, Err, is_err, is_ok, if◌then◌else◌, inl, ap}
use Rattle.std.proofs.lemmas.Bool.{false_from_ne_true, false≢true}
use Rattle.disk_files.specs.declared.file.FileIdentity.{FileIdentity}
use Rattle.disk_files.specs.declared.file.OctetFile.{Ghosts}
use Rattle.disk_files.specs.declared.pen.FilePen.{FilePen}
use Rattle.disk_files.specs.declared.state.PenState.{PenState}
use Rattle.disk_files.specs.Burnt.{once_state_of}
use Rattle.disk_files.specs.Pens.{IsStopped, blocks_file_of, is_broken_pen, map_of, once_model, state_of, waiting_of}

-- what it has is all that the state depends on
pub model_of : {F : Type 0} {file : Ghosts F} (pen : FilePen F file) (map blocks : F) (waiting : List ℕ) (state : PenState)
    → map_of pen ≡ map → blocks_file_of pen ≡ blocks → waiting_of pen ≡ waiting → state_of pen ≡ state
    → once_model pen ≡ once_state_of (file.model map).octet (file.model blocks).octet waiting state
model_of {F = F} {file = file} pen map blocks waiting state maps files lists states =
    ap (λ (f : F). once_state_of (file.model f).octet (file.model (blocks_file_of pen)).octet (waiting_of pen) (state_of pen)) maps
    ∙ ap (λ (f : F). once_state_of (file.model map).octet (file.model f).octet (waiting_of pen) (state_of pen)) files
    ∙ ap (λ (w : List ℕ). once_state_of (file.model map).octet (file.model blocks).octet w (state_of pen)) lists
    ∙ ap (λ (s : PenState). once_state_of (file.model map).octet (file.model blocks).octet waiting s) states

-- a pen that isn't stopped isn't broken
pub not_broken : {F : Type 0} {file : Ghosts F} (disk : FileIdentity) (pen : FilePen F file) → (IsTrue false ↔ IsStopped disk pen) → is_broken_pen pen ≡ false
not_broken disk pen is = false_from_ne_true (is_broken_pen pen) (λ broken. false≢true (is.1 (inl broken)))

-- a list to which something was added
pub added : {T E : Type 0} (r : Result T E) (xs ys zs : List ℕ) → is_err r ≡ false → xs ≡ (if is_ok r then ys else zs) → xs ≡ ys
added (Ok x) xs ys zs is longer = longer
added (Err e) xs ys zs is longer = absurd cc
