-- What a check counts, and what it finds.
use Rattle.std.proofs.Common.{◌≡◌, ⊎_elim, true≢false, ℕ, suc, ◌+◌, ◌<◌, ◌≤◌, ◌^◌, List, [], ◌∷◌, length, map, sum_by, Bool, false, Option, refl, sym, ◌∙◌, ap, subst, arith, length-append, Result, Ok, Err, IfOk, IfErr, OnOk}
use Rattle.std.proofs.lemmas.List.{length-map}
use Rattle.std.proofs.lemmas.List.Sums.{sum_by-cons}
use Rattle.disk_models.specs.declared.erase.EraseDisk.{Ghosts as EraseGhosts}
use Rattle.disk_models.specs.declared.once.OnceDisk.{Ghosts as OnceGhosts}
use Rattle.once_store.specs.declared.reader.ShelfReader.{ShelfReader}
use Rattle.once_store.specs.Readers.{reader_disk}
use Rattle.page_tx.specs.declared.pages.Pages.{Ghosts}
use Rattle.route_model.specs.Admission.{Admitted}
use Rattle.route_meaning.specs.Holds.{time_of}
use Rattle.route_meaning.specs.Merged.{Placed}
use Rattle.route_meaning.specs.History.{History, applied}
use Rattle.route_history.specs.Kept.{Timed, at_time, timed, AreVersions}
use Rattle.tsb_tree.specs.declared.error.TreeError.{TreeError}
use Rattle.tsb_tree.specs.declared.error.TreeError.TheVariants as trees
use Rattle.tsb_tree.specs.Refusals.{BlamesNone as TreeBlamesNone}
use Rattle.tsb_walk.specs.AllVersions.{VersionsRefusal}
use Rattle.tsb_walk.specs.declared.error.NodeError.{NodeError}
use Rattle.tsb_walk.specs.declared.error.NodeError.TheVariants as nodes
use Rattle.tsb_walk.specs.Knowing.{AreKnown}
use Rattle.version_model.specs.Versions.{Version}
use Rattle.tsb_check.specs.Counted.{reported}
use Rattle.tsb_check.specs.InUse.{IsWithin}
use Rattle.disk_archive.specs.declared.archive.Archive.{Archive}
use Rattle.disk_archive.specs.declared.check_error.CheckError.{CheckError}
use Rattle.disk_archive.specs.declared.check_error.CheckError.TheVariants as checks
use Rattle.disk_archive.specs.Archives.{RepresentsIfHonest, IsHonest, is_down}
use Rattle.disk_archive.specs.inner.Asking.{HasTree}
use Rattle.disk_archive.specs.inner.Checking.{check_of_node, CountRefusal, FindsNone}

-- ---- how many there are

-- as many versions as changes
pub as_many : (n : ℕ) (ts : List Timed) (vs : List Version) → AreVersions n ts vs → length vs ≡ length ts
as_many n [] [] are = refl
as_many n [] (v ∷ vs) are = absurd are
as_many n (t ∷ ts) [] are = absurd are
as_many n (t ∷ ts) (v ∷ vs) are = ap suc (as_many (suc n) ts vs are.1)

-- the changes of admissions, one after another, are as many as they have
pub changes_are : (ps : List (Placed Admitted)) → length (timed ps) ≡ sum_by (λ (p : Placed Admitted). length p.item.changes) ps
changes_are [] = refl
changes_are (p ∷ ps) =
    let count : Placed Admitted → ℕ = λ (q : Placed Admitted). length q.item.changes in
    length-append (map (at_time (time_of p)) p.item.changes) (timed ps)
    ∙ (ap (λ (n : ℕ). n + length (timed ps)) (length-map p.item.changes (at_time (time_of p)))
    ∙ (ap (λ (n : ℕ). length p.item.changes + n) (changes_are ps) ∙ sym (sum_by-cons count p ps)))

-- a number of eight octets is returned as it is
pub reported_is : (n m k : ℕ) → n ≡ reported m → m ≡ k → k < 2 ^ 64 → n ≡ k
reported_is n m k is same few = omega (arith, is, same, few)

-- ---- what is known of blocks

pub known_of : {P : Type 0} (pages : Ghosts P) (held : P) {O Pen Seen : Type 0} (device : OnceGhosts O Pen Seen) (reader : ShelfReader O Pen Seen device) (seen : Seen) (root fresh block : ℕ) (ps : List (Placed Admitted)) (t : HasTree pages held device reader seen root fresh block ps)
    → AreKnown (device.known seen) (device.block_count (reader_disk reader)) t.located.store.blocks
known_of pages held device reader seen root fresh block ps t = record { represents_node = λ n node here. (let b = t.located.blocks n node here in (b.octets, record { inside = b.inside; at = b.here }, b.represents_node)) }

-- its store uses no page and no block but those in use
pub within_of : {P : Type 0} (pages : Ghosts P) (held : P) {O Pen Seen : Type 0} (device : OnceGhosts O Pen Seen) (reader : ShelfReader O Pen Seen device) (seen : Seen) (root fresh block burnt : ℕ) → block ≤ burnt → (ps : List (Placed Admitted)) (t : HasTree pages held device reader seen root fresh block ps)
    → IsWithin t.located.store (record { recorded_on = 0; pages = fresh; blocks = block; burnt = burnt })
within_of pages held device reader seen root fresh block burnt most ps t =
    let next = t.located.next in
    record { pages = omega (arith, t.located.limit); tried = next; burnt = omega (arith, next, most) }

-- ---- refusals

pub finds_none : (r : Result ℕ NodeError) → ((page : ℕ) → r ≡ Err (nodes.BadNode page) → ⊥) → ((block : ℕ) → r ≡ Err (nodes.Damaged block) → ⊥) → IfErr r (λ e. FindsNone (check_of_node e))
finds_none (Ok n) bad damaged = tt
finds_none (Err (nodes.BadNode page)) bad damaged = bad page refl
finds_none (Err (nodes.Damaged block)) bad damaged = damaged block refl
finds_none (Err nodes.Fault) bad damaged = tt
finds_none (Err nodes.OnceFault) bad damaged = tt
finds_none (Err nodes.NeedsRecovery) bad damaged = tt
finds_none (Err nodes.OutOfMemory) bad damaged = tt

pub count_refused : (down : Bool) (refusal : NodeError) → VersionsRefusal down refusal → CountRefusal down (check_of_node refusal)
count_refused down (nodes.BadNode page) r = tt
count_refused down (nodes.Damaged block) r = tt
count_refused down nodes.Fault r = tt
count_refused down nodes.OnceFault r = tt
count_refused down nodes.NeedsRecovery r = r
count_refused down nodes.OutOfMemory r = tt

pub root_finds : (refusal : TreeError) (e : CheckError) → TreeBlamesNone refusal → ((page : ℕ) → e ≡ checks.BadNode page → refusal ≡ trees.BadNode page) → ((block : ℕ) → e ≡ checks.Damaged block → refusal ≡ trees.Damaged block) → FindsNone e
root_finds refusal checks.NeedsRecovery b bad damaged = tt
root_finds refusal (checks.BadNode page) b bad damaged = subst TreeBlamesNone (bad page refl) b
root_finds refusal (checks.Damaged block) b bad damaged = subst TreeBlamesNone (damaged block refl) b
root_finds refusal checks.Fault b bad damaged = tt
root_finds refusal checks.OutOfMemory b bad damaged = tt

-- a page or block that is reported is the one that the look reported
pub bad_is : (refusal : NodeError) (page : ℕ) → check_of_node refusal ≡ checks.BadNode page → refusal ≡ nodes.BadNode page
bad_is (nodes.BadNode page) other is = let same : page ≡ other = cc in ap (λ (n : ℕ). nodes.BadNode n) same
bad_is (nodes.Damaged block) other is = cc
bad_is nodes.Fault other is = cc
bad_is nodes.OnceFault other is = cc
bad_is nodes.NeedsRecovery other is = cc
bad_is nodes.OutOfMemory other is = cc

pub damaged_is : (refusal : NodeError) (block : ℕ) → check_of_node refusal ≡ checks.Damaged block → refusal ≡ nodes.Damaged block
damaged_is (nodes.BadNode page) other is = cc
damaged_is (nodes.Damaged block) other is = let same : block ≡ other = cc in ap (λ (n : ℕ). nodes.Damaged n) same
damaged_is nodes.Fault other is = cc
damaged_is nodes.OnceFault other is = cc
damaged_is nodes.NeedsRecovery other is = cc
damaged_is nodes.OutOfMemory other is = cc

-- a refusal that is passed on is the one that came
pub passed : {T U : Type 0} (r : Result T CheckError) (s : Result U CheckError) (e : CheckError) (page : ℕ) → IfErr r (λ x. x ≡ e) → s ≡ Err e → r ≡ Err (checks.BadNode page) → s ≡ Err (checks.BadNode page)
passed {T} {U} r s e page reported was is = was ∙ ap (λ (x : CheckError). Err x) (sym (subst (λ (r : Result T CheckError). IfErr r (λ x. x ≡ e)) is reported))

-- a refusal of a look that is passed on
pub passed_node : {T U : Type 0} (r : Result T CheckError) (s : Result U NodeError) (e : NodeError) (page : ℕ) → IfErr r (λ x. x ≡ check_of_node e) → s ≡ Err e → r ≡ Err (checks.BadNode page) → s ≡ Err (nodes.BadNode page)
passed_node {T} {U} r s e page reported was is =
    let same : checks.BadNode page ≡ check_of_node e = subst (λ (r : Result T CheckError). IfErr r (λ x. x ≡ check_of_node e)) is reported in
    was ∙ ap (λ (x : NodeError). Err x) (bad_is e page (sym same))

-- ---- what an archive reports, by what it holds

-- where it needn't be opened again, the head counts what is applied
pub counted_of : {E O Pen Seen : Type 0} {erase : EraseGhosts E} {once : OnceGhosts O Pen Seen} (a : Archive E O Pen Seen erase once) (r : Result ℕ CheckError) → OnOk r (is_down a ≡ false) → IfOk r (λ n. n ≡ a.head.applied)
    → IfOk r (λ n. IsHonest a → (h : History) → RepresentsIfHonest a h → n ≡ sum_by (λ (p : Placed Admitted). length p.item.changes) (applied h))
counted_of a (Ok n) usable counted = λ honest h held. ⊎_elim
    (λ k. counted ∙ (k.head_represents.numbered ∙ changes_are (applied h)))
    (λ w. absurd (true≢false (sym w.unusable ∙ usable)))
    (held honest)
counted_of a (Err e) usable counted = tt

-- what holds of the blocks that a reader knows of its disk holds of those that are settled there
pub at_disk : {O Pen Seen : Type 0} (device : OnceGhosts O Pen Seen) (reader : ShelfReader O Pen Seen device) (seen : Seen) (disk : O) (settled : ℕ → Option (List ℕ)) (P : (ℕ → Option (List ℕ)) → ℕ → Type 0) → reader_disk reader ≡ disk → device.known seen ≡ settled
    → P (device.known seen) (device.block_count (reader_disk reader)) → P settled (device.block_count disk)
at_disk {O} device reader seen disk settled P same known p =
    subst (λ (d : O). P settled (device.block_count d)) same (subst (λ (f : ℕ → Option (List ℕ)). P f (device.block_count (reader_disk reader))) known p)
