-- What a question is answered from, and what is returned where it isn't.
use Rattle.std.proofs.Common.{◌≡◌, ◌↔◌, ◌≤◌, ⊎_elim, true≢false, ℕ, zero, suc, List, [], ◌∷◌, ◌++◌, take, drop, map, Bool, true, false, Option, None, Some, refl, sym, ◌∙◌, ap, subst, arith, Result, Ok, Err, IfOk, IfErr, OnOk}
use Rattle.std.specs.Prelude.{IfNone}
use Rattle.std.specs.List.{AllByRecursion}
use Rattle.disk_models.specs.declared.erase.EraseDisk.{Ghosts as EraseGhosts}
use Rattle.disk_models.specs.declared.once.OnceDisk.{Ghosts as OnceGhosts}
use Rattle.disk_models.specs.Once.{OnceState, settled_in}
use Rattle.once_store.specs.declared.reader.ShelfReader.{ShelfReader}
use Rattle.once_store.specs.Readers.{reader_disk, IsCached}
use Rattle.page_tx.specs.declared.pages.Pages.{Ghosts}
use Rattle.page_tx.specs.Start.{Start}
use Rattle.route_model.specs.Admission.{Admitted}
use Rattle.route_meaning.specs.Merged.{Placed, IsRising, all_placed}
use Rattle.route_meaning.specs.Holds.{time_of}
use Rattle.route_meaning.specs.History.{Intake, History, all_of, begun, applied, settled}
use Rattle.route_meaning.proofs.api.Sorting.{all_append, rises_by_time}
use Rattle.route_meaning.proofs.api.Settling.{all_take, all_drop}
use Rattle.tsb_tree.specs.declared.error.TreeError.{TreeError}
use Rattle.tsb_tree.specs.declared.error.TreeError.TheVariants as trees
use Rattle.tsb_tree.specs.Refusals.{BlamesNone as TreeBlamesNone}
use Rattle.tsb_walk.specs.AllVersions.{VersionsRefusal}
use Rattle.tsb_walk.specs.declared.error.NodeError.{NodeError}
use Rattle.tsb_walk.specs.declared.error.NodeError.TheVariants as nodes
use Rattle.tsb_walk.specs.declared.page_place.PagePlace.{PagePlace}
use Rattle.tsb_walk.specs.Knowing.{ReadsWell}
use Rattle.tsb_walk.specs.Shown.{RepresentNodes, RepresentsShown, keys_at}
use Rattle.route_history.specs.Blame.{BlamesNone as NodeBlamesNone}
use Rattle.version_model.specs.Pages.{Keys, Store, NodeRepresentsIn, TreeRepresents, all_keys}
use Rattle.version_model.specs.Versions.{Version}
use Rattle.tree_questions.specs.Reading.{ReadsTree}
use Rattle.disk_archive.specs.declared.archive.Archive.{Archive}
use Rattle.disk_archive.specs.declared.ask_error.AskError.{AskError}
use Rattle.disk_archive.specs.declared.ask_error.AskError.TheVariants as asks
use Rattle.disk_archive.specs.Archives.{Represents, RepresentsIfHonest, IsHonest, is_down}
use Rattle.disk_archive.specs.Reading.{ReadsFrom}
use Rattle.disk_archive.specs.inner.Idle.{IsAsBefore}
use Rattle.disk_archive.specs.Trees.{TreeLocated}
use Rattle.disk_archive.specs.inner.Asking.{ask_of_node, LookRefusal, BlamesNone, HasTree, known_in}

-- ---- what is applied has times that never fall

all_begun : (t some : ℕ) (ps : List (Placed Admitted)) → AllByRecursion (λ q. t ≤ time_of q) ps → AllByRecursion (λ q. t ≤ time_of q) (begun some ps)
all_begun t zero ps all = tt
all_begun t (suc some) [] all = tt
all_begun t (suc some) (p ∷ ps) all = (all.0, tt)

rises_begun : (some : ℕ) (ps : List (Placed Admitted)) → IsRising time_of (begun some ps)
rises_begun zero ps = tt
rises_begun (suc some) [] = tt
rises_begun (suc some) (p ∷ ps) = (tt, tt)

rises_front : (whole some : ℕ) (ps : List (Placed Admitted)) → IsRising time_of ps → IsRising time_of (take whole ps ++ begun some (drop whole ps))
rises_front zero some ps rises = rises_begun some ps
rises_front (suc whole) some [] rises = rises_begun some []
rises_front (suc whole) some (p ∷ ps) rises = (
  all_append (λ q. time_of p ≤ time_of q) (take whole ps) (begun some (drop whole ps)) (all_take (λ q. time_of p ≤ time_of q) whole ps rises.0) (all_begun (time_of p) some (drop whole ps) (all_drop (λ q. time_of p ≤ time_of q) whole ps rises.0)),
  rises_front whole some ps rises.1,
)

pub rises_applied : (h : History) → IsRising time_of (applied h)
rises_applied h = rises_front h.whole h.some (all_of h) (rises_by_time time_of (all_placed 0 (map (λ (i : Intake). i.admitted) h.intakes)))

-- ---- the tree of the archive

-- the tree stands at the place of its root
pub at_root : (shown : List (List ℕ)) (s : Store) (all : List Version) (root level : ℕ) (place : PagePlace) → place.page ≡ root → place.level ≡ level → keys_at place ≡ all_keys → RepresentNodes shown s.nodes → TreeRepresents s all root level → RepresentsShown shown s all place
at_root shown s all root level place page_is level_is keys_are are t = record {
  are_shown = are;
  represents_all = subst (λ (p : ℕ). NodeRepresentsIn s all place.level (keys_at place) p) (sym page_is)
      (subst (λ (k : Keys). NodeRepresentsIn s all place.level k root) (sym keys_are) (subst (λ (l : ℕ). NodeRepresentsIn s all l all_keys root) (sym level_is) t.represents_all));
}

-- what is settled is what a reader of the same disk knows
pub located_known : {O Pen Seen : Type 0} (device : OnceGhosts O Pen Seen) (reader : ShelfReader O Pen Seen device) (seen : Seen) (disk : O) (o : OnceState) (pages : List (List ℕ)) (low root fresh block stamp : ℕ) (versions : List Version) → reader_disk reader ≡ disk → device.known seen ≡ o.settled
    → TreeLocated (device.block_count disk) pages (settled_in o) low root fresh block stamp versions → TreeLocated (device.block_count (reader_disk reader)) pages (known_in (device.known seen)) low root fresh block stamp versions
located_known {O} device reader seen disk o pages low root fresh block stamp versions same known t =
    subst (λ (d : O). TreeLocated (device.block_count d) pages (known_in (device.known seen)) low root fresh block stamp versions) (sym same)
    (subst (λ (f : ℕ → Option (List ℕ)). TreeLocated (device.block_count disk) pages (known_in f) low root fresh block stamp versions) (sym known) t)

-- a reader that keeps nothing reads well
pub reads_well : {O Pen Seen : Type 0} (device : OnceGhosts O Pen Seen) (reader : ShelfReader O Pen Seen device) (seen : Seen) (disk : O) → reader_disk reader ≡ disk → device.honest_seen disk seen → ((n : ℕ) (block : List ℕ) → IsCached reader n block → ⊥) → ReadsWell device reader seen
reads_well {O} {Pen} {Seen} device reader seen disk same honest none = record {
  honest = subst (λ (d : O). device.honest_seen d seen) (sym same) honest;
  kept = λ n block kept. absurd (none n block kept);
}

-- a reader that keeps what is settled reads well
pub reads_kept : {O Pen Seen : Type 0} (device : OnceGhosts O Pen Seen) (reader : ShelfReader O Pen Seen device) (seen : Seen) (disk : O) (o : OnceState) → reader_disk reader ≡ disk → device.honest_seen disk seen → device.known seen ≡ o.settled
    → ((n : ℕ) (block : List ℕ) → IsCached reader n block → o.settled n ≡ Some block) → ReadsWell device reader seen
reads_kept {O} device reader seen disk o same honest known settled = record {
  honest = subst (λ (d : O). device.honest_seen d seen) (sym same) honest;
  kept = λ n block kept. ap (λ (f : ℕ → Option (List ℕ)). f n) known ∙ settled n block kept;
}

-- what it keeps then is settled
pub kept_reads : {O Pen Seen : Type 0} (device : OnceGhosts O Pen Seen) (reader : ShelfReader O Pen Seen device) (seen : Seen) (o : OnceState) → ReadsWell device reader seen → device.known seen ≡ o.settled
    → (n : ℕ) (block : List ℕ) → IsCached reader n block → o.settled n ≡ Some block
kept_reads device reader seen o well known n block kept = ap (λ (f : ℕ → Option (List ℕ)). f n) (sym known) ∙ well.kept n block kept

-- a call that only checked whether it may go on leaves a reader as it was
pub reads_idle : {E O Pen Seen : Type 0} {erase : EraseGhosts E} {once : OnceGhosts O Pen Seen} (a z : Archive E O Pen Seen erase once) (r s : ShelfReader O Pen Seen once) → IsAsBefore a z → s ≡ r → ReadsFrom a r → ReadsFrom z s
reads_idle {O = O} {Pen = Pen} {Seen = Seen} {once = once} a z r s idle same from = record {
  disk = ap (λ (x : ShelfReader O Pen Seen once). reader_disk x) same ∙ from.disk ∙ sym idle.disk;
  kept = λ n block kept. ap (λ (o : OnceState). o.settled n) idle.state ∙ from.kept n block (subst (λ (x : ShelfReader O Pen Seen once). IsCached x n block) same kept);
}

-- it can be read by a question
pub tree_read : {P : Type 0} (pages : Ghosts P) (held held' : P) {O Pen Seen : Type 0} (device : OnceGhosts O Pen Seen) (reader : ShelfReader O Pen Seen device) (seen : Seen) (root fresh block burnt : ℕ) → block ≤ burnt → (ps : List (Placed Admitted)) (t : HasTree pages held device reader seen root fresh block ps)
    → (place : PagePlace)
    → ((start : Start) (shown : List (List ℕ)) → pages.shows held start shown → pages.shows held' start shown) → RepresentsShown t.shown t.located.store t.versions place → ReadsTree pages held' device reader seen place burnt t.versions
tree_read pages held held' device reader seen root fresh block burnt most ps t place reads represents_all = record {
  start = t.start;
  shown = t.shown;
  shows = reads t.start t.shown t.shows;
  store = t.located.store;
  represents_all = represents_all;
  named = (let next = t.located.next in omega (arith, next, most));
  rising = t.located.has.represents_all.rising;
  well = t.well;
  known = record { represents_node = λ n node here. (let b = t.located.blocks n node here in (b.octets, record { inside = b.inside; at = b.here }, b.represents_node)) };
}

-- ---- refusals

pub ask_blames : (refusal : NodeError) → NodeBlamesNone refusal → BlamesNone (ask_of_node refusal)
ask_blames (nodes.BadNode page) b = b
ask_blames (nodes.Damaged block) b = b
ask_blames nodes.Fault b = tt
ask_blames nodes.OnceFault b = tt
ask_blames nodes.NeedsRecovery b = tt
ask_blames nodes.OutOfMemory b = tt

pub ask_refused : (down : Bool) (refusal : NodeError) → VersionsRefusal down refusal → LookRefusal down (ask_of_node refusal)
ask_refused down (nodes.BadNode page) r = tt
ask_refused down (nodes.Damaged block) r = tt
ask_refused down nodes.Fault r = tt
ask_refused down nodes.OnceFault r = tt
ask_refused down nodes.NeedsRecovery r = r
ask_refused down nodes.OutOfMemory r = tt

pub root_blames : (refusal : TreeError) (reported : AskError) → TreeBlamesNone refusal → ((page : ℕ) → reported ≡ asks.BadNode page → refusal ≡ trees.BadNode page) → ((block : ℕ) → reported ≡ asks.Damaged block → refusal ≡ trees.Damaged block) → BlamesNone reported
root_blames refusal asks.NeedsRecovery b bad damaged = tt
root_blames refusal (asks.AboveWatermark mark) b bad damaged = tt
root_blames refusal (asks.BadNode page) b bad damaged = subst TreeBlamesNone (bad page refl) b
root_blames refusal (asks.Damaged block) b bad damaged = subst TreeBlamesNone (damaged block refl) b
root_blames refusal asks.Fault b bad damaged = tt
root_blames refusal asks.OutOfMemory b bad damaged = tt

pub if_err : {X E F : Type 0} (f : E → F) (P : E → Type 0) (Q : F → Type 0) (r : Result X E) → ((e : E) → P e → Q (f e)) → IfErr r P → IfErr r (λ e. Q (f e))
if_err f P Q (Ok x) step p = tt
if_err f P Q (Err e) step p = step e p

-- the watermark that is returned is the one that was looked at
pub above_reported : {X : Type 0} (r : Result X AskError) (bound last mark : ℕ) → IfErr r (λ e. (e ≡ asks.AboveWatermark bound) × (bound ≤ last)) → r ≡ Err (asks.AboveWatermark mark) → (mark ≡ bound) × (bound ≤ last)
above_reported (Ok x) bound last mark f reported = absurd cc
above_reported (Err e) bound last mark f reported = let first = f.0 in let same : mark ≡ bound = cc in (same, f.1)

-- ---- what an archive answers by what it holds

-- one that needn't be opened again represents what it holds
represents_of : {E O Pen Seen : Type 0} {erase : EraseGhosts E} {once : OnceGhosts O Pen Seen} (a : Archive E O Pen Seen erase once) (h : History) → is_down a ≡ false → IsHonest a → RepresentsIfHonest a h → Represents a h
represents_of a h usable honest held = ⊎_elim (λ k. k) (λ w. absurd (true≢false (sym w.unusable ∙ usable))) (held honest)

pub answered_of : {E O Pen Seen : Type 0} {erase : EraseGhosts E} {once : OnceGhosts O Pen Seen} (a : Archive E O Pen Seen erase once) {X : Type 0} (r : Result X AskError) (P : X → History → Type 0) → OnOk r (is_down a ≡ false) → IfOk r (λ x. (h : History) → Represents a h → P x h)
    → IfOk r (λ x. IsHonest a → (h : History) → RepresentsIfHonest a h → P x h)
answered_of a (Ok x) P usable answered = λ honest h held. answered h (represents_of a h usable honest held)
answered_of a (Err e) P usable answered = tt

pub below_of : {E O Pen Seen : Type 0} {erase : EraseGhosts E} {once : OnceGhosts O Pen Seen} (a : Archive E O Pen Seen erase once) {X : Type 0} (r : Result X AskError) (P : History → Type 0) → OnOk r (is_down a ≡ false) → OnOk r ((h : History) → Represents a h → P h)
    → OnOk r (IsHonest a → (h : History) → RepresentsIfHonest a h → P h)
below_of a (Ok x) P usable below = λ honest h held. below h (represents_of a h usable honest held)
below_of a (Err e) P usable below = tt

not_both : {X : Type 0} (r : Result X AskError) (mark : ℕ) → r ≡ Err asks.NeedsRecovery → r ≡ Err (asks.AboveWatermark mark) → ⊥
not_both r mark one other = cc

pub watermark_of : {E O Pen Seen : Type 0} {erase : EraseGhosts E} {once : OnceGhosts O Pen Seen} (a : Archive E O Pen Seen erase once) {X : Type 0} (r : Result X AskError) (last : ℕ) → (is_down a ≡ true → r ≡ Err asks.NeedsRecovery)
    → ((h : History) → Represents a h → (mark : ℕ) → r ≡ Err (asks.AboveWatermark mark) → (mark ≡ settled h) × (settled h ≤ last))
    → ((h : History) → Represents a h → settled h ≤ last → r ≡ Err (asks.AboveWatermark (settled h)))
    → IsHonest a → (h : History) → RepresentsIfHonest a h → (mark : ℕ) → (r ≡ Err (asks.AboveWatermark mark)) ↔ ((is_down a ≡ false) × (mark ≡ settled h) × (settled h ≤ last))
watermark_of a r last reported above watermark honest h held mark = (
  λ is. ⊎_elim (λ k. let f = above h k mark is in (k.maps.keeps.usable, f.0, f.1)) (λ w. absurd (not_both r mark (reported w.unusable) is)) (held honest),
  λ f. subst (λ (n : ℕ). r ≡ Err (asks.AboveWatermark n)) (sym f.1) (watermark h (represents_of a h f.0 honest held) f.2),
)

-- ---- looks of a walk

pub if_none : {X : Type 0} (o : Option X) (P Q : Type 0) → (P → Q) → IfNone o P → IfNone o Q
if_none None P Q f p = f p
if_none (Some x) P Q f p = tt
