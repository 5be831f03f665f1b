-- What is true after each use: an archive represents the history of a run, or whatever a crash may leave represents that of one.
use Rattle.std.proofs.Common.{◌≡◌, ℕ, List, true, refl, sym, ◌∙◌, subst}
use Rattle.disk_models.specs.declared.erase.EraseDisk.{Ghosts as EraseGhosts}
use Rattle.disk_models.specs.declared.once.OnceDisk.{Ghosts as OnceGhosts}
use Rattle.disk_models.specs.Erase.{IsSound}
use Rattle.disk_models.specs.Once.{settled_in}
use Rattle.disk_models.specs.Left.{HasSettled, IsFound, Left, LeftNow, present}
use Rattle.disk_models.proofs.api.Pairs.{found_left, present_now}
use Rattle.page_journal.specs.Recovers.{Recovers}
use Rattle.page_journal.proofs.api.Kept.{kept_recovers}
use Rattle.buffer_pool.specs.Pool.{journal_of}
use Rattle.page_tx.specs.Tx.{pool_of}
use Rattle.route_meaning.specs.History.{History}
use Rattle.archive_pages.specs.declared.settings.Settings.{Settings}
use Rattle.archive_pages.proofs.api.Representing.{head_represents_grown}
use Rattle.disk_archive.specs.declared.archive.Archive.{Archive}
use Rattle.disk_archive.specs.Archives.{Represents, erase_of, erase_state, once_of, once_state, pen_in, settings_of, site_of}
use Rattle.disk_archive.specs.Openings.{ReadsAs}
use Rattle.disk_archive.specs.Sites.{IsNoted, LeftRepresents, Site}
use Rattle.disk_archive.specs.Trees.{TreeLocated}
use Rattle.disk_archive.proofs.api.Trees.{tree_grows}
use Rattle.archive_uses.specs.Use.{Use}
use Rattle.archive_uses.proofs.Ran.{Ran}

-- the sound law of an erasable disk
abbrev pub AllSound : {E : Type 0} → EraseGhosts E → Type 0
AllSound {E} erase = (d : E) → erase.honest d → IsSound (erase.model d)

-- both disks rest: whatever a crash may leave of them now represents the history of a run that the uses are, of an archive of these settings
pub record Resting {E O Pen Seen : Type 0} (erase : EraseGhosts E) (once : OnceGhosts O Pen Seen) (made : Settings) (Q : History → Type 0) (past : List Use) (e : E) (o : O) (pen : Pen) : Type 0 where
  pub honest_erase : erase.honest e
  pub honest_once : once.honest o pen
  pub site : Site
  pub noted : IsNoted site
  pub settings : site.settings ≡ made
  pub count : site.blocks ≡ once.block_count o
  pub rests : (left : Left) → LeftNow (erase.model e) (once.model pen) left → (g : History) × Ran made.collectors Q past true g × LeftRepresents site g left

-- what a crash left of them
pub record Lying (made : Settings) (Q : History → Type 0) (past : List Use) (blocks : ℕ) (left : Left) : Type 0 where
  pub site : Site
  pub noted : IsNoted site
  pub settings : site.settings ≡ made
  pub count : site.blocks ≡ blocks
  pub history : History
  pub run : Ran made.collectors Q past true history
  pub represents : LeftRepresents site history left

-- what is represented is represented where more is settled
pub left_grows : (site : Site) (g : History) (left other : Left) → other.erase ≡ left.erase → HasSettled left.once other → LeftRepresents site g left → LeftRepresents site g other
left_grows site g left other same has k =
    let r = k.represents in
    record {
      pages = k.pages;
      means = subst (λ (f : ℕ → ℕ). Recovers site.homes site.note f k.pages) (sym same) k.means;
      represents = record {
        head = r.head;
        valid = r.valid;
        first = r.first;
        head_represents = head_represents_grown (TreeLocated site.blocks) (tree_grows site.blocks) site.settings (settled_in left.once) (settled_in other.once) has r.head k.pages g r.head_represents;
      };
    }

-- whatever a crash may leave of an archive now represents the history that the archive represents
pub represented_is_left : {E O Pen Seen : Type 0} {erase : EraseGhosts E} {once : OnceGhosts O Pen Seen} (a : Archive E O Pen Seen erase once) (h : History) → Represents a h → (left : Left) → LeftNow (erase_state a) (once_state a) left → LeftRepresents (site_of a) h left
represented_is_left {erase = erase} a h k left now = record {
  pages = k.pages;
  means = kept_recovers erase (journal_of (pool_of a.tx)) k.pages k.maps.keeps left.erase now.erase;
  represents = record {
    head = a.head;
    valid = k.valid;
    first = k.first;
    head_represents = head_represents_grown (TreeLocated (site_of a).blocks) (tree_grows (site_of a).blocks) a.settings (settled_in (once_state a)) (settled_in left.once) now.settled a.head k.pages h k.head_represents;
  };
}

-- an archive that represents the history of a run rests, after a use that is a crash
pub represented_rests : {E O Pen Seen : Type 0} (erase : EraseGhosts E) (once : OnceGhosts O Pen Seen) (made : Settings) (Q : History → Type 0) (past : List Use) (a : Archive E O Pen Seen erase once) (h : History) → settings_of a ≡ made → Ran made.collectors Q past true h → Represents a h → Resting erase once made Q past (erase_of a) (once_of a) (pen_in a)
represented_rests erase once made Q past a h settings run k = record {
  honest_erase = k.honest.0;
  honest_once = k.honest.1;
  site = site_of a;
  noted = k.noted;
  settings = settings;
  count = refl;
  rests = λ left now. (h, run, represented_is_left a h k left now);
}

-- the run goes on
pub rests_on : {E O Pen Seen : Type 0} (erase : EraseGhosts E) (once : OnceGhosts O Pen Seen) (made : Settings) (Q : History → Type 0) (past next : List Use) (e : E) (o : O) (pen : Pen) → ((g : History) → Ran made.collectors Q past true g → Ran made.collectors Q next true g) → Resting erase once made Q past e o pen → Resting erase once made Q next e o pen
rests_on erase once made Q past next e o pen on r = record {
  honest_erase = r.honest_erase;
  honest_once = r.honest_once;
  site = r.site;
  noted = r.noted;
  settings = r.settings;
  count = r.count;
  rests = λ left now. (let f = r.rests left now in (f.0, on f.0 f.1, f.2));
}

-- a crash comes
pub rests_left : {E O Pen Seen : Type 0} (erase : EraseGhosts E) (once : OnceGhosts O Pen Seen) (made : Settings) (Q : History → Type 0) (past : List Use) (e : E) (o : O) (pen : Pen) (left : Left) → Resting erase once made Q past e o pen → LeftNow (erase.model e) (once.model pen) left → Lying made Q past (once.block_count o) left
rests_left erase once made Q past e o pen left r now =
    let f = r.rests left now in
    record { site = r.site; noted = r.noted; settings = r.settings; count = r.count; history = f.0; run = f.1; represents = f.2 }

-- and both disks are found as it left them
pub lying_found : {E O Pen Seen : Type 0} (erase : EraseGhosts E) (once : OnceGhosts O Pen Seen) (made : Settings) (Q : History → Type 0) (past : List Use) (blocks : ℕ) (e : E) (o : O) (pen : Pen) (left : Left) → Lying made Q past blocks left → IsFound (erase.model e) (once.model pen) left → once.block_count o ≡ blocks → erase.honest e → once.honest o pen → Resting erase once made Q past e o pen
lying_found erase once made Q past blocks e o pen left l found count honest_erase honest_once = record {
  honest_erase = honest_erase;
  honest_once = honest_once;
  site = l.site;
  noted = l.noted;
  settings = l.settings;
  count = l.count ∙ sym count;
  rests = λ other now. (
      let kept = found_left (erase.model e) (once.model pen) left found other now in
      (l.history, l.run, left_grows l.site l.history left other kept.0 kept.1 l.represents)
      );
}

-- what they read as
pub rests_reads : {E O Pen Seen : Type 0} (erase : EraseGhosts E) (once : OnceGhosts O Pen Seen) (made : Settings) (Q : History → Type 0) (past : List Use) (e : E) (o : O) (pen : Pen) (r : Resting erase once made Q past e o pen) → (g : History) × Ran made.collectors Q past true g × ReadsAs r.site (once.block_count o) (erase.model e) (once.model pen) g
rests_reads erase once made Q past e o pen r =
    let f = r.rests (present (erase.model e) (once.model pen)) (present_now (erase.model e) (once.model pen)) in
    (f.0, f.1, record { count = r.count; noted = r.noted; represents = f.2 })
