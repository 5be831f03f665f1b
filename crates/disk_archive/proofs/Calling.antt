-- What a call that committed, or ended before, left of an archive.
use Rattle.std.proofs.Common.{◌≡◌, ◌⊎◌, inl, inr, ⊎_elim, ℕ, List, true, sym, ◌∙◌, subst, ◌≤◌, arith}
use Rattle.disk_models.specs.declared.erase.EraseDisk.{Ghosts as EraseGhosts}
use Rattle.disk_models.specs.declared.once.OnceDisk.{Ghosts as OnceGhosts}
use Rattle.disk_models.specs.Erase.{MayLeave, Leaves, IsSound}
use Rattle.disk_models.specs.Once.{OnceState, Grows, settled_in}
use Rattle.disk_models.specs.Left.{LeftNow}
use Rattle.disk_models.proofs.api.Pairs.{after_call}
use Rattle.page_journal.specs.Journal.{disk_of as erase_disk, home_pages, note_of}
use Rattle.page_journal.specs.Recovers.{Recovers, RecoversEither}
use Rattle.page_journal.proofs.api.Kept.{kept_recovers}
use Rattle.buffer_pool.specs.Pool.{Maps, journal_of}
use Rattle.page_tx.specs.Start.{Start}
use Rattle.page_tx.specs.Tx.{Shows, pool_of}
use Rattle.page_tx.specs.declared.tx.Tx.{Tx}
use Rattle.route_meaning.specs.History.{History, Begins}
use Rattle.route_meaning.proofs.api.Beginning.{Begins-refl}
use Rattle.archive_head.specs.Head.{Contents}
use Rattle.disk_archive.specs.declared.archive.Archive.{Archive}
use Rattle.disk_archive.specs.Mirrors.{Mirrors}
use Rattle.disk_archive.specs.Sites.{Site, IsNoted, LeftEither, LeftFrom}
use Rattle.disk_archive.specs.Archives.{Represents, GoesOn, IsHonest, erase_state, once_state, once_of, site_of, is_down}
use Rattle.disk_archive.specs.Crashes.{Crashes}
use Rattle.disk_archive.specs.inner.Planning.{Headed}
use Rattle.archive_pages.specs.declared.settings.Settings.{Settings}
use Rattle.archive_pages.specs.Represented.{HeadRepresents}
use Rattle.disk_archive.specs.Trees.{TreeLocated}
use Rattle.disk_archive.proofs.Reporting.{head_represents_same, represents_same, site_same}
use Rattle.disk_archive.proofs.Crossing.{now_represents, then_writes, no_write, leaves_either}

pub grows_none : (o : OnceState) → Grows o o
grows_none o = record { tried = λ n t. t; settled = λ n b s. s }

-- the sound law of an erasable disk
abbrev pub AllSound : {E : Type 0} → EraseGhosts E → Type 0
AllSound {E} erase = (d : E) → erase.honest d → IsSound (erase.model d)

-- what the transaction of an archive begins with
abbrev pub start_of : {E O Pen Seen : Type 0} {erase : EraseGhosts E} {once : OnceGhosts O Pen Seen} (a : Archive E O Pen Seen erase once) (h : History) → Represents a h → Start
start_of a h k = record { note = note_of (journal_of (pool_of a.tx)); pages = k.pages; clock = (erase_state a).clock }

pub headed_of : {E O Pen Seen : Type 0} {erase : EraseGhosts E} {once : OnceGhosts O Pen Seen} (a : Archive E O Pen Seen erase once) (h : History) (k : Represents a h) → Headed (site_of a).blocks a.settings (settled_in (once_state a)) a.head k.pages h
headed_of a h k = record { valid = k.valid; first = k.first; head_represents = k.head_represents }

-- A transaction that began with what the archive represents, and has the same pages below.
pub record Ready {E O Pen Seen : Type 0} {erase : EraseGhosts E} {once : OnceGhosts O Pen Seen} (a : Archive E O Pen Seen erase once) (h : History) (k : Represents a h) (b : Tx E erase) (shown : List (List ℕ)) : Type 0 where
  pub shows : Shows erase b (start_of a h k) shown
  pub homes : home_pages (journal_of (pool_of b)) ≡ home_pages (journal_of (pool_of a.tx))

-- whatever a crash leaves then means the pages that the archive represents
pub ready_means : {E O Pen Seen : Type 0} {erase : EraseGhosts E} {once : OnceGhosts O Pen Seen} (a : Archive E O Pen Seen erase once) (h : History) (k : Represents a h) (b : Tx E erase) (shown : List (List ℕ)) → Ready a h k b shown
    → (c : ℕ → ℕ) → MayLeave (erase.model (erase_disk (journal_of (pool_of b)))) c → Recovers (site_of a).homes (site_of a).note c k.pages
ready_means {erase = erase} a h k b shown r c may =
    subst (λ n. Recovers n (site_of a).note c k.pages) r.homes
    (subst (λ m. Recovers (home_pages (journal_of (pool_of b))) m c k.pages) r.shows.noted (kept_recovers erase (journal_of (pool_of b)) k.pages r.shows.maps.keeps c may))

-- a call that ended before its first erasable write
pub unwritten : {E O Pen Seen : Type 0} {erase : EraseGhosts E} {once : OnceGhosts O Pen Seen} (a z : Archive E O Pen Seen erase once) (h g : History) (k : Represents a h) (shown : List (List ℕ)) → AllSound erase → Ready a h k z.tx shown → Grows (once_state a) (once_state z)
    → Crashes a z (LeftEither (site_of a) h g)
unwritten {erase = erase} a z h g k shown sound r grows = record {
  later = (let clocked = r.shows.clocked in omega (arith, clocked));
  each = no_write (erase_state a) (erase_state z) (once_state a) (once_state z) (once_state z) (LeftEither (site_of a) h g) (sound _ r.shows.honest) r.shows.clocked
      (λ left may has. inl (now_represents (site_of a) (once_state a) a.head k.pages h left (headed_of a h k) (ready_means a h k z.tx shown r left.erase may) has));
}

-- a call that committed, or tried to
pub written : {E O Pen Seen : Type 0} {erase : EraseGhosts E} {once : OnceGhosts O Pen Seen} (a z : Archive E O Pen Seen erase once) (h g : History) (k : Represents a h) (b : Tx E erase) (shown : List (List ℕ)) (next : Contents) → AllSound erase → Ready a h k b shown → Grows (once_state a) (once_state z)
    → Headed (site_of a).blocks a.settings (settled_in (once_state z)) next shown g
    → Leaves (erase.model (erase_disk (journal_of (pool_of b)))) (erase_state z) (RecoversEither (home_pages (journal_of (pool_of b))) (site_of a).note k.pages shown)
    → Crashes a z (LeftEither (site_of a) h g)
written {erase = erase} a z h g k b shown next sound r grows n l = record {
  later = (let clocked = r.shows.clocked in let later = l.later in omega (arith, clocked, later));
  each =
      let e = erase.model (erase_disk (journal_of (pool_of b))) in
      let l' = subst (λ m. Leaves e (erase_state z) (RecoversEither m (site_of a).note k.pages shown)) r.homes l in
      then_writes (erase_state a) e (erase_state z) (once_state a) (once_state z) (once_state z) (LeftEither (site_of a) h g) (sound _ r.shows.honest) r.shows.clocked
      (λ left may has. inl (now_represents (site_of a) (once_state a) a.head k.pages h left (headed_of a h k) (kept_recovers erase (journal_of (pool_of a.tx)) k.pages k.maps.keeps left.erase may) has))
      (λ left may has. inl (now_represents (site_of a) (once_state a) a.head k.pages h left (headed_of a h k) (ready_means a h k b shown r left.erase may) has))
      (leaves_either (site_of a) e (erase_state z) (once_state a) (once_state z) a.head next k.pages shown h g grows (headed_of a h k) n l');
}

-- ---- what an archive holds after a call

-- a call that wrote nothing
pub kept : {E O Pen Seen : Type 0} {erase : EraseGhosts E} {once : OnceGhosts O Pen Seen} (a z : Archive E O Pen Seen erase once) (h : History) (k : Represents a h) (shown : List (List ℕ)) → Ready a h k z.tx shown → once_of z ≡ once_of a → once_state z ≡ once_state a → z.settings ≡ a.settings → z.head ≡ a.head → IsHonest z → Mirrors z.sequencer h → Represents z h
kept a z h k shown r disk state settings head honest mirrors = represents_same a z h k disk state settings head r.homes r.shows.noted honest r.shows.maps mirrors

-- a commit that was refused: the pages from before it are kept, or the archive must be opened again
pub refused : {E O Pen Seen : Type 0} {erase : EraseGhosts E} {once : OnceGhosts O Pen Seen} (a z : Archive E O Pen Seen erase once) (h g : History) (k : Represents a h) (b : Tx E erase) (shown : List (List ℕ)) (next : Contents) → AllSound erase → Ready a h k b shown
    → home_pages (journal_of (pool_of z.tx)) ≡ home_pages (journal_of (pool_of b)) → note_of (journal_of (pool_of z.tx)) ≡ note_of (journal_of (pool_of b))
    → once_of z ≡ once_of a → once_state z ≡ once_state a → z.settings ≡ a.settings → z.head ≡ a.head → IsHonest z → Mirrors z.sequencer h → Begins h g
    → Headed (site_of a).blocks a.settings (settled_in (once_state a)) next shown g
    → Leaves (erase.model (erase_disk (journal_of (pool_of b)))) (erase_state z) (RecoversEither (home_pages (journal_of (pool_of b))) (site_of a).note k.pages shown)
    → (is_down z ≡ true) ⊎ Maps erase (pool_of z.tx) k.pages → GoesOn z h
refused {erase = erase} a z h g k b shown next sound r homes note disk state settings head honest mirrors begins n l either = ⊎_elim
    (λ down. inr (record {
      honest = honest;
      noted = subst IsNoted (sym (site_same a z disk settings (homes ∙ r.homes) (note ∙ r.shows.noted))) k.noted;
      unusable = down;
      pages = k.pages;
      reported = head_represents_same a z k.pages h disk state settings head k.head_represents;
      mirrors = mirrors;
      rests = λ left now.
          let e = erase.model (erase_disk (journal_of (pool_of b))) in
          let o = once_state a in
          let P = LeftEither (site_of a) h g in
          let l' = subst (λ m. Leaves e (erase_state z) (RecoversEither m (site_of a).note k.pages shown)) r.homes l in
          let now' : LeftNow (erase_state z) o left = subst (λ (x : OnceState). LeftNow (erase_state z) x left) state now in
          let one : P left = after_call e (erase_state z) o o o P (sound _ r.shows.honest) (sound _ honest.0) (grows_none o) (grows_none o)
          (λ m at. inl (now_represents (site_of a) o a.head k.pages h m (headed_of a h k) (ready_means a h k b shown r m.erase at.erase) at.settled))
          (leaves_either (site_of a) e (erase_state z) o o a.head next k.pages shown h g (grows_none o) (headed_of a h k) n l') left now' in
          let site = site_same a z disk settings (homes ∙ r.homes) (note ∙ r.shows.noted) in
          subst (λ (s : Site). LeftFrom s h left) (sym site) (⊎_elim (λ was. (h, Begins-refl h, was)) (λ is. (g, begins, is)) one);
    }))
    (λ maps. inl (represents_same a z h k disk state settings head (homes ∙ r.homes) (note ∙ r.shows.noted) honest maps mirrors))
    either

-- a commit that was done
pub done : {E O Pen Seen : Type 0} {erase : EraseGhosts E} {once : OnceGhosts O Pen Seen} (a z : Archive E O Pen Seen erase once) (g : History) (shown : List (List ℕ)) → once_of z ≡ once_of a → once_state z ≡ once_state a → z.settings ≡ a.settings → IsNoted (site_of a) → home_pages (journal_of (pool_of z.tx)) ≡ home_pages (journal_of (pool_of a.tx)) → note_of (journal_of (pool_of z.tx)) ≡ note_of (journal_of (pool_of a.tx)) → IsHonest z → Maps erase (pool_of z.tx) shown → Mirrors z.sequencer g
    → Headed (site_of a).blocks a.settings (settled_in (once_state a)) z.head shown g → Represents z g
done {once = once} a z g shown disk state settings noted homes note honest maps mirrors n = record {
  honest = honest;
  noted = subst IsNoted (sym (site_same a z disk settings homes note)) noted;
  pages = shown;
  maps = maps;
  valid = n.valid;
  first = n.first;
  head_represents =
      subst (λ d. HeadRepresents (TreeLocated (once.block_count d)) z.settings (settled_in (once_state z)) z.head shown g) (sym disk)
      (subst (λ (o : OnceState). HeadRepresents (TreeLocated (once.block_count (once_of a))) z.settings (settled_in o) z.head shown g) (sym state)
      (subst (λ (s : Settings). HeadRepresents (TreeLocated (once.block_count (once_of a))) s (settled_in (once_state a)) z.head shown g) (sym settings) n.head_represents));
  mirrors = mirrors;
}
