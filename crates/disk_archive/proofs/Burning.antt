-- What a call that burnt blocks, and then committed or ended, left of an archive.
use Rattle.std.proofs.Common.{◌≡◌, ◌⊎◌, inl, inr, ⊎_elim, ℕ, List, true, sym, ◌∙◌, ap, subst}
use Rattle.disk_models.specs.declared.erase.EraseDisk.{Ghosts as EraseGhosts}
use Rattle.disk_models.specs.declared.once.OnceDisk.{Ghosts as OnceGhosts}
use Rattle.disk_models.specs.Erase.{Leaves}
use Rattle.disk_models.specs.Once.{Grows, settled_in}
use Rattle.disk_models.proofs.api.Pairs.{after_call}
use Rattle.page_journal.specs.Journal.{disk_of as erase_disk, home_pages, note_of}
use Rattle.page_journal.specs.Recovers.{RecoversEither}
use Rattle.buffer_pool.specs.Pool.{Maps, journal_of}
use Rattle.page_tx.specs.Tx.{pool_of}
use Rattle.page_tx.specs.declared.tx.Tx.{Tx}
use Rattle.route_meaning.specs.History.{History, Begins}
use Rattle.route_meaning.proofs.api.Beginning.{Begins-refl}
use Rattle.archive_head.specs.Head.{Contents, EncodesHead, IsHead}
use Rattle.intake.specs.Ring.{page_at}
use Rattle.archive_pages.specs.declared.settings.Settings.{Settings}
use Rattle.archive_pages.specs.Represented.{HeadRepresents}
use Rattle.archive_pages.proofs.api.Representing.{head_represents_grown}
use Rattle.disk_archive.specs.Trees.{TreeLocated}
use Rattle.disk_archive.specs.declared.archive.Archive.{Archive}
use Rattle.disk_archive.specs.Mirrors.{Mirrors}
use Rattle.disk_archive.specs.Sites.{Site, IsNoted, LeftEither, LeftFrom}
use Rattle.disk_archive.specs.Archives.{HeadRepresentsOn, Represents, GoesOn, IsHonest, is_down, erase_state, once_of, once_state, site_of}
use Rattle.disk_archive.specs.inner.Planning.{Headed}
use Rattle.disk_archive.proofs.api.Trees.{tree_grows}
use Rattle.disk_archive.proofs.Crossing.{now_represents, leaves_either}
use Rattle.disk_archive.proofs.Reporting.{site_same}
use Rattle.disk_archive.proofs.Calling.{AllSound, Ready, ready_means, headed_of, grows_none}

head_represents_more : {E O Pen Seen : Type 0} {erase : EraseGhosts E} {once : OnceGhosts O Pen Seen} (a z : Archive E O Pen Seen erase once) (pages : List (List ℕ)) (h : History) → once_of z ≡ once_of a → Grows (once_state a) (once_state z) → z.settings ≡ a.settings → z.head ≡ a.head → HeadRepresentsOn a pages h → HeadRepresentsOn z pages h
head_represents_more {once = once} a z pages h disk grows settings head b =
    subst (λ d. HeadRepresents (TreeLocated (once.block_count d)) z.settings (settled_in (once_state z)) z.head pages h) (sym disk)
    (subst (λ (s : Settings). HeadRepresents (TreeLocated (once.block_count (once_of a))) s (settled_in (once_state z)) z.head pages h) (sym settings)
    (subst (λ (x : Contents). HeadRepresents (TreeLocated (once.block_count (once_of a))) a.settings (settled_in (once_state z)) x pages h) (sym head)
    (head_represents_grown (TreeLocated (once.block_count (once_of a))) (tree_grows (once.block_count (once_of a))) a.settings (settled_in (once_state a)) (settled_in (once_state z)) grows.settled a.head pages h b)))

-- the pages are kept as they were
pub represents_more : {E O Pen Seen : Type 0} {erase : EraseGhosts E} {once : OnceGhosts O Pen Seen} (a z : Archive E O Pen Seen erase once) (h : History) (k : Represents a h) → once_of z ≡ once_of a → Grows (once_state a) (once_state z) → z.settings ≡ a.settings → z.head ≡ a.head → home_pages (journal_of (pool_of z.tx)) ≡ home_pages (journal_of (pool_of a.tx)) → note_of (journal_of (pool_of z.tx)) ≡ note_of (journal_of (pool_of a.tx)) → IsHonest z → Maps erase (pool_of z.tx) k.pages → Mirrors z.sequencer h → Represents z h
represents_more a z h k disk grows settings head homes note honest maps mirrors = record {
  honest = honest;
  noted = subst IsNoted (sym (site_same a z disk settings homes note)) k.noted;
  pages = k.pages;
  maps = maps;
  valid = subst IsHead (sym head) k.valid;
  first = subst (λ (x : Contents). EncodesHead x (page_at k.pages 0)) (sym head) k.first;
  head_represents = head_represents_more a z k.pages h disk grows settings head k.head_represents;
  mirrors = mirrors;
}

-- a commit that was refused: the pages from before it are kept, or the archive must be opened again
pub refused_more : {E O Pen Seen : Type 0} {erase : EraseGhosts E} {once : OnceGhosts O Pen Seen} (a z : Archive E O Pen Seen erase once) (h g : History) (k : Represents a h) (b : Tx E erase) (shown : List (List ℕ)) (next : Contents) → AllSound erase → Ready a h k b shown
    → home_pages (journal_of (pool_of z.tx)) ≡ home_pages (journal_of (pool_of b)) → note_of (journal_of (pool_of z.tx)) ≡ note_of (journal_of (pool_of b))
    → once_of z ≡ once_of a → Grows (once_state a) (once_state z) → z.settings ≡ a.settings → z.head ≡ a.head → IsHonest z → Mirrors z.sequencer h → Begins h g
    → Headed (site_of a).blocks a.settings (settled_in (once_state z)) next shown g
    → Leaves (erase.model (erase_disk (journal_of (pool_of b)))) (erase_state z) (RecoversEither (home_pages (journal_of (pool_of b))) (site_of a).note k.pages shown)
    → (is_down z ≡ true) ⊎ Maps erase (pool_of z.tx) k.pages → GoesOn z h
refused_more {erase = erase} a z h g k b shown next sound r homes note disk grows settings head honest mirrors begins n l either = ⊎_elim
    (λ down. inr (record {
      honest = honest;
      noted = subst IsNoted (sym (site_same a z disk settings (homes ∙ r.homes) (note ∙ r.shows.noted))) k.noted;
      unusable = down;
      pages = k.pages;
      reported = head_represents_more a z k.pages h disk grows settings head k.head_represents;
      mirrors = mirrors;
      rests = λ left now.
          let e = erase.model (erase_disk (journal_of (pool_of b))) in
          let o = once_state a in
          let om = once_state z in
          let P = LeftEither (site_of a) h g in
          let l' = subst (λ m. Leaves e (erase_state z) (RecoversEither m (site_of a).note k.pages shown)) r.homes l in
          let one : P left = after_call e (erase_state z) o om om P (sound _ r.shows.honest) (sound _ honest.0) grows (grows_none om)
          (λ m at. inl (now_represents (site_of a) o a.head k.pages h m (headed_of a h k) (ready_means a h k b shown r m.erase at.erase) at.settled))
          (leaves_either (site_of a) e (erase_state z) o om a.head next k.pages shown h g grows (headed_of a h k) n l') left now in
          let site = site_same a z disk settings (homes ∙ r.homes) (note ∙ r.shows.noted) in
          subst (λ (s : Site). LeftFrom s h left) (sym site) (⊎_elim (λ was. (h, Begins-refl h, was)) (λ is. (g, begins, is)) one);
    }))
    (λ maps. inl (represents_more a z h k disk grows settings head (homes ∙ r.homes) (note ∙ r.shows.noted) honest maps mirrors))
    either

-- a commit that was done
pub done_more : {E O Pen Seen : Type 0} {erase : EraseGhosts E} {once : OnceGhosts O Pen Seen} (a z : Archive E O Pen Seen erase once) (g : History) (shown : List (List ℕ)) → once_of z ≡ once_of a → z.settings ≡ a.settings → IsNoted (site_of a) → home_pages (journal_of (pool_of z.tx)) ≡ home_pages (journal_of (pool_of a.tx)) → note_of (journal_of (pool_of z.tx)) ≡ note_of (journal_of (pool_of a.tx)) → IsHonest z → Maps erase (pool_of z.tx) shown → Mirrors z.sequencer g
    → Headed (site_of a).blocks a.settings (settled_in (once_state z)) z.head shown g → Represents z g
done_more {once = once} a z g shown disk settings noted homes note honest maps mirrors n = record {
  honest = honest;
  noted = subst IsNoted (sym (site_same a z disk settings homes note)) noted;
  pages = shown;
  maps = maps;
  valid = n.valid;
  first = n.first;
  head_represents =
      subst (λ d. HeadRepresents (TreeLocated (once.block_count d)) z.settings (settled_in (once_state z)) z.head shown g) (sym disk)
      (subst (λ (s : Settings). HeadRepresents (TreeLocated (once.block_count (once_of a))) s (settled_in (once_state z)) z.head shown g) (sym settings) n.head_represents);
  mirrors = mirrors;
}
