-- What an archive reports, and what it reports where its disks are as they were.
use Rattle.std.proofs.Common.{◌≡◌, inl, inr, ⊎_elim, ℕ, List, length, map, sym, ◌∙◌, ap, subst, arith, Some}
use Rattle.std.specs.List.{slice_get}
use Rattle.std.proofs.lemmas.Option.{slice_get_within}
use Rattle.disk_models.specs.declared.erase.EraseDisk.{Ghosts as EraseGhosts}
use Rattle.disk_models.specs.declared.once.OnceDisk.{Ghosts as OnceGhosts}
use Rattle.disk_models.specs.Once.{OnceState, settled_in}
use Rattle.page_journal.specs.Journal.{disk_of as erase_disk, home_pages, note_of, needs_recovery}
use Rattle.buffer_pool.specs.Pool.{Maps, journal_of}
use Rattle.page_tx.specs.Tx.{pool_of}
use Rattle.route_meaning.specs.History.{Intake, History}
use Rattle.interleaving_core.specs.World.{resume_of}
use Rattle.archive_head.specs.declared.lane.Lane.{Lane}
use Rattle.archive_head.specs.Head.{Contents, EncodesHead, IsHead}
use Rattle.intake.specs.Ring.{page_at}
use Rattle.archive_pages.specs.declared.settings.Settings.{Settings}
use Rattle.archive_pages.specs.Represented.{HeadRepresents}
use Rattle.disk_archive.specs.Trees.{TreeLocated}
use Rattle.disk_archive.specs.Sites.{Site, IsNoted, Rests}
use Rattle.disk_archive.specs.Mirrors.{Mirrors}
use Rattle.disk_archive.specs.declared.archive.Archive.{Archive}
use Rattle.disk_archive.specs.Archives.{HeadRepresentsOn, Represents, Waits, GoesOn, IsHonest, erase_state, once_of, once_state, site_of}
use Rattle.disk_archive.proofs.Mirroring.{intake_at, map_get}

pub mirrors_of : {E O Pen Seen : Type 0} {erase : EraseGhosts E} {once : OnceGhosts O Pen Seen} (a : Archive E O Pen Seen erase once) (h : History) → GoesOn a h → Mirrors a.sequencer h
mirrors_of a h goes = ⊎_elim (λ k. k.mirrors) (λ w. w.mirrors) goes

-- the head in memory represents the history with some pages
pub represented_of : {E O Pen Seen : Type 0} {erase : EraseGhosts E} {once : OnceGhosts O Pen Seen} (a : Archive E O Pen Seen erase once) (h : History) → GoesOn a h → (pages : List (List ℕ)) × HeadRepresentsOn a pages h
represented_of a h goes = ⊎_elim (λ k. (k.pages, k.head_represents)) (λ w. (w.pages, w.reported)) goes

resume_is : (lane : Lane) (i : Intake) → lane.offered ≡ i.offered → lane.admitted ≡ length i.admitted → lane.mark ≡ i.mark → resume_of i ≡ record { offered = lane.offered; admitted = lane.admitted; mark = lane.mark }
resume_is lane i o a m = λ x. record { offered = sym o x; admitted = sym a x; mark = sym m x }

pub resume_reported : {E O Pen Seen : Type 0} {erase : EraseGhosts E} {once : OnceGhosts O Pen Seen} (a : Archive E O Pen Seen erase once) (h : History) (c : ℕ) (lane : Lane) → slice_get a.head.lanes c ≡ Some lane → GoesOn a h → slice_get (map resume_of h.intakes) c ≡ Some (record { offered = lane.offered; admitted = lane.admitted; mark = lane.mark })
resume_reported a h c lane at goes =
    let b = (represented_of a h goes).1 in
    let within = slice_get_within a.head.lanes c lane at in
    let n = b.number in
    let m = b.lanes_number in
    let i = intake_at c h.intakes (omega (arith, within, n, m)) in
    let l = b.lanes c lane i.0 at i.1 in
    map_get resume_of h.intakes c i.0 i.1 ∙ ap Some (resume_is lane i.0 l.offered l.admitted l.mark)

-- ---- where the blocks and the head are as they were

pub head_represents_same : {E O Pen Seen : Type 0} {erase : EraseGhosts E} {once : OnceGhosts O Pen Seen} (a z : Archive E O Pen Seen erase once) (pages : List (List ℕ)) (h : History) → once_of z ≡ once_of a → once_state z ≡ once_state a → z.settings ≡ a.settings → z.head ≡ a.head → HeadRepresentsOn a pages h → HeadRepresentsOn z pages h
head_represents_same {once = once} a z pages h disk state settings head b =
    subst (λ d. HeadRepresents (TreeLocated (once.block_count d)) z.settings (settled_in (once_state z)) z.head pages h) (sym disk)
    (subst (λ o. HeadRepresents (TreeLocated (once.block_count (once_of a))) z.settings (settled_in o) z.head pages h) (sym state)
    (subst (λ (s : Settings). HeadRepresents (TreeLocated (once.block_count (once_of a))) s (settled_in (once_state a)) z.head pages h) (sym settings)
    (subst (λ (x : Contents). HeadRepresents (TreeLocated (once.block_count (once_of a))) a.settings (settled_in (once_state a)) x pages h) (sym head) b)))

pub site_same : {E O Pen Seen : Type 0} {erase : EraseGhosts E} {once : OnceGhosts O Pen Seen} (a z : Archive E O Pen Seen erase once) → once_of z ≡ once_of a → z.settings ≡ a.settings → home_pages (journal_of (pool_of z.tx)) ≡ home_pages (journal_of (pool_of a.tx)) → note_of (journal_of (pool_of z.tx)) ≡ note_of (journal_of (pool_of a.tx)) → site_of z ≡ site_of a
site_same {once = once} a z disk settings homes note = λ i. record { settings = settings i; homes = homes i; note = note i; blocks = once.block_count (disk i) }

-- the pages are kept as they were
pub represents_same : {E O Pen Seen : Type 0} {erase : EraseGhosts E} {once : OnceGhosts O Pen Seen} (a z : Archive E O Pen Seen erase once) (h : History) (k : Represents a h) → once_of z ≡ once_of a → once_state z ≡ once_state a → z.settings ≡ a.settings → z.head ≡ a.head → home_pages (journal_of (pool_of z.tx)) ≡ home_pages (journal_of (pool_of a.tx)) → note_of (journal_of (pool_of z.tx)) ≡ note_of (journal_of (pool_of a.tx)) → IsHonest z → Maps erase (pool_of z.tx) k.pages → Mirrors z.sequencer h → Represents z h
represents_same a z h k disk state settings head homes note honest maps mirrors = record {
  honest = honest;
  noted = subst IsNoted (sym (site_same a z disk settings homes note)) k.noted;
  pages = k.pages;
  maps = maps;
  valid = subst IsHead (sym head) k.valid;
  first = subst (λ (x : Contents). EncodesHead x (page_at k.pages 0)) (sym head) k.first;
  head_represents = head_represents_same a z k.pages h disk state settings head k.head_represents;
  mirrors = mirrors;
}

-- an archive whose journal is as it was, and that must be opened again
pub waits_same : {E O Pen Seen : Type 0} {erase : EraseGhosts E} {once : OnceGhosts O Pen Seen} (a z : Archive E O Pen Seen erase once) (h : History) → Waits a h → journal_of (pool_of z.tx) ≡ journal_of (pool_of a.tx) → once_of z ≡ once_of a → once_state z ≡ once_state a → z.settings ≡ a.settings → z.head ≡ a.head → z.sequencer ≡ a.sequencer → IsHonest z → Waits z h
waits_same {erase = erase} a z h w journal disk state settings head lanes honest = record {
  honest = honest;
  noted = subst IsNoted (sym (site_same a z disk settings (ap home_pages journal) (ap note_of journal))) w.noted;
  unusable = ap needs_recovery journal ∙ w.unusable;
  pages = w.pages;
  reported = head_represents_same a z w.pages h disk state settings head w.reported;
  mirrors = subst (λ l. Mirrors l h) (sym lanes) w.mirrors;
  rests =
      let site = site_same a z disk settings (ap home_pages journal) (ap note_of journal) in
      subst (λ (s : Site). Rests s (erase_state z) (once_state z) h) (sym site)
      (subst (λ j. Rests (site_of a) (erase.model (erase_disk j)) (once_state z) h) (sym journal)
      (subst (λ (o : OnceState). Rests (site_of a) (erase_state a) o h) (sym state) w.rests));
}

-- blocks are looked at
pub goes_on_same : {E O Pen Seen : Type 0} {erase : EraseGhosts E} {once : OnceGhosts O Pen Seen} (a z : Archive E O Pen Seen erase once) (h : History) → pool_of z.tx ≡ pool_of a.tx → once_of z ≡ once_of a → once_state z ≡ once_state a → z.settings ≡ a.settings → z.head ≡ a.head → z.sequencer ≡ a.sequencer → IsHonest z → GoesOn a h → GoesOn z h
goes_on_same {erase = erase} a z h pool disk state settings head lanes honest goes = ⊎_elim
    (λ k. inl (represents_same a z h k disk state settings head (ap (λ p. home_pages (journal_of p)) pool) (ap (λ p. note_of (journal_of p)) pool) honest (subst (λ p. Maps erase p k.pages) (sym pool) k.maps) (subst (λ l. Mirrors l h) (sym lanes) k.mirrors)))
    (λ w. inr (waits_same a z h w (ap journal_of pool) disk state settings head lanes honest))
    goes
