-- The first page is written again, in one transaction.
use Rattle.std.proofs.Common.{◌≡◌, ◌≢◌, ◌<◌, ◌↔◌, inl, ⊎_elim, ℕ, Bool, List, [], ◌∷◌, length, set, refl, sym, ◌∙◌, ap, subst, arith, Some, IsTrue, length-set, get_or-set_same, get_or-set_other}
use Rattle.std.specs.List.{slice_get, slice_set}
use Rattle.disk_models.specs.declared.erase.EraseDisk.{Ghosts}
use Rattle.disk_models.specs.declared.once.OnceDisk.{Ghosts as OnceGhosts}
use Rattle.disk_models.specs.Erase.{DiskState, Leaves, MayLeave, Stays}
use Rattle.disk_models.specs.Once.{settled_in}
use Rattle.disk_models.specs.Left.{WithSettled}
use Rattle.disk_models.proofs.api.Moments.{leaves_then, leaves_weaker}
use Rattle.page_journal.specs.Journal.{Keeps, disk_of, home_pages, note_of}
use Rattle.page_journal.specs.Recovers.{Recovers, RecoversEither}
use Rattle.page_journal.specs.declared.journal.Journal.{Journal}
use Rattle.page_journal.proofs.api.Kept.{kept_length, kept_recovers}
use Rattle.buffer_pool.specs.Pool.{Maps, journal_of}
use Rattle.buffer_pool.specs.declared.pool.Pool.{Pool}
use Rattle.page_tx.specs.Tx.{pool_of}
use Rattle.route_meaning.specs.History.{History}
use Rattle.archive_head.specs.Head.{head_octets}
use Rattle.archive_head.proofs.api.Heads.{encodes_written}
use Rattle.intake.specs.Ring.{page_at}
use Rattle.archive_pages.proofs.api.Representing.{head_represents_headed}
use Rattle.disk_archive.specs.declared.archive.Archive.{Archive}
use Rattle.disk_archive.specs.Archives.{Represents, erase_state, once_state, site_of}
use Rattle.disk_archive.specs.Heads.{IsRestated}
use Rattle.disk_archive.specs.Sites.{LeftEither, LeftRepresents}
use Rattle.disk_archive.specs.Trees.{TreeLocated}
use Rattle.disk_archive.specs.inner.Planning.{Headed}
use Rattle.disk_archive.proofs.Calling.{grows_none, headed_of}
use Rattle.disk_archive.proofs.Crossing.{leaves_either}
use Rattle.disk_archive.proofs.api.Trees.{tree_framed}

-- a page that is the first one changes nothing in its place, and no other one does so
pub first_set : (pages : List (List ℕ)) (first page : List ℕ) (same : Bool) → slice_get pages 0 ≡ Some first → IsTrue same ↔ (first ≡ page) → IsTrue same ↔ (slice_set pages 0 page ≡ pages)
first_set [] first page same at is = absurd cc
first_set (p ∷ rest) first page same at is =
    let here : p ≡ first = cc in (
      λ yes. ap (λ (x : List ℕ). x ∷ rest) (sym (here ∙ is.0 yes)),
      λ set. is.1 (sym here ∙ (let both : page ≡ p = cc in sym both)),
    )

-- what leaves the pages as they are leaves them, or others
pub leaves_before : (s0 s1 : DiskState) (homes : ℕ) (note : List ℕ) (pages shown : List (List ℕ)) → Leaves s0 s1 (λ c. Recovers homes note c pages) → Leaves s0 s1 (RecoversEither homes note pages shown)
leaves_before s0 s1 homes note pages shown l = leaves_weaker s0 s1 (λ c. Recovers homes note c pages) (RecoversEither homes note pages shown) (λ c means. inl means) l

-- room is made, and then the others are committed
pub leaves_room : (s0 s1 s2 : DiskState) (homes other : ℕ) (note noted : List ℕ) (pages shown : List (List ℕ)) → other ≡ homes → noted ≡ note → Leaves s0 s1 (λ c. Recovers homes note c pages) → Leaves s1 s2 (RecoversEither other noted pages shown)
    → Leaves s0 s2 (RecoversEither homes note pages shown)
leaves_room s0 s1 s2 homes other note noted pages shown count same a b = leaves_then s0 s1 s2 (RecoversEither homes note pages shown) (leaves_before s0 s1 homes note pages shown a)
    (subst (λ n. Leaves s1 s2 (RecoversEither n note pages shown)) count (subst (λ m. Leaves s1 s2 (RecoversEither other m pages shown)) same b))

-- pages are read, and then others are committed
pub leaves_read : {D : Type 0} (device : Ghosts D) (old new : Journal D device) (s2 : DiskState) (pages shown : List (List ℕ)) → Keeps device old pages → Stays (device.model (disk_of old)) (device.model (disk_of new)) → home_pages new ≡ home_pages old → note_of new ≡ note_of old
    → Leaves (device.model (disk_of new)) s2 (RecoversEither (home_pages new) (note_of new) pages shown) → Leaves (device.model (disk_of old)) s2 (RecoversEither (home_pages old) (note_of old) pages shown)
leaves_read device old new s2 pages shown keeps stays homes note l =
    leaves_room (device.model (disk_of old)) (device.model (disk_of new)) s2 (home_pages old) (home_pages new) (note_of old) (note_of new) pages shown homes note
    (leaves_weaker (device.model (disk_of old)) (device.model (disk_of new)) (MayLeave (device.model (disk_of old))) (λ c. Recovers (home_pages old) (note_of old) c pages) (λ c may. kept_recovers device old pages keeps c may) stays.crash) l

-- ---- the archive

-- a pool maps one list of pages
pub one_map : {D : Type 0} (device : Ghosts D) (pool : Pool D device) (xs ys : List (List ℕ)) → Maps device pool xs → Maps device pool ys → xs ≡ ys
one_map device pool xs ys one two =
    let octet = (device.model (disk_of (journal_of pool))).octet in
    (one.keeps.represents octet (λ i settled. refl)).meaning ∙ sym (two.keeps.represents octet (λ i settled. refl)).meaning

pub some_pages : {E O Pen Seen : Type 0} {erase : Ghosts E} {once : OnceGhosts O Pen Seen} (a : Archive E O Pen Seen erase once) (h : History) (k : Represents a h) → 0 < home_pages (journal_of (pool_of a.tx)) → 0 < length k.pages
some_pages {erase = erase} a h k some = let long = kept_length erase (journal_of (pool_of a.tx)) k.pages k.maps.keeps in omega (arith, long, some)

-- with the head over the first page, the pages represent the same history
pub headed_again : {E O Pen Seen : Type 0} {erase : Ghosts E} {once : OnceGhosts O Pen Seen} (a : Archive E O Pen Seen erase once) (h : History) (k : Represents a h) → 0 < length k.pages
    → Headed (site_of a).blocks a.settings (settled_in (once_state a)) a.head (slice_set k.pages 0 (head_octets a.head)) h
headed_again a h k some =
    let o = once_state a in
    record {
      valid = k.valid;
      first = encodes_written a.head _ k.valid (get_or-set_same k.pages 0 (head_octets a.head) [] some);
      head_represents = head_represents_headed (TreeLocated (site_of a).blocks) a.settings (settled_in o) (tree_framed (site_of a).blocks (settled_in o)) a.head k.pages (set k.pages 0 (head_octets a.head)) h (length-set k.pages 0 (head_octets a.head))
          (λ n ge. get_or-set_other k.pages 0 n (head_octets a.head) [] (let other : n ≢ 0 = omega arith in other)) k.head_represents;
    }

-- so whatever a crash leaves while the head is written represents it
pub leaves_again : {E O Pen Seen : Type 0} {erase : Ghosts E} {once : OnceGhosts O Pen Seen} (a : Archive E O Pen Seen erase once) (pool : Pool E erase) (e1 : DiskState) (h : History) (k : Represents a h) → 0 < length k.pages → pool ≡ pool_of a.tx
    → Leaves (erase.model (disk_of (journal_of pool))) e1 (RecoversEither (home_pages (journal_of pool)) (note_of (journal_of pool)) k.pages (slice_set k.pages 0 (head_octets a.head)))
    → Leaves (erase_state a) e1 (WithSettled (once_state a) (LeftRepresents (site_of a) h))
leaves_again {E = E} {erase = erase} a pool e1 h k some is l =
    let o = once_state a in
    let shown = slice_set k.pages 0 (head_octets a.head) in
    leaves_weaker (erase_state a) e1 (WithSettled o (LeftEither (site_of a) h h)) (WithSettled o (LeftRepresents (site_of a) h)) (λ c w left same has. ⊎_elim (λ was. was) (λ now. now) (w left same has))
    (leaves_either (site_of a) (erase_state a) e1 o o a.head a.head k.pages shown h h (grows_none o) (headed_of a h k) (headed_again a h k some)
    (subst (λ (p : Pool E erase). Leaves (erase.model (disk_of (journal_of p))) e1 (RecoversEither (home_pages (journal_of p)) (note_of (journal_of p)) k.pages shown)) is l))

-- and the archive has its head as it is written
pub restated_on : {E O Pen Seen : Type 0} {erase : Ghosts E} {once : OnceGhosts O Pen Seen} (a z : Archive E O Pen Seen erase once) (h : History) (k : Represents a h) → 0 < length k.pages → z.head ≡ a.head → Maps erase (pool_of z.tx) (slice_set k.pages 0 (head_octets a.head)) → IsRestated z
restated_on {erase = erase} a z h k some head maps = record {
  first = λ pages mapped. ap (λ (l : List (List ℕ)). page_at l 0) (one_map erase (pool_of z.tx) pages (slice_set k.pages 0 (head_octets a.head)) mapped maps) ∙ get_or-set_same k.pages 0 (head_octets a.head) [] some ∙ ap head_octets (sym head);
}
