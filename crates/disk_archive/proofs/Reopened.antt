-- What both disks read as is what the archive represents that is opened on them.
use Rattle.std.proofs.Common.{◌≡◌, ◌⊎◌, ◌<◌, ◌≤◌, inl, inr, ⊎_elim, ℕ, zero, suc, ◌+◌, ◌*◌, List, length, refl, sym, ◌∙◌, ap, subst, arith, Result, Ok, Err, IfOk, IfErr}
use Rattle.std.proofs.Math.Nat.{suc-mul}
use Rattle.disk_models.specs.declared.erase.EraseDisk.{Ghosts as EraseGhosts}
use Rattle.disk_models.specs.declared.once.OnceDisk.{Ghosts as OnceGhosts}
use Rattle.disk_models.specs.Erase.{DiskState, IsSound, MayLeave}
use Rattle.disk_models.specs.Once.{OnceState, settled_in}
use Rattle.disk_models.specs.Left.{CrashPair, HasSettled, IsFound, Left, LeftNow, TriedWithin, present}
use Rattle.disk_models.proofs.api.Pairs.{present_now}
use Rattle.page_journal.specs.Journal.{disk_of as erase_disk}
use Rattle.page_journal.specs.Recovers.{Recovers}
use Rattle.page_journal.proofs.Keeping.{length_meant}
use Rattle.buffer_pool.specs.Pool.{Maps, journal_of}
use Rattle.buffer_pool.specs.declared.pool.Pool.{Pool}
use Rattle.page_tx.specs.Start.{Start}
use Rattle.page_tx.specs.Tx.{pool_of}
use Rattle.route_meaning.specs.History.{History}
use Rattle.archive_head.specs.Head.{EncodesHead, IsHead}
use Rattle.intake.specs.Ring.{page_at}
use Rattle.archive_pages.specs.declared.settings.Settings.{Settings}
use Rattle.archive_pages.specs.Places.{AreSettings, tree_low}
use Rattle.archive_pages.specs.Represented.{HeadRepresents, PagesRepresent}
use Rattle.disk_archive.specs.declared.archive.Archive.{Archive}
use Rattle.disk_archive.specs.declared.looks.Looks.{Looks}
use Rattle.disk_archive.specs.declared.open_error.OpenError.{OpenError}
use Rattle.disk_archive.specs.declared.open_error.OpenError.TheVariants as openings
use Rattle.disk_archive.specs.Archives.{Represents, ContinuesFrom, once_of, once_state, pen_in, site_of}
use Rattle.disk_archive.specs.Mirrors.{Mirrors}
use Rattle.disk_archive.specs.Notes.{note_octets}
use Rattle.disk_archive.specs.Openings.{IsFaultOrMemory, ReadsAs}
use Rattle.disk_archive.specs.Sites.{IsNoted, LeftRepresents, Rests, Site}
use Rattle.disk_archive.specs.Trees.{TreeLocated}
use Rattle.disk_archive.specs.inner.Looking.{LooksAt}
use Rattle.disk_archive.specs.inner.Recalling.{RecallRefusal}
use Rattle.disk_archive.specs.inner.Guarding.{CrashRepresentsOr}
use Rattle.archive_pages.proofs.api.Representing.{head_represents_grown}
use Rattle.disk_archive.proofs.api.Trees.{tree_grows}
use Rattle.disk_archive.proofs.Crossing.{now_represents}
use Rattle.disk_archive.proofs.NoteReading.{one_settings}
use Rattle.disk_archive.proofs.Plans.{lane_at}
use Rattle.disk_archive.proofs.Recalled.{own_of}

-- an archive over the pages that were looked at
pub represents_found : {E O Pen Seen : Type 0} {erase : EraseGhosts E} {once : OnceGhosts O Pen Seen} (a : Archive E O Pen Seen erase once) (looks : Looks E erase) (start : Start) (shown : List (List ℕ)) (h : History) (disk : O) (o : OnceState)
    → IsNoted (site_of a) → LooksAt erase looks start shown → pool_of a.tx ≡ looks.pool → once_of a ≡ disk → once_state a ≡ o → once.honest (once_of a) (pen_in a) → IsHead a.head → EncodesHead a.head (page_at shown 0)
    → HeadRepresents (TreeLocated (once.block_count disk)) a.settings (settled_in o) a.head shown h → Mirrors a.sequencer h → Represents a h
represents_found {E = E} {erase = erase} {once = once} a looks start shown h disk o noted s pool is state honest valid first head_represents mirrors = record {
  noted = noted;
  honest = (subst (λ (p : Pool E erase). erase.honest (erase_disk (journal_of p))) (sym pool) s.honest, honest);
  pages = shown;
  maps = subst (λ (l : List (List ℕ)). Maps erase (pool_of a.tx) l) (sym s.same) (subst (λ (p : Pool E erase). Maps erase p start.pages) (sym pool) s.maps);
  valid = valid;
  first = first;
  head_represents = subst (λ d. HeadRepresents (TreeLocated (once.block_count d)) a.settings (settled_in (once_state a)) a.head shown h) (sym is)
      (subst (λ (x : OnceState). HeadRepresents (TreeLocated (once.block_count disk)) a.settings (settled_in x) a.head shown h) (sym state) head_represents);
  mirrors = mirrors;
}

-- the settings that were read are those of what the disks read as
pub settings_are : (site : Site) (blocks : ℕ) (e : DiskState) (o : OnceState) (h : History) (s : Settings) (note : List ℕ) → ReadsAs site blocks e o h → AreSettings s → note ≡ note_octets blocks s → note ≡ site.note → s ≡ site.settings
settings_are site blocks e o h s note r are reported same =
    one_settings blocks s site.settings are r.noted.settings (sym reported ∙ same ∙ r.noted.note ∙ ap (λ n. note_octets n site.settings) r.count)

pub represents_read : (site : Site) (blocks : ℕ) (e : DiskState) (o : OnceState) (h : History) (s : Settings) → (r : ReadsAs site blocks e o h) → s ≡ site.settings → PagesRepresent (TreeLocated blocks) s (settled_in o) r.represents.pages h
represents_read site blocks e o h s r is =
    subst (λ n. PagesRepresent (TreeLocated n) s (settled_in o) r.represents.pages h) r.count
    (subst (λ (x : Settings). PagesRepresent (TreeLocated site.blocks) x (settled_in o) r.represents.pages h) (sym is) r.represents.represents)

-- disks that are found as a crash left them read as what it left represents
pub reads_found : (site : Site) (blocks : ℕ) (e : DiskState) (o : OnceState) (left : Left) (h : History) → IsFound e o left → site.blocks ≡ blocks → IsNoted site → LeftRepresents site h left → ReadsAs site blocks e o h
reads_found site blocks e o left h found count noted k =
    let r = k.represents in
    record {
      count = count;
      noted = noted;
      represents = record {
        pages = k.pages;
        means = subst (λ (f : ℕ → ℕ). Recovers site.homes site.note f k.pages) (sym found.erase.reads) k.means;
        represents = record {
          head = r.head;
          valid = r.valid;
          first = r.first;
          head_represents = head_represents_grown (TreeLocated site.blocks) (tree_grows site.blocks) site.settings (settled_in left.once) (settled_in o) found.once.settled r.head k.pages h r.head_represents;
        };
      };
    }

-- a history that stood still stands
pub stands_read : {E O Pen Seen : Type 0} {erase : EraseGhosts E} {once : OnceGhosts O Pen Seen} (a : Archive E O Pen Seen erase once) (site : Site) (blocks : ℕ) (e : DiskState) (o : OnceState) (h : History) → Rests site e o h → site.blocks ≡ blocks → IsNoted site → ((g : History) → ReadsAs site blocks e o g → Represents a g) → ContinuesFrom a h
stands_read a site blocks e o h rests count noted represents =
    let f = rests (present e o) (present_now e o) in
    (f.0, f.1, inl (represents f.0 (record { count = count; noted = noted; represents = f.2 })))

-- ---- crashes

-- octets that mean the pages represent the history, with all that was settled
pub left_read : (site : Site) (blocks : ℕ) (e : DiskState) (o : OnceState) (h : History) (left : Left) → (r : ReadsAs site blocks e o h) → Recovers site.homes site.note left.erase r.represents.pages → HasSettled o left → LeftRepresents site h left
left_read site blocks e o h left r means has =
    let k = r.represents.represents in
    now_represents site o k.head r.represents.pages h left (record { valid = k.valid; first = k.first; head_represents = k.head_represents }) means has

-- each crash inside the call
pub inside_read : (site : Site) (blocks : ℕ) (e0 e1 : DiskState) (o om o1 : OnceState) (h : History) → (r : ReadsAs site blocks e0 o h) → o1 ≡ o → CrashRepresentsOr e1 e0.clock (MayLeave e0) site.homes site.note r.represents.pages → (left : Left) → CrashPair e0 e1 o om o1 left → LeftNow e0 o left ⊎ LeftRepresents site h left
inside_read site blocks e0 e1 o om o1 h r same m left pair = ⊎_elim
    (λ was. inl (record { erase = was; tried = pair.tried; within = subst (λ (x : OnceState). TriedWithin x left) same pair.within; settled = pair.settled }))
    (λ means. inr (left_read site blocks e0 o h left r means pair.settled))
    (m.each left.erase pair.erase)

-- and each one after it
pub after_read : (site : Site) (blocks : ℕ) (e0 e1 : DiskState) (o o1 : OnceState) (h : History) → (r : ReadsAs site blocks e0 o h) → IsSound e1 → o1 ≡ o → CrashRepresentsOr e1 e0.clock (MayLeave e0) site.homes site.note r.represents.pages → (left : Left) → LeftNow e1 o1 left → LeftNow e0 o left ⊎ LeftRepresents site h left
after_read site blocks e0 e1 o o1 h r sound same m left now =
    let here : LeftNow e1 o left = subst (λ (x : OnceState). LeftNow e1 x left) same now in
    ⊎_elim
    (λ was. inl (record { erase = was; tried = here.tried; within = here.within; settled = here.settled }))
    (λ means. inr (left_read site blocks e0 o h left r means here.settled))
    (m.each left.erase (sound.counts_now e0.clock left.erase m.later now.erase))

-- ---- refusals

-- where no page is damaged, the device failed or memory ran out
pub only_fault_or_memory : (e : OpenError) → RecallRefusal e → ((page : ℕ) → e ≡ openings.BadNode page → ⊥) → IsFaultOrMemory e
only_fault_or_memory openings.Fault reported sound = tt
only_fault_or_memory openings.OutOfMemory reported sound = tt
only_fault_or_memory openings.NotAJournal reported sound = absurd reported
only_fault_or_memory (openings.BadSlot page) reported sound = absurd reported
only_fault_or_memory (openings.BadNode page) reported sound = absurd (sound page refl)

-- no such refusal says that there is no archive
pub never_none : {A : Type 0} (r : Result A OpenError) → IfErr r (λ e. e ≡ openings.Fault) → r ≡ Err openings.NotAJournal → ⊥
never_none (Ok a) reported is = cc
never_none (Err e) reported is = cc

pub recall_none : (e : OpenError) → RecallRefusal e → e ≡ openings.NotAJournal → ⊥
recall_none openings.Fault reported is = cc
recall_none openings.OutOfMemory reported is = cc
recall_none openings.NotAJournal reported is = reported
recall_none (openings.BadSlot page) reported is = cc
recall_none (openings.BadNode page) reported is = cc

pub fault_alone : (e : OpenError) → e ≡ openings.Fault → IsFaultOrMemory e
fault_alone e is = subst IsFaultOrMemory (sym is) tt

-- ---- where the rings lie

rings_by : (s : Settings) (n m : ℕ) → n ≡ s.collectors → 1 ≤ n → ((c : ℕ) → c < s.collectors → 1 + c * s.ring + s.ring ≤ m) → 1 + s.collectors * s.ring ≤ m
rings_by s zero m is some each = absurd (omega (arith, some))
rings_by s (suc c) m is some each =
    let last = each c (omega (arith, is)) in
    let more = suc-mul c s.ring in
    subst (λ k. 1 + k * s.ring ≤ m) is (omega (arith, last, more))

-- head and rings lie on the pages that represent a history
pub rings_inside : (count : ℕ) (s : Settings) (o : OnceState) (pages : List (List ℕ)) (h : History) → AreSettings s → PagesRepresent (TreeLocated count) s (settled_in o) pages h → tree_low s ≤ length pages
rings_inside count s o pages h are r =
    let n = r.head_represents.lanes_number in
    rings_by s s.collectors (length pages) refl are.some
    (λ c lt.
    let lane = lane_at c r.head.lanes (omega (arith, lt, n)) in
    let own = own_of count s o r.head pages h c lane.0 r.head_represents lane.1 in
    own.represents_all.place.inside)

-- and so on as many as the disk names
pub rings_named : (site : Site) (blocks : ℕ) (e : DiskState) (o : OnceState) (h : History) → (r : ReadsAs site blocks e o h) → tree_low site.settings ≤ site.homes
rings_named site blocks e o h r =
    let means = r.represents.means in
    let long = length_meant site.homes site.note means.0 e.octet r.represents.pages means.1 in
    let low = rings_inside site.blocks site.settings o r.represents.pages h r.noted.settings r.represents.represents in
    omega (arith, long, low)

pub note_read : (site : Site) (blocks : ℕ) (e : DiskState) (o : OnceState) (h : History) → ReadsAs site blocks e o h → site.note ≡ note_octets blocks site.settings
note_read site blocks e o h r = r.noted.note ∙ ap (λ n. note_octets n site.settings) r.count

-- the site of the archive that is opened
pub site_read : (site : Site) (blocks : ℕ) (e : DiskState) (o : OnceState) (h : History) (s : Settings) (homes : ℕ) (note : List ℕ) → ReadsAs site blocks e o h → s ≡ site.settings → homes ≡ site.homes → note ≡ site.note → record { settings = s; homes = homes; note = note; blocks = blocks } ≡ site
site_read site blocks e o h s homes note r same count reported = λ i. record { settings = same i; homes = count i; note = reported i; blocks = sym r.count i }

pub is_noted : (site : Site) (s : Settings) (homes blocks : ℕ) (note : List ℕ) → site ≡ record { settings = s; homes = homes; note = note; blocks = blocks } → AreSettings s → note ≡ note_octets blocks s → IsNoted site
is_noted site s homes blocks note is are reported = subst IsNoted (sym is) (record { settings = are; note = reported })

-- ---- results

pub ok_weaker : {A X : Type 0} (P Q : A → Type 0) (r : Result A X) → ((a : A) → P a → Q a) → IfOk r P → IfOk r Q
ok_weaker P Q (Ok a) so p = so a p
ok_weaker P Q (Err x) so p = tt

pub err_weaker : {A X : Type 0} (P Q : X → Type 0) (r : Result A X) → ((x : X) → P x → Q x) → IfErr r P → IfErr r Q
err_weaker P Q (Ok a) so p = tt
err_weaker P Q (Err x) so p = so x p

-- a refusal that is passed on is the one that came
pub passed_on : {T U : Type 0} (r : Result T OpenError) (s : Result U OpenError) (e : OpenError) (page : ℕ) → IfErr r (λ x. x ≡ e) → s ≡ Err e → r ≡ Err (openings.BadNode page) → s ≡ Err (openings.BadNode page)
passed_on {T} {U} r s e page reported was is = was ∙ ap (λ (x : OpenError). Err x) (sym (subst (λ (r : Result T OpenError). IfErr r (λ x. x ≡ e)) is reported))
