-- What the disks of an archive represent, while it is opened again.
use Rattle.std.proofs.Common.{◌≡◌, ◌∙◌, ◌⊎◌, ◌<◌, ◌++◌, inl, inr, ℕ, zero, suc, List, [], ◌∷◌, length, Some, Result, Ok, Err, OnOk, IfErr, refl, sym, ap, subst, arith}
use Rattle.std.specs.List.{slice_get}
use Rattle.disk_models.specs.declared.erase.EraseDisk.{Ghosts as EraseGhosts}
use Rattle.disk_models.specs.declared.once.OnceDisk.{Ghosts as OnceGhosts}
use Rattle.disk_models.specs.Erase.{DiskState, Lingers}
use Rattle.disk_models.specs.Once.{OnceState, settled_in}
use Rattle.disk_models.specs.Left.{present}
use Rattle.disk_models.proofs.api.Pairs.{present_now}
use Rattle.page_journal.proofs.api.Kept.{kept_recovers}
use Rattle.buffer_pool.specs.Pool.{journal_of}
use Rattle.page_tx.specs.Tx.{pool_of}
use Rattle.route_meaning.specs.History.{History, IsHistory, Begins}
use Rattle.route_meaning.proofs.api.Beginning.{Begins-refl}
use Rattle.archive_pages.proofs.api.Representing.{head_represents_grown}
use Rattle.board.specs.Past.{Past, GoesOnAs}
use Rattle.query_threads.specs.Looks.{AreTheSettled}
use Rattle.query_threads.specs.declared.refusal.Trouble.{Trouble}
use Rattle.query_threads.specs.declared.refusal.Trouble.TheVariants as troubles
use Rattle.disk_archive.specs.declared.archive.Archive.{Archive}
use Rattle.disk_archive.specs.Archives.{Represents, GoesOn, erase_of, erase_state, once_of, once_state, pen_in, site_of}
use Rattle.disk_archive.specs.Creations.{CountsOne}
use Rattle.disk_archive.specs.declared.open_error.OpenError.{OpenError}
use Rattle.disk_archive.specs.declared.open_error.OpenError.TheVariants as openings
use Rattle.disk_archive.specs.Openings.{ReadsAs}
use Rattle.disk_archive.specs.Sites.{IsNoted, Rests, Site}
use Rattle.disk_archive.specs.Trees.{TreeLocated}
use Rattle.disk_archive.proofs.api.Trees.{tree_grows}
use Rattle.shared_archive.specs.Represented.{RepresentsPast, ring_pages}
use Rattle.shared_archive.specs.Held.{AreDisks, HeldRepresents, LacksPast, RestOn, disk_at, disk_in, pages_in, right_held}
use Rattle.shared_archive.specs.Reopened.{Fails, IsAway, IsOpen, IsUp, Reopens, erase_faults, erase_faults_at, pen_faults, pen_faults_at}
use Rattle.shared_archive.specs.Reported.{Failed}
use Rattle.shared_archive.proofs.Reporting.{counts_one}
use Rattle.shared_archive.specs.inner.StoreCalls.{of_open}
use Rattle.shared_archive.specs.declared.held.Disks.{Disks}
use Rattle.shared_archive.specs.declared.held.Held.{Held}
use Rattle.shared_archive.specs.declared.held.Held.TheVariants.{Open, Shut as Closed}
use Rattle.shared_archive.proofs.Serving.{honest_of}

-- whatever a crash leaves now of an archive that goes on with a history represents one that it begins
pub going_rests : {E O Pen Seen : Type 0} {erase : EraseGhosts E} {once : OnceGhosts O Pen Seen} (a : Archive E O Pen Seen erase once) (h : History) → GoesOn a h → Rests (site_of a) (erase_state a) (once_state a) h
going_rests {erase = erase} {once = once} a h (inl k) = λ left now. (
  h,
  Begins-refl h,
  record {
    pages = k.pages;
    means = kept_recovers erase (journal_of (pool_of a.tx)) k.pages k.maps.keeps left.erase now.erase;
    represents = record {
      head = a.head;
      valid = k.valid;
      first = k.first;
      head_represents = head_represents_grown (TreeLocated (once.block_count (once_of a))) (tree_grows (once.block_count (once_of a))) a.settings (settled_in (once_state a)) (settled_in left.once) now.settled a.head k.pages h k.head_represents;
    };
  },
)
going_rests a h (inr w) = w.rests

pub going_noted : {E O Pen Seen : Type 0} {erase : EraseGhosts E} {once : OnceGhosts O Pen Seen} (a : Archive E O Pen Seen erase once) (h : History) → GoesOn a h → IsNoted (site_of a)
going_noted a h (inl k) = k.noted
going_noted a h (inr w) = w.noted

-- after a sync, done or failed, a disk rests as before
pub rests_lingers : (site : Site) (e0 e1 : DiskState) (o : OnceState) (h : History) → Lingers e0 e1 → Rests site e0 o h → Rests site e1 o h
rests_lingers site e0 e1 o h l rests left now = rests left (record {
  erase = λ i settled. now.erase i (λ u. settled (l.unsynced i u)) ∙ l.one_of i settled;
  tried = now.tried;
  within = now.within;
  settled = now.settled;
})

module _ {E O Pen Seen : Type 0} (erase : EraseGhosts E) (once : OnceGhosts O Pen Seen) (disks : Disks E O Pen Seen) (ring : ℕ) (p : Past) (r : RestOn erase once disks ring p) where
  pub rest_synced : (e : E) → erase.honest e → Lingers (erase.model disks.erase) (erase.model e) → RestOn erase once (record { erase = e; once = disks.once; pen = disks.pen }) ring p
  rest_synced e honest lingers = record {
    erasable = honest;
    burnable = r.burnable;
    site = r.site;
    count = r.count;
    noted = r.noted;
    pages = r.pages;
    rests = rests_lingers r.site (erase.model disks.erase) (erase.model e) (once.model disks.pen) p.history lingers r.rests;
    blocks = r.blocks;
  }

  -- what the disks read as represents a history that the past's begins
  pub rest_reads : (g : History) × Begins p.history g × ReadsAs r.site (once.block_count disks.once.value) (erase.model disks.erase) (once.model disks.pen) g
  rest_reads =
      let e = erase.model disks.erase in
      let o = once.model disks.pen in
      let f = r.rests (present e o) (present_now e o) in
      (f.0, f.1, record { count = r.count; noted = r.noted; represents = f.2 })

-- the disks that an archive gives up represent what it represents
pub rest_of : {E O Pen Seen : Type 0} {erase : EraseGhosts E} {once : OnceGhosts O Pen Seen} (a : Archive E O Pen Seen erase once) (p : Past) → RepresentsPast a p → (disks : Disks E O Pen Seen) → disks.erase ≡ erase_of a → disks.once.value ≡ once_of a → disks.pen ≡ pen_in a
    → (ring : ℕ) → ring_pages a ≡ ring → RestOn erase once disks ring p
rest_of {erase = erase} {once = once} a p k disks e o n ring same = record {
  erasable = subst (λ x. erase.honest x) (sym e) (honest_of a p k).0;
  burnable = subst (λ x. once.honest x disks.pen) (sym o) (subst (λ x. once.honest (once_of a) x) (sym n) (honest_of a p k).1);
  site = site_of a;
  count = ap once.block_count (sym o);
  noted = going_noted a p.history k.goes_on;
  pages = same;
  rests = subst (λ x. Rests (site_of a) (erase.model x) (once.model disks.pen) p.history) (sym e) (subst (λ x. Rests (site_of a) (erase_state a) (once.model x) p.history) (sym n) (going_rests a p.history k.goes_on));
  blocks = subst (λ x. AreTheSettled (once.block_count x) (once.model disks.pen).settled p.blocks) (sym o) (subst (λ x. AreTheSettled (once.block_count (once_of a)) (once.model x).settled p.blocks) (sym n) k.blocks);
}

-- an archive that was opened on disks represents what they read as, with their blocks
pub represented_on : {E O Pen Seen : Type 0} {erase : EraseGhosts E} {once : OnceGhosts O Pen Seen} (a : Archive E O Pen Seen erase once) (g : History) (p : Past) (disk : O) (o : OnceState) → Represents a g → once_of a ≡ disk → once_state a ≡ o → AreTheSettled (once.block_count disk) o.settled p.blocks
    → RepresentsPast a (record { history = g; blocks = p.blocks })
represented_on {once = once} a g p disk o k is same blocks = record {
  goes_on = inl k;
  blocks = subst (λ x. AreTheSettled (once.block_count x) (once_state a).settled p.blocks) (sym is) (subst (λ (y : OnceState). AreTheSettled (once.block_count disk) y.settled p.blocks) (sym same) blocks);
}

-- ---- refusals

pub open_fails : (e e' p p' : ℕ) (x : OpenError) → (x ≡ openings.Fault → CountsOne e e' p p') → Fails ⊥ e e' p p' (of_open x)
open_fails e e' p p' openings.Fault counted = counts_one e e' p p' (counted refl)
open_fails e e' p p' openings.NotAJournal counted = tt
open_fails e e' p p' (openings.BadSlot page) counted = tt
open_fails e e' p p' (openings.BadNode page) counted = tt
open_fails e e' p p' openings.OutOfMemory counted = tt

-- failures that were counted before the disks were put back
pub failed_kept : (e n m p q r : ℕ) → m ≡ n → r ≡ q → Failed e n ⊎ Failed p q → Failed e m ⊎ Failed p r
failed_kept e n m p q r erase pen (inl k) = inl (erase ∙ k)
failed_kept e n m p q r erase pen (inr k) = inr (pen ∙ k)

-- what is so of disks is so of the archive that gave them up
pub fails_of : (away : Type 0) (e f e' p q p' : ℕ) (t : Trouble) → e ≡ f → p ≡ q → Fails ⊥ e e' p p' t → Fails away f e' q p' t
fails_of away e f e' p q p' troubles.Fault same pen (inl k) = inl (subst (λ n. Failed n e') same k)
fails_of away e f e' p q p' troubles.Fault same pen (inr k) = inr (subst (λ n. Failed n p') pen k)
fails_of away e f e' p q p' troubles.NeedsRecovery same pen k = absurd k
fails_of away e f e' p q p' (troubles.DamagedPage page) same pen k = tt
fails_of away e f e' p q p' (troubles.DamagedBlock block) same pen k = absurd k
fails_of away e f e' p q p' troubles.CounterFull same pen k = absurd k
fails_of away e f e' p q p' troubles.TooHigh same pen k = absurd k
fails_of away e f e' p q p' troubles.PagesFull same pen k = absurd k
fails_of away e f e' p q p' troubles.OnceFull same pen k = absurd k
fails_of away e f e' p q p' troubles.OutOfMemory same pen k = tt

-- ---- held archives

module _ {E O Pen Seen : Type 0} {erase : EraseGhosts E} {once : OnceGhosts O Pen Seen} where
  pub lacks_rest : (held : Held E O Pen Seen erase once) (disks : Disks E O Pen Seen) (p : Past) → LacksPast held disks p → RestOn erase once disks (pages_in held) p
  lacks_rest (Open a) disks p k = absurd k
  lacks_rest (Closed s) disks p k = k.rest

  pub lacks_right : (held : Held E O Pen Seen erase once) (disks : Disks E O Pen Seen) (p : Past) → LacksPast held disks p → IsHistory p.history
  lacks_right (Open a) disks p k = absurd k
  lacks_right (Closed s) disks p k = k.remembers.right

  pub lacks_other : (held : Held E O Pen Seen erase once) (disks others : Disks E O Pen Seen) (p : Past) → RestOn erase once others (pages_in held) p → LacksPast held disks p → LacksPast held others p
  lacks_other (Open a) disks others p rest k = absurd k
  lacks_other (Closed s) disks others p rest k = record { remembers = k.remembers; rest = rest }

  -- the same with disks on which all rests that rested on these
  pub lacks_renewed : (held : Held E O Pen Seen erase once) (disks others : Disks E O Pen Seen) (p : Past) → ((ring : ℕ) (x : Past) → RestOn erase once disks ring x → RestOn erase once others ring x) → LacksPast held disks p → LacksPast held others p
  lacks_renewed held disks others p rests k = lacks_other held disks others p (rests (pages_in held) p (lacks_rest held disks p k)) k

  pub stays_lacking : (held : Held E O Pen Seen erase once) (disks : Disks E O Pen Seen) (p : Past) → LacksPast held disks p → GoesOnAs p p
  stays_lacking held disks p k = record { right = lacks_right held disks p k; begins = Begins-refl p.history; blocks = λ n octets b. b }

  -- what it holds stays
  pub stays_held : (held : Held E O Pen Seen erase once) (p : Past) → HeldRepresents held p → GoesOnAs p p
  stays_held held p k = record { right = right_held held p k; begins = Begins-refl p.history; blocks = λ n octets b. b }

  pub are_disk : (held : Held E O Pen Seen erase once) (disks : Disks E O Pen Seen) → AreDisks held disks → disks.once.value ≡ disk_in held
  are_disk (Open a) disks k = k.1
  are_disk (Closed s) disks k = ap (disk_at s.witness) (sym k)

  pub are_erase : (held : Held E O Pen Seen erase once) (disks : Disks E O Pen Seen) → AreDisks held disks → erase.fault_count disks.erase ≡ erase_faults held
  are_erase (Open a) disks k = ap erase.fault_count k.0
  are_erase (Closed s) disks k = ap (erase_faults_at erase) (sym k)

  pub are_pen : (held : Held E O Pen Seen erase once) (disks : Disks E O Pen Seen) → AreDisks held disks → once.pen_fault_count disks.pen ≡ pen_faults held
  are_pen (Open a) disks k = ap once.pen_fault_count k.2
  are_pen (Closed s) disks k = ap (pen_faults_at once) (sym k)

  -- an opening on the disks that were taken away
  pub reopens_by : (a mid b : Held E O Pen Seen erase once) (disks : Disks E O Pen Seen) (r : Result (Unit {0}) Trouble) (e p : ℕ) → e ≡ erase_faults a → p ≡ pen_faults a
      → ((x : Past) → HeldRepresents a x → LacksPast mid disks x) → OnOk r (IsOpen b × ((x : Past) → LacksPast mid disks x → IsUp b)) → IfErr r (λ t. Fails ⊥ e (erase_faults b) p (pen_faults b) t) → Reopens a r b
  reopens_by a mid b disks (Ok done) e p same pen taken opens fails = (opens.0, λ x k. opens.1 x (taken x k))
  reopens_by a mid b disks (Err t) e p same pen taken opens fails = fails_of (IsAway a) e (erase_faults a) (erase_faults b) p (pen_faults a) (pen_faults b) t same pen fails

-- ---- lists

pub get_front : (xs : List ℕ) (x c : ℕ) → c < length xs → slice_get (xs ++ x ∷ []) c ≡ slice_get xs c
get_front [] x c lt = absurd (omega (arith, lt))
get_front (y ∷ xs) x zero lt = refl
get_front (y ∷ xs) x (suc c) lt = get_front xs x c (omega (arith, lt))

pub get_last : (xs : List ℕ) (x : ℕ) → slice_get (xs ++ x ∷ []) (length xs) ≡ Some x
get_last [] x = refl
get_last (y ∷ xs) x = get_last xs x
