-- What disks keep, before they are opened as an archive and after they are taken out of it.
use Rattle.std.proofs.Common.{◌≡◌, ◌⊎◌, inl, inr, ⊎_elim, Bool, false, not, ◌∙◌, ap, refl, subst, sym}
use Rattle.std.proofs.lemmas.Bool.{not-true}
use Rattle.disk_models.specs.declared.erase.EraseDisk.{Ghosts as EraseGhosts}
use Rattle.disk_models.specs.declared.once.OnceDisk.{Ghosts as OnceGhosts}
use Rattle.disk_models.specs.Once.{settled_in}
use Rattle.disk_models.specs.Left.{Left, LeftNow, present}
use Rattle.disk_models.proofs.api.Pairs.{present_now}
use Rattle.page_journal.proofs.api.Kept.{kept_recovers}
use Rattle.buffer_pool.specs.Pool.{journal_of}
use Rattle.page_tx.specs.Tx.{pool_of}
use Rattle.route_meaning.specs.History.{Begins, History}
use Rattle.route_meaning.proofs.api.Beginning.{Begins-refl, Begins-trans}
use Rattle.archive_pages.proofs.api.Representing.{head_represents_grown}
use Rattle.disk_archive.specs.declared.archive.Archive.{Archive}
use Rattle.disk_archive.specs.Archives.{GoesOn, IsHonest, Represents, erase_of, erase_state, is_down, once_of, once_state, pen_in, site_of}
use Rattle.disk_archive.specs.Openings.{ReadsAs}
use Rattle.disk_archive.specs.Sites.{IsNoted, LeftFrom, LeftRepresents, Rests, Site}
use Rattle.disk_archive.specs.Trees.{TreeLocated}
use Rattle.disk_archive.proofs.api.Trees.{tree_grows}
use Rattle.disk_commands.specs.declared.disks.Disks.{Disks}
use Rattle.disk_commands.specs.Disks.{FollowModels, Keep, Leave, Represent}

-- an archive goes on with a history only on disks that follow their models
honest_of : {E O Pen Seen : Type 0} {erase : EraseGhosts E} {once : OnceGhosts O Pen Seen} (a : Archive E O Pen Seen erase once) (h : History) → GoesOn a h → IsHonest a
honest_of a h (inl represents) = represents.honest
honest_of a h (inr waits) = waits.honest

-- a history with which a usable archive goes on is represented
represents_up : {E O Pen Seen : Type 0} {erase : EraseGhosts E} {once : OnceGhosts O Pen Seen} (a : Archive E O Pen Seen erase once) (h : History) → is_down a ≡ false → GoesOn a h → Represents a h
represents_up a h up (inl represents) = represents
represents_up a h up (inr waits) = let down = waits.unusable in absurd (cc)

-- and its note says what it was made with
noted_of : {E O Pen Seen : Type 0} {erase : EraseGhosts E} {once : OnceGhosts O Pen Seen} (a : Archive E O Pen Seen erase once) (h : History) → GoesOn a h → IsNoted (site_of a)
noted_of a h (inl represents) = represents.noted
noted_of a h (inr waits) = waits.noted

-- whatever a crash may leave now represents the history that a usable archive does
represented_left : {E O Pen Seen : Type 0} {erase : EraseGhosts E} {once : OnceGhosts O Pen Seen} (a : Archive E O Pen Seen erase once) (h : History) → Represents a h → (left : Left) → LeftNow (erase_state a) (once_state a) left → LeftRepresents (site_of a) h left
represented_left {erase = erase} {once = once} a h k left now = record {
  pages = k.pages;
  means = kept_recovers erase (journal_of (pool_of a.tx)) k.pages k.maps.keeps left.erase now.erase;
  represents = record {
    head = a.head;
    valid = k.valid;
    first = k.first;
    head_represents = head_represents_grown (TreeLocated (once.block_count (once_of a))) (tree_grows (once.block_count (once_of a))) a.settings (settled_in (once_state a)) (settled_in left.once) now.settled a.head k.pages h k.head_represents;
  };
}

-- a history with which it goes on rests on its disks
rests_of : {E O Pen Seen : Type 0} {erase : EraseGhosts E} {once : OnceGhosts O Pen Seen} (a : Archive E O Pen Seen erase once) (h : History) → GoesOn a h → Rests (site_of a) (erase_state a) (once_state a) h
rests_of a h (inl represents) = λ left now. (h, Begins-refl h, represented_left a h represents left now)
rests_of a h (inr waits) = waits.rests

-- disks that an archive returned follow their models if it did
followed : {E O Pen Seen : Type 0} {erase : EraseGhosts E} {once : OnceGhosts O Pen Seen} (a : Archive E O Pen Seen erase once) (d : Disks E O Pen Seen) → d.erase ≡ erase_of a → d.once.value ≡ once_of a → d.pen ≡ pen_in a → IsHonest a
    → FollowModels erase once d
followed {erase = erase} {once = once} a d is_erase is_once is_pen honest = (
  subst erase.honest (sym is_erase) honest.0,
  subst (λ x. once.honest x d.pen) (sym is_once) (subst (λ x. once.honest (once_of a) x) (sym is_pen) honest.1),
)

-- disks that an archive gave up keep the history with which it went on
pub keep_given : {E O Pen Seen : Type 0} {erase : EraseGhosts E} {once : OnceGhosts O Pen Seen} (a : Archive E O Pen Seen erase once) (d : Disks E O Pen Seen) (h : History) → d.erase ≡ erase_of a → d.once.value ≡ once_of a → d.pen ≡ pen_in a → GoesOn a h
    → Keep erase once d h
keep_given {erase = erase} {once = once} a d h is_erase is_once is_pen goes = record {
  follow = followed a d is_erase is_once is_pen (honest_of a h goes);
  site = site_of a;
  noted = noted_of a h goes;
  count = ap once.block_count (sym is_once);
  rests = subst (λ x. Rests (site_of a) (erase.model x) (once.model d.pen) h) (sym is_erase) (subst (λ x. Rests (site_of a) (erase_state a) (once.model x) h) (sym is_pen) (rests_of a h goes));
}

-- and read as the one that it represented
pub represent_given : {E O Pen Seen : Type 0} {erase : EraseGhosts E} {once : OnceGhosts O Pen Seen} (a : Archive E O Pen Seen erase once) (d : Disks E O Pen Seen) (h : History) → d.erase ≡ erase_of a → d.once.value ≡ once_of a → d.pen ≡ pen_in a → Represents a h
    → (r : Represent erase once d h) × (r.site ≡ site_of a)
represent_given {erase = erase} {once = once} a d h is_erase is_once is_pen represents =
    let now : LeftRepresents (site_of a) h (present (erase_state a) (once_state a)) = represented_left a h represents (present (erase_state a) (once_state a)) (present_now (erase_state a) (once_state a)) in (
      record {
        follow = followed a d is_erase is_once is_pen represents.honest;
        site = site_of a;
        reads = record {
          count = ap once.block_count (sym is_once);
          noted = represents.noted;
          represents = subst (λ x. LeftRepresents (site_of a) h (present (erase.model x) (once.model d.pen))) (sym is_erase) (subst (λ x. LeftRepresents (site_of a) h (present (erase_state a) (once.model x))) (sym is_pen) now);
        };
      },
      refl,
    )

-- what an archive leaves once both disks are taken out of it, if it is known whether it was usable
pub leave_given : {E O Pen Seen : Type 0} {erase : EraseGhosts E} {once : OnceGhosts O Pen Seen} (a : Archive E O Pen Seen erase once) (d : Disks E O Pen Seen) (is_read : Bool) (h : History) → d.erase ≡ erase_of a → d.once.value ≡ once_of a → d.pen ≡ pen_in a → is_read ≡ not (is_down a) → GoesOn a h
    → Leave erase once d is_read h
leave_given a d is_read h is_erase is_once is_pen usable goes = record {
  keep = keep_given a d h is_erase is_once is_pen goes;
  read = λ read. (represent_given a d h is_erase is_once is_pen (represents_up a h (not-true (is_down a) (sym usable ∙ read)) goes)).0;
}

-- disks that keep a history read as one that it begins
pub kept_read : {E O Pen Seen : Type 0} (erase : EraseGhosts E) (once : OnceGhosts O Pen Seen) (d : Disks E O Pen Seen) (h : History) → Keep erase once d h → (g : History) × Begins h g × Represent erase once d g
kept_read erase once d h k =
    let found : LeftFrom k.site h (present (erase.model d.erase) (once.model d.pen)) = k.rests (present (erase.model d.erase) (once.model d.pen)) (present_now (erase.model d.erase) (once.model d.pen)) in
    (found.0, found.1, record { follow = k.follow; site = k.site; reads = record { count = k.count; noted = k.noted; represents = found.2 } })

-- what keeps a history keeps each one that begins it
pub keep_back : {E O Pen Seen : Type 0} (erase : EraseGhosts E) (once : OnceGhosts O Pen Seen) (d : Disks E O Pen Seen) (h g : History) → Begins h g → Keep erase once d g → Keep erase once d h
keep_back erase once d h g begins k = record {
  follow = k.follow;
  site = k.site;
  noted = k.noted;
  count = k.count;
  rests = λ left now. let found : LeftFrom k.site g left = k.rests left now in (found.0, Begins-trans h g found.0 begins found.1, found.2);
}

-- a command after which disks keep what they read as keeps what they kept
pub kept_on : {E O Pen Seen : Type 0} (erase : EraseGhosts E) (once : OnceGhosts O Pen Seen) (d f : Disks E O Pen Seen) → ((g : History) → Represent erase once d g → Keep erase once f g) → (h : History) → Keep erase once d h → Keep erase once f h
kept_on erase once d f goes h k = let read : (g : History) × Begins h g × Represent erase once d g = kept_read erase once d h k in keep_back erase once f h read.0 read.1 (goes read.0 read.2)

-- An opening that is refused leaves what was kept: whatever a crash leaves after it could be left before, or is what the disks read as.
pub kept_refused : {E O Pen Seen : Type 0} (erase : EraseGhosts E) (once : OnceGhosts O Pen Seen) (d f : Disks E O Pen Seen) (h : History) → (erase.honest d.erase → erase.honest f.erase) → f.once.value ≡ d.once.value → (once.honest d.once.value d.pen → once.honest d.once.value f.pen)
    → ((site : Site) (g : History) → ReadsAs site (once.block_count d.once.value) (erase.model d.erase) (once.model d.pen) g → (left : Left) → LeftNow (erase.model f.erase) (once.model f.pen) left → LeftNow (erase.model d.erase) (once.model d.pen) left ⊎ LeftRepresents site g left)
    → Keep erase once d h → Keep erase once f h
kept_refused erase once d f h of_erase disk of_once after k =
    let found : LeftFrom k.site h (present (erase.model d.erase) (once.model d.pen)) = k.rests (present (erase.model d.erase) (once.model d.pen)) (present_now (erase.model d.erase) (once.model d.pen)) in
    record {
      follow = (of_erase k.follow.0, subst (λ x. once.honest x f.pen) (sym disk) (of_once k.follow.1));
      site = k.site;
      noted = k.noted;
      count = subst (λ x. k.site.blocks ≡ once.block_count x) (sym disk) k.count;
      rests = λ left now. ⊎_elim
          (λ was. k.rests left was)
          (λ is. (found.0, found.1, is))
          (after k.site found.0 (record { count = k.count; noted = k.noted; represents = found.2 }) left now);
    }

-- an archive that was made so is of this site
pub site_made : (s t : Site) → s.settings ≡ t.settings → s.homes ≡ t.homes → s.note ≡ t.note → s.blocks ≡ t.blocks → s ≡ t
site_made s t settings homes note blocks = λ i. record { settings = settings i; homes = homes i; note = note i; blocks = blocks i }
