-- Calls that carry a history on, whatever step they take.
use Rattle.std.proofs.Common.{◌≡◌, inr, ⊎_elim, true, sym, ap, subst, ◌≤◌, arith}
use Rattle.disk_models.specs.declared.erase.EraseDisk.{Ghosts as EraseGhosts}
use Rattle.disk_models.specs.declared.once.OnceDisk.{Ghosts as OnceGhosts}
use Rattle.disk_models.specs.Erase.{DiskState}
use Rattle.disk_models.specs.Once.{OnceState}
use Rattle.disk_models.specs.Left.{Left, TriedWithin}
use Rattle.page_journal.specs.Journal.{disk_of as erase_disk}
use Rattle.route_meaning.specs.History.{History}
use Rattle.route_meaning.proofs.api.Beginning.{Begins-trans}
use Rattle.disk_archive.specs.declared.archive.Archive.{Archive}
use Rattle.disk_archive.specs.Sites.{LeftFrom}
use Rattle.disk_archive.specs.Archives.{Represents, ContinuesFrom, IsHonest, erase_state, once_state, site_of, is_down}
use Rattle.disk_archive.specs.Crashes.{Crashes, Lasts}
use Rattle.disk_archive.specs.inner.Idle.{IsAsBefore}
use Rattle.disk_archive.proofs.Calling.{AllSound}
use Rattle.disk_archive.proofs.Reporting.{waits_same}

-- what follows from whatever a crash left
pub crashes_weaker : {E O Pen Seen : Type 0} {erase : EraseGhosts E} {once : OnceGhosts O Pen Seen} (a z : Archive E O Pen Seen erase once) (P Q : Left → Type 0) → ((left : Left) → P left → Q left) → Crashes a z P → Crashes a z Q
crashes_weaker a z P Q weaker c = record { later = c.later; each = λ left pair. weaker left (c.each left pair) }

-- A call that goes on with a history that the one from before begins, in each crash too, and does nothing while the archive must be opened
-- again.
pub lasts_steps : {E O Pen Seen : Type 0} {erase : EraseGhosts E} {once : OnceGhosts O Pen Seen} (a z : Archive E O Pen Seen erase once) → AllSound erase → (IsHonest a → IsHonest z) → (is_down a ≡ true → IsAsBefore a z)
    → ((g : History) → Represents a g → ContinuesFrom z g) → ((g : History) → Represents a g → Crashes a z (LeftFrom (site_of a) g)) → (h : History) → ContinuesFrom a h → Lasts a z h
lasts_steps {erase = erase} a z sound honest idle after crash h continues =
    let g = continues.0 in
    ⊎_elim
    (λ k.
    let each = crash g k in
    let then = after g k in
    record {
      continues = (then.0, Begins-trans h g then.0 continues.1 then.1, then.2);
      inside = record {
        later = each.later;
        each = λ left pair. let f = each.each left pair in (f.0, Begins-trans h g f.0 continues.1 f.1, f.2);
      };
    })
    (λ w.
    let s = idle w.unusable in
    let e : erase_state z ≡ erase_state a = ap (λ j. erase.model (erase_disk j)) s.journal in
    record {
      continues = (g, continues.1, inr (waits_same a z g w s.journal s.disk s.state s.settings s.head s.lanes (honest w.honest)));
      inside = record {
        later = subst (λ (x : DiskState). (erase_state a).clock ≤ x.clock) (sym e) (omega arith);
        each = λ left pair.
            let o = once_state a in
            let f = w.rests left (record {
              erase = (sound _ w.honest.0).only_now left.erase (subst (λ (x : DiskState). x.left_since (erase_state a).clock left.erase) e pair.erase);
              tried = pair.tried;
              within = subst (λ (x : OnceState). TriedWithin x left) s.state pair.within;
              settled = pair.settled;
            }) in
            (f.0, Begins-trans h g f.0 continues.1 f.1, f.2);
      };
    })
    continues.2
