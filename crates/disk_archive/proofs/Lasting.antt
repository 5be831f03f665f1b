-- What is held after a call, and what lasts.
use Rattle.std.proofs.Common.{◌≡◌, ◌⊎◌, inl, inr, ⊎_elim, true, false, sym, ◌∙◌, ap, subst, true≢false, ◌≤◌, arith}
use Rattle.disk_models.specs.declared.erase.EraseDisk.{Ghosts as EraseGhosts}
use Rattle.disk_models.specs.declared.once.OnceDisk.{Ghosts as OnceGhosts}
use Rattle.disk_models.specs.Erase.{DiskState}
use Rattle.disk_models.specs.Once.{OnceState}
use Rattle.disk_models.specs.Left.{TriedWithin}
use Rattle.page_journal.specs.Journal.{disk_of as erase_disk, needs_recovery}
use Rattle.route_meaning.specs.History.{History, Begins}
use Rattle.route_meaning.proofs.api.Beginning.{Begins-refl, Begins-trans}
use Rattle.disk_archive.specs.declared.archive.Archive.{Archive}
use Rattle.disk_archive.specs.Sites.{LeftEither}
use Rattle.disk_archive.specs.Archives.{Represents, GoesOn, RepresentsIfHonest, ContinuesFrom, IsHonest, erase_of, erase_state, once_state, site_of, is_down}
use Rattle.disk_archive.specs.Crashes.{Crashes, Lasts}
use Rattle.disk_archive.specs.inner.Idle.{IsAsBefore}
use Rattle.disk_archive.proofs.Calling.{AllSound}
use Rattle.disk_archive.proofs.Reporting.{waits_same}

usable_of : {E O Pen Seen : Type 0} {erase : EraseGhosts E} {once : OnceGhosts O Pen Seen} (a : Archive E O Pen Seen erase once) (h : History) → Represents a h → is_down a ≡ false
usable_of a h k = k.maps.keeps.usable

-- after an Ok, which only a usable archive returns
pub held_ok : {E O Pen Seen : Type 0} {erase : EraseGhosts E} {once : OnceGhosts O Pen Seen} (a z : Archive E O Pen Seen erase once) (h g : History) → (IsHonest z → IsHonest a) → is_down a ≡ false → (Represents a h → Represents z g) → RepresentsIfHonest a h → RepresentsIfHonest z g
held_ok a z h g back usable step held honest = ⊎_elim (λ k. inl (step k)) (λ w. absurd (true≢false (sym w.unusable ∙ usable))) (held (back honest))

-- after a refusal
pub held_err : {E O Pen Seen : Type 0} {erase : EraseGhosts E} {once : OnceGhosts O Pen Seen} (a z : Archive E O Pen Seen erase once) (h : History) → (IsHonest z → IsHonest a) → (is_down a ≡ true → IsAsBefore a z) → (Represents a h → GoesOn z h) → RepresentsIfHonest a h → RepresentsIfHonest z h
held_err a z h back idle step held honest = ⊎_elim (λ k. step k)
    (λ w. let s = idle w.unusable in inr (waits_same a z h w s.journal s.disk s.state s.settings s.head s.lanes honest))
    (held (back honest))

-- A call that goes on with the history, or with one that it begins, and does nothing while the archive must be opened again.
pub lasts_by : {E O Pen Seen : Type 0} {erase : EraseGhosts E} {once : OnceGhosts O Pen Seen} (a z : Archive E O Pen Seen erase once) → AllSound erase → (IsHonest a → IsHonest z) → (is_down a ≡ true → IsAsBefore a z)
    → ((g : History) → Represents a g → (k : History) × Begins g k × GoesOn z k) → ((g : History) → Represents a g → (k : History) × Begins g k × Crashes a z (LeftEither (site_of a) g k)) → (h : History) → ContinuesFrom a h → Lasts a z h
lasts_by {erase = erase} a z sound honest idle after crash h continues =
    let g = continues.0 in
    ⊎_elim
    (λ k.
    let then' = after g k in
    let each = crash g k in
    record {
      continues = (then'.0, Begins-trans h g then'.0 continues.1 then'.1, then'.2);
      inside = record {
        later = each.2.later;
        each = λ left pair. ⊎_elim (λ was. (g, continues.1, was)) (λ is. (each.0, Begins-trans h g each.0 continues.1 each.1, is)) (each.2.each left pair);
      };
    })
    (λ w.
    let s = idle w.unusable in
    let e : erase_state z ≡ erase_state a = ap (λ j. erase.model (erase_disk j)) s.journal in
    record {
      continues = (g, continues.1, inr (waits_same a z g w s.journal s.disk s.state s.settings s.head s.lanes (honest w.honest)));
      inside = record {
        later = subst (λ (x : DiskState). (erase_state a).clock ≤ x.clock) (sym e) (omega arith);
        each = λ left pair.
            let o = once_state a in
            let f = w.rests left (record {
              erase = (sound _ w.honest.0).only_now left.erase (subst (λ (x : DiskState). x.left_since (erase_state a).clock left.erase) e pair.erase);
              tried = pair.tried;
              within = subst (λ (x : OnceState). TriedWithin x left) s.state pair.within;
              settled = pair.settled;
            }) in
            (f.0, Begins-trans h g f.0 continues.1 f.1, f.2);
      };
    })
    continues.2

-- A call that carries the history on or leaves it, and does nothing while the archive must be opened again.
pub lasts_of : {E O Pen Seen : Type 0} {erase : EraseGhosts E} {once : OnceGhosts O Pen Seen} (a z : Archive E O Pen Seen erase once) (to : History → History) → ((g : History) → Begins g (to g)) → AllSound erase → (IsHonest a → IsHonest z) → (is_down a ≡ true → IsAsBefore a z)
    → ((g : History) → Represents a g → Represents z (to g) ⊎ GoesOn z g) → ((g : History) → Represents a g → Crashes a z (LeftEither (site_of a) g (to g))) → (h : History) → ContinuesFrom a h → Lasts a z h
lasts_of a z to beg sound honest idle after crash h continues = lasts_by a z sound honest idle
    (λ g k. ⊎_elim (λ moved. (to g, beg g, inl moved)) (λ same. (g, Begins-refl g, same)) (after g k))
    (λ g k. (to g, beg g, crash g k)) h continues

-- a call that did nothing leaves an archive as it must be opened again
pub down_still : {E O Pen Seen : Type 0} {erase : EraseGhosts E} {once : OnceGhosts O Pen Seen} (a z : Archive E O Pen Seen erase once) → is_down a ≡ true → IsAsBefore a z → (erase_of z ≡ erase_of a) × (once_state z ≡ once_state a) × (is_down z ≡ true)
down_still a z down s = (ap (λ j. erase_disk j) s.journal, s.state, ap needs_recovery s.journal ∙ down)

-- the erasable disk wasn't written, where the archive represented the history or needed to be opened again
pub held_clock : {E O Pen Seen : Type 0} {erase : EraseGhosts E} {once : OnceGhosts O Pen Seen} (a z : Archive E O Pen Seen erase once) (h : History) → (is_down a ≡ true → IsAsBefore a z)
    → (Represents a h → (erase_state z).clock ≡ (erase_state a).clock) → GoesOn a h → (erase_state z).clock ≡ (erase_state a).clock
held_clock {erase = erase} a z h same represented held = ⊎_elim (λ k. represented k) (λ w. ap (λ j. (erase.model (erase_disk j)).clock) (same w.unusable).journal) held
