-- What an opening leaves of a disk of which something was unsynced before.
use Rattle.std.proofs.Common.{◌≡◌, ◌≤◌, ◌⊎◌, inl, inr, ⊎_elim, ℕ, List, sym, ◌∙◌, subst, arith, Result, Ok, Err, IfOk, IfErr}
use Rattle.disk_models.specs.declared.erase.EraseDisk.{Ghosts}
use Rattle.disk_models.specs.Erase.{DiskState, IsSound, Leaves, MayLeave, Stays}
use Rattle.page_journal.specs.Journal.{disk_of, home_pages, note_of}
use Rattle.page_journal.specs.Recovers.{Recovers}
use Rattle.page_journal.proofs.api.Kept.{kept_recovers}
use Rattle.buffer_pool.specs.Pool.{Maps, journal_of}
use Rattle.page_tx.specs.Start.{Start}
use Rattle.disk_archive.specs.declared.looks.Looks.{Looks}
use Rattle.disk_archive.specs.inner.Looking.{LooksAt}
use Rattle.disk_archive.specs.inner.Guarding.{GuardedAt, CrashRepresentsOr}
use Rattle.disk_archive.specs.inner.Restoring.{Restores}
use Rattle.disk_archive.proofs.Looking.{looks_still}

-- what a crash inside an opening leaves
pub means_opened : (e0 e1 : DiskState) (homes : ℕ) (note : List ℕ) (pages : List (List ℕ)) → IsSound e0 → Leaves e0 e1 (λ c. Recovers homes note c pages) → CrashRepresentsOr e1 e0.clock (MayLeave e0) homes note pages
means_opened e0 e1 homes note pages sound l = record {
  later = l.later;
  each = λ c left. ⊎_elim (λ was. inl (sound.only_now c was)) (λ means. inr means) (l.before e0.clock c (omega arith) left);
}

pub means_weaker : (e : DiskState) (clock at : ℕ) (P Q : (ℕ → ℕ) → Type 0) (homes : ℕ) (note : List ℕ) (pages : List (List ℕ)) → at ≡ clock → ((c : ℕ → ℕ) → P c → Q c) → CrashRepresentsOr e clock P homes note pages → CrashRepresentsOr e at Q homes note pages
means_weaker e clock at P Q homes note pages same weaker m = record {
  later = subst (λ n. n ≤ e.clock) (sym same) m.later;
  each = λ c left. ⊎_elim (λ was. inl (weaker c was)) (λ means. inr means) (m.each c (subst (λ n. e.left_since n c) same left));
}

-- after a read
pub guarded_still : {E : Type 0} (device : Ghosts E) (clock : ℕ) (left : (ℕ → ℕ) → Type 0) (old new : Looks E device) (start : Start) (shown : List (List ℕ)) → GuardedAt device clock left old start shown → device.honest (disk_of (journal_of new.pool)) → Maps device new.pool start.pages
    → note_of (journal_of new.pool) ≡ note_of (journal_of old.pool) → home_pages (journal_of new.pool) ≡ home_pages (journal_of old.pool)
    → Stays (device.model (disk_of (journal_of old.pool))) (device.model (disk_of (journal_of new.pool))) → GuardedAt device clock left new start shown
guarded_still device clock left old new start shown s honest maps note homes stays = record {
  looked = looks_still device old new start shown s.looked honest maps note;
  means = record {
    later = (let later = s.means.later in let same = stays.clock in omega (arith, later, same));
    each = λ c was. subst (λ n. left c ⊎ Recovers n start.note c start.pages) (sym homes)
        (⊎_elim (λ before. s.means.each c before)
        (λ may. inr (subst (λ m. Recovers (home_pages (journal_of old.pool)) m c start.pages) s.looked.noted (kept_recovers device (journal_of old.pool) start.pages s.looked.maps.keeps c may)))
        (stays.crash.before clock c s.means.later was));
  };
}

-- what was restored is looked at so
pub guarded_on : {E : Type 0} (device : Ghosts E) (clock at : ℕ) (P Q : (ℕ → ℕ) → Type 0) (looks : Looks E device) (homes : ℕ) (note : List ℕ) (pages : List (List ℕ)) → at ≡ clock → ((c : ℕ → ℕ) → P c → Q c) → Restores device looks homes note pages
    → CrashRepresentsOr (device.model (disk_of (journal_of looks.pool))) clock P homes note pages → GuardedAt device at Q looks (record { note = note; pages = pages; clock = (device.model (disk_of (journal_of looks.pool))).clock }) pages
guarded_on device clock at P Q looks homes note pages same weaker r m = record {
  looked = r.looked;
  means = subst (λ n. CrashRepresentsOr (device.model (disk_of (journal_of looks.pool))) at Q n note pages) (sym r.homes)
      (means_weaker (device.model (disk_of (journal_of looks.pool))) clock at P Q homes note pages same weaker m);
}

-- what is true of a result that came
pub ok_at : {A X : Type 0} (P : A → Type 0) (r : Result A X) (a : A) → r ≡ Ok a → IfOk r P → P a
ok_at P r a is p = subst (λ x. IfOk x P) is p

pub err_at : {A X : Type 0} (P : X → Type 0) (r : Result A X) (x : X) → r ≡ Err x → IfErr r P → P x
err_at P r x is p = subst (λ y. IfErr y P) is p
