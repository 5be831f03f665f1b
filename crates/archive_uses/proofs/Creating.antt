-- What a crash leaves while an archive is created.
use Rattle.std.proofs.Common.{◌⊎◌, inl, inr, ⊎_elim, refl, Result, Ok, Err, IfOk}
use Rattle.disk_models.specs.declared.erase.EraseDisk.{Ghosts as EraseGhosts}
use Rattle.disk_models.specs.declared.once.OnceDisk.{Ghosts as OnceGhosts}
use Rattle.disk_models.specs.Left.{Left, LeftNow}
use Rattle.archive_pages.specs.declared.settings.Settings.{Settings}
use Rattle.archive_pages.specs.Places.{AreSettings}
use Rattle.disk_archive.specs.Creations.{LeavesNoneOrEmpty, site_on}
use Rattle.archive_uses.specs.Lives.{LeftByCreation}

pub left_by : {E O Pen Seen : Type 0} (erase : EraseGhosts E) (once : OnceGhosts O Pen Seen) (s : Settings) (e : E) (o : O) (pen : Pen) (left : Left) → AreSettings s
    → LeftNow (erase.model e) (once.model pen) left ⊎ LeavesNoneOrEmpty (site_on s (erase.octet_count e) (once.block_count o)) left → LeftByCreation erase once s e o pen left
left_by erase once s e o pen left are is = ⊎_elim
    (λ now. inl (now, refl))
    (λ other. inr (⊎_elim inl (λ represents. inr (site_on s (erase.octet_count e) (once.block_count o), record { settings = are; note = refl }, refl, refl, represents)) other))
    is

-- two things are true of what was created
pub both_ok : {A X : Type 0} (P Q : A → Type 0) (r : Result A X) → IfOk r P → IfOk r Q → IfOk r (λ a. P a × Q a)
both_ok P Q (Ok a) p q = (p, q)
both_ok P Q (Err x) p q = tt
