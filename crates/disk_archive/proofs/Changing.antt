-- Why a change isn't planned.
use Rattle.std.proofs.Common.{◌≡◌, ℕ, List, ap}
use Rattle.version_model.specs.Versions.{Version}
use Rattle.disk_archive.specs.declared.apply_error.ApplyError.{ApplyError}
use Rattle.disk_archive.specs.declared.apply_error.ApplyError.TheVariants as applies
use Rattle.disk_archive.specs.declared.change_error.ChangeError.{ChangeError}
use Rattle.disk_archive.specs.declared.change_error.ChangeError.TheVariants as changes
use Rattle.disk_archive.specs.declared.stop.Stop.TheVariants as stops
use Rattle.disk_archive.specs.Lacks.{LacksLevel, LacksPages, NeedsBlock}
use Rattle.disk_archive.specs.inner.Applications.{LackRefusal, OfApply, stop_of_change}
use Rattle.disk_archive.proofs.Failing.{stop_failed}
use Rattle.disk_archive.proofs.Lacking.{lacks_by}

-- only a failure ends the step
pub change_failed : (e : ChangeError) → stop_of_change e ≡ stops.Failed → e ≡ changes.Apply applies.Fault
change_failed changes.NoRoom is = absurd cc
change_failed (changes.Apply refusal) is = ap (λ (x : ApplyError). changes.Apply x) (stop_failed refusal is)

-- what more is known of a refusal
pub change_as : (was is : ApplyError → Type 0) (e : ChangeError) → ((refusal : ApplyError) → was refusal → is refusal) → OfApply was e → OfApply is e
change_as was is changes.NoRoom more w = tt
change_as was is (changes.Apply refusal) more w = more refusal w

-- only pages, a level and a block are to be looked at
pub change_lacks : (is : Version → Type 0) (shown : List (List ℕ)) (left root : ℕ) (e : ChangeError) → (e ≡ changes.Apply applies.PagesFull → LacksPages is shown left root) → (e ≡ changes.Apply applies.TooHigh → LacksLevel is shown root)
    → (e ≡ changes.Apply applies.OnceFull → NeedsBlock is shown root) → OfApply (LackRefusal is shown left root) e
change_lacks is shown left root changes.NoRoom full high once = tt
change_lacks is shown left root (changes.Apply refusal) full high once =
    lacks_by is shown left root refusal (λ e. full (ap (λ (x : ApplyError). changes.Apply x) e)) (λ e. high (ap (λ (x : ApplyError). changes.Apply x) e)) (λ e. once (ap (λ (x : ApplyError). changes.Apply x) e))
