-- How often both disks failed over calls that report each failure.
use Rattle.std.proofs.Common.{◌≡◌, ◌+◌, ◌⊎◌, inl, inr, ℕ, min, refl, subst, Result, Ok, Err}
use Rattle.std.specs.Prelude.{IsErr}
use Rattle.page_tx.specs.Device.{KeepsDevice}
use Rattle.page_journal.specs.declared.error.UseError.{UseError}
use Rattle.page_journal.specs.declared.error.UseError.TheVariants as uses
use Rattle.once_store.specs.declared.error.AppendError.TheVariants as appends
use Rattle.page_tx.specs.declared.error.PageError.TheVariants as pages
use Rattle.tsb_tree.specs.declared.error.TreeError.TheVariants as trees
use Rattle.disk_archive.specs.declared.apply_error.ApplyError.{ApplyError}
use Rattle.disk_archive.specs.declared.apply_error.ApplyError.TheVariants as applies
use Rattle.disk_archive.specs.declared.stop.Stop.TheVariants as stops
use Rattle.disk_archive.specs.inner.Applications.{apply_of_use, stop_of}
use Rattle.disk_archive.specs.Failures.{ReportsOne}
use Rattle.disk_archive.proofs.Faults.{one_reported}

-- nothing is asked of either disk
pub reports_none : (p l : ℕ) (reported : Type 0) → (reported → ⊥) → ReportsOne p p l l reported
reports_none p l reported never = record { quiet = λ _. (refl, refl); counted = λ t. absurd (never t) }

-- only the first disk is asked
pub reports_first : (x y : Type 0) (p p' l : ℕ) (reported : Type 0) → KeepsDevice x y p p' reported → ReportsOne p p' l l reported
reports_first x y p p' l reported k = record { quiet = λ never. (k.quiet never, refl); counted = λ t. inl (k.counted t, refl) }

-- neither disk failed, and then there is another call
pub reports_then : (p p' p'' l l' l'' : ℕ) (reported : Type 0) → (p' ≡ p) × (l' ≡ l) → ReportsOne p' p'' l' l'' reported → ReportsOne p p'' l l'' reported
reports_then p p' p'' l l' l'' reported same t = subst (λ (n : ℕ). ReportsOne n p'' l l'' reported) same.0 (subst (λ (n : ℕ). ReportsOne p' p'' n l'' reported) same.1 t)

-- a failure that is reported as another refusal
pub reports_as : (p p' l l' : ℕ) (failed reported : Type 0) → (reported → failed) → (failed → reported) → ReportsOne p p' l l' failed → ReportsOne p p' l l' reported
reports_as p p' l l' failed reported fore back t = record { quiet = λ never. t.quiet (λ f. never (back f)); counted = λ is. t.counted (fore is) }

-- both disks are asked, and each one's failure is a refusal of its own
pub reports_both : {X E : Type 0} (r : Result X E) (first second : E) (reported x y : Type 0) (p p' l l' : ℕ) → (first ≡ second → ⊥) → (reported → (r ≡ Err first) ⊎ (r ≡ Err second)) → (r ≡ Err first → reported) → (r ≡ Err second → reported)
    → KeepsDevice x y p p' (r ≡ Err first) → ((r ≡ Err second → ⊥) → l' ≡ l) → (r ≡ Err second → l' ≡ min (l + 1) 18446744073709551615) → ReportsOne p p' l l' reported
reports_both r first second reported x y p p' l l' apart which of_first of_second k quiet counted =
    let not_both : r ≡ Err first → r ≡ Err second → ⊥ = λ f s. apart (one_reported r first second f s) in
    record {
      quiet = λ never. (k.quiet (λ f. never (of_first f)), quiet (λ s. never (of_second s)));
      counted = λ t. elim (which t) [
        | inl f ↦ inl (k.counted f, quiet (λ s. not_both f s))
        | inr s ↦ inr (k.quiet (λ f. not_both f s), counted s)
      ];
    }

-- what is done isn't refused
pub no_err : {X E : Type 0} (r : Result X E) (x : X) → r ≡ Ok x → IsErr r → ⊥
no_err (Ok y) x is err = absurd cc
no_err (Err y) x is err = absurd cc

-- a tree's refusal says whether a page or a block wasn't read or written
pub tree_apart : trees.Pages pages.Fault ≡ trees.Once appends.Fault → ⊥
tree_apart is = cc

-- of the refusals of a change only a failure ends the step
pub stop_failed : (e : ApplyError) → stop_of e ≡ stops.Failed → e ≡ applies.Fault
stop_failed applies.Fault is = refl
stop_failed applies.NeedsRecovery is = absurd cc
stop_failed applies.CounterFull is = absurd cc
stop_failed applies.TooHigh is = absurd cc
stop_failed applies.PagesFull is = absurd cc
stop_failed applies.OnceFull is = absurd cc
stop_failed (applies.BadNode page) is = absurd cc
stop_failed applies.OutOfMemory is = absurd cc

-- of the refusals of a commit only a failure is reported as one
pub apply_fault : (e : UseError) → apply_of_use e ≡ applies.Fault → e ≡ uses.Fault
apply_fault uses.Fault is = refl
apply_fault uses.NeedsRecovery is = absurd cc

-- a commit needs no memory
pub apply_memory : (e : UseError) → apply_of_use e ≡ applies.OutOfMemory → ⊥
apply_memory uses.Fault is = cc
apply_memory uses.NeedsRecovery is = cc
