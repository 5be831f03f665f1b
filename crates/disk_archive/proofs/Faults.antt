-- How often the erasable disk failed in a call.
use Rattle.std.proofs.Common.{◌≡◌, ◌⊎◌, inl, inr, ◌+◌, ℕ, min, refl, sym, ◌∙◌, ap, subst, Result, Ok, Err, Bool}
use Rattle.std.specs.Prelude.{IsErrAnd}
use Rattle.disk_models.specs.declared.erase.EraseDisk.{Ghosts}
use Rattle.disk_models.specs.Serves.{Serves}
use Rattle.page_journal.specs.declared.journal.Journal.{Journal}
use Rattle.page_journal.specs.Journal.{disk_of}
use Rattle.page_journal.specs.declared.error.UseError.{UseError}
use Rattle.page_journal.specs.declared.error.UseError.TheVariants as uses
use Rattle.page_tx.specs.Device.{KeepsDevice}
use Rattle.disk_archive.specs.declared.error.AdmitError.{AdmitError}
use Rattle.disk_archive.specs.declared.error.AdmitError.TheVariants as admits
use Rattle.disk_archive.specs.declared.mark_error.MarkError.{MarkError}
use Rattle.disk_archive.specs.declared.mark_error.MarkError.TheVariants as marks
use Rattle.disk_archive.specs.declared.flush_error.FlushError.TheVariants as flushes
use Rattle.disk_archive.specs.declared.ask_error.AskError.{AskError}
use Rattle.disk_archive.specs.declared.ask_error.AskError.TheVariants as asks
use Rattle.disk_archive.specs.inner.Asking.{ask_of_node}
use Rattle.tsb_walk.specs.declared.error.NodeError.{NodeError}
use Rattle.tsb_walk.specs.declared.error.NodeError.TheVariants as nodes
use Rattle.tsb_walk.specs.Refusals.{LookRefusal as PageRefusal}
use Rattle.disk_archive.specs.inner.Flushed.{flush_of_use}
use Rattle.disk_archive.specs.inner.Committing.{admit_of_use}
use Rattle.disk_archive.specs.inner.Marked.{mark_of_use}

-- the journal is as it was
pub keeps_same : {D : Type 0} (device : Ghosts D) (old new : Journal D device) → new ≡ old
    → KeepsDevice (device.honest (disk_of old)) (device.honest (disk_of new)) (device.fault_count (disk_of old)) (device.fault_count (disk_of new)) ⊥
keeps_same device old new same = record {
  honest = (λ h. subst (λ j. device.honest (disk_of j)) (sym same) h, λ h. subst (λ j. device.honest (disk_of j)) same h);
  quiet = λ _. ap (λ j. device.fault_count (disk_of j)) same;
  counted = λ f. absurd f;
}

-- what the journal's calls keep of their device
pub keeps_served : {D : Type 0} (device : Ghosts D) (old new : D) (failed : Type 0) → Serves device old new failed → KeepsDevice (device.honest old) (device.honest new) (device.fault_count old) (device.fault_count new) failed
keeps_served device old new failed s = record { honest = s.honest; quiet = s.quiet; counted = s.counted }

-- nothing was asked of the device
pub keeps_none : (p : Type 0) (a : ℕ) (reported : Type 0) → (reported → ⊥) → KeepsDevice p p a a reported
keeps_none p a reported never = record { honest = (λ h. h, λ h. h); quiet = λ _. refl; counted = λ t. absurd (never t) }

-- a call that reported no failure, and then another one
pub keeps_then : (p q r : Type 0) (a b c : ℕ) (failed : Type 0) → KeepsDevice p q a b ⊥ → KeepsDevice q r b c failed → KeepsDevice p r a c failed
keeps_then p q r a b c failed one two =
    let same = one.quiet (λ f. f) in
    record {
      honest = (λ h. two.honest.0 (one.honest.0 h), λ h. one.honest.1 (two.honest.1 h));
      quiet = λ never. two.quiet never ∙ same;
      counted = λ f. two.counted f ∙ ap (λ (n : ℕ). min (n + 1) 18446744073709551615) same;
    }

-- a failure that is reported by another refusal
pub keeps_reported : (p q : Type 0) (a b : ℕ) (failed reported : Type 0) → (reported → failed) → (failed → reported) → KeepsDevice p q a b failed → KeepsDevice p q a b reported
keeps_reported p q a b failed reported fore back k = record { honest = k.honest; quiet = λ never. k.quiet (λ f. never (back f)); counted = λ t. k.counted (fore t) }

-- ---- what is returned

pub reported_of : {X E : Type 0} (r : Result X E) (e : E) → IsErrAnd r (λ y. y ≡ e) → r ≡ Err e
reported_of (Ok x) e is = absurd is
reported_of (Err y) e is = ap (λ z. Err z) is

pub reported_as : {X E : Type 0} (r : Result X E) (e f : E) → IsErrAnd r (λ y. y ≡ e) → r ≡ Err f → e ≡ f
reported_as (Ok x) e f is reported = absurd is
reported_as (Err y) e f is reported = let same : y ≡ f = cc in sym is ∙ same

-- a batch that can't be taken isn't reported as a failure
pub not_taken : (e : AdmitError) → (e ≡ admits.NoCollector) ⊎ (e ≡ admits.BatchTooLarge) ⊎ (e ≡ admits.CounterFull) ⊎ (e ≡ admits.IntakeFull) → e ≡ admits.Fault → ⊥
not_taken e (inl none) is = cc
not_taken e (inr (inl large)) is = cc
not_taken e (inr (inr (inl full))) is = cc
not_taken e (inr (inr (inr crowded))) is = cc

pub admit_fault : (e : UseError) → admit_of_use e ≡ admits.Fault → e ≡ uses.Fault
admit_fault uses.Fault is = cc
admit_fault uses.NeedsRecovery is = absurd cc

-- nor is a mark that can't be raised
pub not_raised : (e : MarkError) → (e ≡ marks.NoCollector) ⊎ (e ≡ marks.MarkBack) → e ≡ marks.Fault → ⊥
not_raised e (inl none) is = cc
not_raised e (inr back) is = cc

pub mark_fault : (e : UseError) → mark_of_use e ≡ marks.Fault → e ≡ uses.Fault
mark_fault uses.Fault is = cc
mark_fault uses.NeedsRecovery is = absurd cc

pub flush_fault : (e : UseError) → flush_of_use e ≡ flushes.Fault → e ≡ uses.Fault
flush_fault uses.Fault is = cc
flush_fault uses.NeedsRecovery is = absurd cc

-- a failure that a look through pages reports is reported for the question, and no other
pub asked_fault : (down : Bool) (e : NodeError) → PageRefusal down e → ask_of_node e ≡ asks.Fault → e ≡ nodes.Fault
asked_fault down (nodes.BadNode page) refused is = absurd cc
asked_fault down (nodes.Damaged block) refused is = absurd refused
asked_fault down nodes.Fault refused is = refl
asked_fault down nodes.OnceFault refused is = absurd refused
asked_fault down nodes.NeedsRecovery refused is = absurd cc
asked_fault down nodes.OutOfMemory refused is = absurd cc

-- what is done isn't reported as a failure
pub done_not_reported : {X E : Type 0} (r : Result X E) (x : X) (e : E) → r ≡ Ok x → r ≡ Err e → ⊥
done_not_reported (Ok y) x e is reported = absurd (cc)
done_not_reported (Err y) x e is reported = absurd (cc)

-- only one refusal is returned
pub one_reported : {X E : Type 0} (r : Result X E) (d e : E) → r ≡ Err d → r ≡ Err e → d ≡ e
one_reported (Ok y) d e is reported = absurd (cc)
one_reported (Err y) d e is reported = (let a : y ≡ d = cc in let b : y ≡ e = cc in sym a ∙ b)

-- these refusals are no failure of a device
pub need_no_fault : asks.NeedsRecovery ≡ asks.Fault → ⊥
need_no_fault is = cc

pub above_no_fault : (e : AskError) (mark : ℕ) → e ≡ asks.AboveWatermark mark → e ≡ asks.Fault → ⊥
above_no_fault e mark above is = cc

-- a commit needs no memory

pub admit_memory : (e : UseError) → admit_of_use e ≡ admits.OutOfMemory → ⊥
admit_memory uses.Fault is = cc
admit_memory uses.NeedsRecovery is = cc

pub mark_memory : (e : UseError) → mark_of_use e ≡ marks.OutOfMemory → ⊥
mark_memory uses.Fault is = cc
mark_memory uses.NeedsRecovery is = cc
