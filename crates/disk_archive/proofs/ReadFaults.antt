-- Whether a call that only reads reports a failure.
use Rattle.std.proofs.Common.{◌≡◌, ◌+◌, ◌⊎◌, inl, inr, ℕ, min, refl, sym, ◌∙◌, ap, subst, arith, Result, Ok, Err}
use Rattle.disk_models.specs.declared.erase.EraseDisk.{Ghosts as EraseGhosts}
use Rattle.disk_models.specs.declared.once.OnceDisk.{Ghosts as OnceGhosts}
use Rattle.page_tx.specs.Device.{KeepsDevice}
use Rattle.tsb_walk.specs.declared.error.NodeError.{NodeError}
use Rattle.tsb_walk.specs.declared.error.NodeError.TheVariants as nodes
use Rattle.disk_archive.specs.declared.archive.Archive.{Archive}
use Rattle.disk_archive.specs.declared.ask_error.AskError.TheVariants as asks
use Rattle.disk_archive.specs.declared.check_error.CheckError.TheVariants as checks
use Rattle.disk_archive.specs.Archives.{IsHonest, erase_of, once_of, pen_in}
use Rattle.disk_archive.specs.Failures.{ReportsFailure, ReportsOne}
use Rattle.disk_archive.specs.inner.Asking.{ask_of_node}
use Rattle.disk_archive.specs.inner.Checking.{check_of_node}
use Rattle.disk_archive.proofs.Failing.{reports_both}
use Rattle.disk_archive.proofs.Faults.{done_not_reported, one_reported}

-- ---- pages and blocks

-- pages are read without a failure, and then more
pub read_then : (p p' p'' l l' : ℕ) (reported : Type 0) → p' ≡ p → ReportsOne p' p'' l l' reported → ReportsOne p p'' l l' reported
read_then p p' p'' l l' reported same t = subst (λ (n : ℕ). ReportsOne n p'' l l' reported) same t

-- a failed read of a page or of a block is reported, each in its own way
read_both : {X : Type 0} (r : Result X NodeError) (reported x y : Type 0) (p p' l l' : ℕ) → (reported → (r ≡ Err nodes.Fault) ⊎ (r ≡ Err nodes.OnceFault)) → (r ≡ Err nodes.Fault → reported) → (r ≡ Err nodes.OnceFault → reported)
    → KeepsDevice x y p p' (r ≡ Err nodes.Fault) → ((r ≡ Err nodes.OnceFault → ⊥) → l' ≡ l) → (r ≡ Err nodes.OnceFault → l' ≡ min (l + 1) 18446744073709551615) → ReportsOne p p' l l' reported
read_both r reported x y p p' l l' which of_page of_once k quiet counted = reports_both r nodes.Fault nodes.OnceFault reported x y p p' l l' (λ is. cc) which of_page of_once k quiet counted

-- all is read
pub read_done : {X : Type 0} (r : Result X NodeError) (v : X) (reported x y : Type 0) (p p' l l' : ℕ) → r ≡ Ok v → (reported → ⊥)
    → KeepsDevice x y p p' (r ≡ Err nodes.Fault) → ((r ≡ Err nodes.OnceFault → ⊥) → l' ≡ l) → (r ≡ Err nodes.OnceFault → l' ≡ min (l + 1) 18446744073709551615) → ReportsOne p p' l l' reported
read_done r v reported x y p p' l l' is never k quiet counted =
    read_both r reported x y p p' l l' (λ t. absurd (never t)) (λ f. absurd (done_not_reported r v nodes.Fault is f)) (λ o. absurd (done_not_reported r v nodes.OnceFault is o)) k quiet counted

-- a refusal of a look is passed on, and both failures are reported as one
pub read_refused : {X Y F : Type 0} (r : Result X NodeError) (s : Result Y F) (f : NodeError → F) (fault : F) (e : NodeError) (x y : Type 0) (p p' l l' : ℕ)
    → ((d : NodeError) → f d ≡ fault → (d ≡ nodes.Fault) ⊎ (d ≡ nodes.OnceFault)) → f nodes.Fault ≡ fault → f nodes.OnceFault ≡ fault → r ≡ Err e → s ≡ Err (f e)
    → KeepsDevice x y p p' (r ≡ Err nodes.Fault) → ((r ≡ Err nodes.OnceFault → ⊥) → l' ≡ l) → (r ≡ Err nodes.OnceFault → l' ≡ min (l + 1) 18446744073709551615) → ReportsOne p p' l l' (s ≡ Err fault)
read_refused {F = F} r s f fault e x y p p' l l' which page once was is k quiet counted =
    read_both r (s ≡ Err fault) x y p p' l l'
    (λ t. elim (which e (one_reported s (f e) fault is t)) [
      | inl a ↦ inl (was ∙ ap (λ (d : NodeError). Err d) a)
      | inr b ↦ inr (was ∙ ap (λ (d : NodeError). Err d) b)
    ])
    (λ t. is ∙ ap (λ (z : F). Err z) (ap f (one_reported r e nodes.Fault was t) ∙ page))
    (λ t. is ∙ ap (λ (z : F). Err z) (ap f (one_reported r e nodes.OnceFault was t) ∙ once))
    k quiet counted

pub ask_either : (e : NodeError) → ask_of_node e ≡ asks.Fault → (e ≡ nodes.Fault) ⊎ (e ≡ nodes.OnceFault)
ask_either (nodes.BadNode page) is = absurd cc
ask_either (nodes.Damaged block) is = absurd cc
ask_either nodes.Fault is = inl refl
ask_either nodes.OnceFault is = inr refl
ask_either nodes.NeedsRecovery is = absurd cc
ask_either nodes.OutOfMemory is = absurd cc

pub check_either : (e : NodeError) → check_of_node e ≡ checks.Fault → (e ≡ nodes.Fault) ⊎ (e ≡ nodes.OnceFault)
check_either (nodes.BadNode page) is = absurd cc
check_either (nodes.Damaged block) is = absurd cc
check_either nodes.Fault is = inl refl
check_either nodes.OnceFault is = inr refl
check_either nodes.NeedsRecovery is = absurd cc
check_either nodes.OutOfMemory is = absurd cc

-- ---- refusals that are no failure of a device

pub memory_no_fault : asks.OutOfMemory ≡ asks.Fault → ⊥
memory_no_fault is = cc

pub check_need_no_fault : checks.NeedsRecovery ≡ checks.Fault → ⊥
check_need_no_fault is = cc

pub check_memory_no_fault : checks.OutOfMemory ≡ checks.Fault → ⊥
check_memory_no_fault is = cc

-- ---- calls of an archive

-- neither disk failed, and no failure is reported
pub fails_none : {E O Pen Seen : Type 0} {erase : EraseGhosts E} {once : OnceGhosts O Pen Seen} (a z : Archive E O Pen Seen erase once) (disk : O) (reported : Type 0)
    → erase.fault_count (erase_of z) ≡ erase.fault_count (erase_of a) → once.pen_fault_count (pen_in z) ≡ once.pen_fault_count (pen_in a) → (reported → ⊥) → ReportsFailure a z disk reported
fails_none a z disk reported erase_is pen_is never = record { quiet = λ _. (erase_is, pen_is); counted = λ t. absurd (never t) }

-- the look at what is settled failed
pub fails_pen : {E O Pen Seen : Type 0} {erase : EraseGhosts E} {once : OnceGhosts O Pen Seen} (a z : Archive E O Pen Seen erase once) (disk : O) (reported : Type 0)
    → erase.fault_count (erase_of z) ≡ erase.fault_count (erase_of a) → once.pen_fault_count (pen_in z) ≡ min (once.pen_fault_count (pen_in a) + 1) 18446744073709551615 → reported → ReportsFailure a z disk reported
fails_pen a z disk reported erase_is pen_is t = record { quiet = λ never. absurd (never t); counted = λ _. inl (inr (erase_is, pen_is)) }

just_one : (before after : ℕ) → before ≡ 0 → after ≡ min (before + 1) 18446744073709551615 → after ≡ 1
just_one before after none more = omega (arith, none, more)

-- a look at a disk stays one, by whichever name the disk goes
pub look_stays : {O Pen Seen : Type 0} (device : OnceGhosts O Pen Seen) (reader disk : O) (seen seen' : Seen) → reader ≡ disk → device.honest_seen disk seen → (device.honest_seen reader seen → device.honest_seen reader seen') → device.honest_seen disk seen'
look_stays {O} device reader disk seen seen' same was stays = subst (λ (d : O). device.honest_seen d seen') same (stays (subst (λ (d : O). device.honest_seen d seen) (sym same) was))

-- pages are read, and blocks by a new look
pub fails_read : {E O Pen Seen : Type 0} {erase : EraseGhosts E} {once : OnceGhosts O Pen Seen} (a z : Archive E O Pen Seen erase once) (disk : O) (seen seen' : Seen) (failed reported : Type 0) → (reported → failed) → (failed → reported)
    → once.pen_fault_count (pen_in z) ≡ once.pen_fault_count (pen_in a) → once.seen_fault_count seen ≡ 0 → (IsHonest a → disk ≡ once_of a → once.honest_seen disk seen')
    → ReportsOne (erase.fault_count (erase_of a)) (erase.fault_count (erase_of z)) (once.seen_fault_count seen) (once.seen_fault_count seen') failed → ReportsFailure a z disk reported
fails_read {once = once} a z disk seen seen' failed reported fore back pen_is fresh looks t = record {
  quiet = λ never. ((t.quiet (λ f. never (back f))).0, pen_is);
  counted = λ is. elim (t.counted (fore is)) [
    | inl page ↦ inl (inl (page.0, pen_is))
    | inr block ↦ inr (block.0, pen_is, (seen', just_one (once.seen_fault_count seen) (once.seen_fault_count seen') fresh block.1, looks))
  ];
}
