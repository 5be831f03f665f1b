-- Which trouble a call returns, by the refusal of the archive.
use Rattle.std.proofs.Common.{◌≡◌, ◌∙◌, ◌⊎◌, ◌↔◌, ◌<◌, ◌+◌, ℕ, Bool, true, false, List, length, sum_by, Err, Result, inl, inr, refl, sym, min}
use Rattle.disk_models.specs.declared.erase.EraseDisk.{Ghosts as EraseGhosts}
use Rattle.disk_models.specs.declared.once.OnceDisk.{Ghosts as OnceGhosts}
use Rattle.route_meaning.specs.History.{History, applied}
use Rattle.once_store.specs.declared.error.BlockError.{BlockError}
use Rattle.once_store.specs.declared.error.BlockError.TheVariants as blocks
use Rattle.tsb_tree.specs.Opened.{HasRootLevel}
use Rattle.query_threads.specs.Troubles.{OnAdmitTrouble, OnMarkTrouble, OnAskTrouble}
use Rattle.disk_archive.specs.declared.archive.Archive.{Archive}
use Rattle.disk_archive.specs.declared.error.AdmitError.{AdmitError}
use Rattle.disk_archive.specs.declared.error.AdmitError.TheVariants as admits
use Rattle.disk_archive.specs.declared.mark_error.MarkError.{MarkError}
use Rattle.disk_archive.specs.declared.mark_error.MarkError.TheVariants as marks
use Rattle.disk_archive.specs.declared.apply_error.ApplyError.{ApplyError}
use Rattle.disk_archive.specs.declared.apply_error.ApplyError.TheVariants as applies
use Rattle.disk_archive.specs.declared.flush_error.FlushError.{FlushError}
use Rattle.disk_archive.specs.declared.flush_error.FlushError.TheVariants as flushes
use Rattle.disk_archive.specs.declared.ask_error.AskError.{AskError}
use Rattle.disk_archive.specs.declared.ask_error.AskError.TheVariants as asks
use Rattle.disk_archive.specs.Archives.{GoesOn, RepresentsIfHonest, IsHonest, erase_of, is_down, pen_in}
use Rattle.disk_archive.specs.Blanks.{NoneBlank, unused_pages}
use Rattle.disk_archive.specs.Checks.{HasPages, root_in}
use Rattle.disk_archive.specs.Creations.{CountsOne}
use Rattle.disk_archive.specs.Failures.{ReportsFailure, ReportsOne}
use Rattle.shared_archive.specs.Reported.{Failed, LookFails, Misses, Reports, StaysUp}
use Rattle.shared_archive.specs.inner.StoreCalls.{of_admit, of_apply, of_ask, of_block, of_flush, of_mark}

-- one of both disks counted a failure
pub counts_one : (e e' p p' : ℕ) → CountsOne e e' p p' → Failed e e' ⊎ Failed p p'
counts_one e e' p p' (inl k) = inl k.0
counts_one e e' p p' (inr k) = inr k.1

same_Err : {R X : Type 0} {e k : X} → ◌≡◌ {A = Result R X} (Err e) (Err k) → e ≡ k
same_Err is = cc

-- an archive that needn't be opened again, and that no failure takes down, needn't be afterwards
up : (down down' : Bool) → (down ≡ true → ⊥) → (down ≡ false → down' ≡ true → ⊥) → (down ≡ false) × (down' ≡ false)
up true down' isnt falls = absurd (isnt refl)
up false true isnt falls = absurd (falls refl refl)
up false false isnt falls = (refl, refl)

-- an archive that goes on with a history is on disks that follow their models
pub honest_of : {E O Pen Seen : Type 0} {erase : EraseGhosts E} {once : OnceGhosts O Pen Seen} (a : Archive E O Pen Seen erase once) (h : History) → GoesOn a h → IsHonest a
honest_of a h (inl represents) = represents.honest
honest_of a h (inr waits) = waits.honest

module _ {E O Pen Seen : Type 0} {erase : EraseGhosts E} {once : OnceGhosts O Pen Seen} (a b : Archive E O Pen Seen erase once) where
  -- it needn't be opened again where this refusal is returned, which is neither that one must recover nor a failure
  stays_up : {R X : Type 0} (e need fault : X) → ((◌≡◌ {A = Result R X} (Err e) (Err need)) ↔ (is_down a ≡ true)) → (is_down a ≡ false → is_down b ≡ true → ◌≡◌ {A = Result R X} (Err e) (Err fault)) → (e ≡ need → ⊥) → (e ≡ fault → ⊥) → StaysUp a b
  stays_up e need fault down falls isnt quiet = up (is_down a) (is_down b) (λ is. isnt (same_Err (down.1 is))) (λ l r. quiet (same_Err (falls l r)))

  turned : is_down a ≡ false → is_down b ≡ true → is_down b ≡ is_down a → ⊥
  turned l r same = let both : true ≡ false = sym r ∙ (same ∙ l) in absurd cc

  pub admit_reports : {R : Type 0} (e : AdmitError)
      → ((◌≡◌ {A = Result R AdmitError} (Err e) (Err admits.NeedsRecovery)) ↔ (is_down a ≡ true))
      → ((◌≡◌ {A = Result R AdmitError} (Err e) (Err admits.Fault)) → erase.fault_count (erase_of b) ≡ min (erase.fault_count (erase_of a) + 1) 18446744073709551615)
      → (is_down a ≡ false → is_down b ≡ true → ◌≡◌ {A = Result R AdmitError} (Err e) (Err admits.Fault))
      → (IsHonest a → (h : History) → RepresentsIfHonest a h → (page : ℕ) → e ≡ admits.BadNode page → ⊥)
      → OnAdmitTrouble (λ t. Reports a t b) (of_admit e)
  admit_reports admits.NeedsRecovery down counted falls sound = down.0 refl
  admit_reports admits.NoCollector down counted falls sound = tt
  admit_reports admits.BatchTooLarge down counted falls sound = tt
  admit_reports admits.CounterFull down counted falls sound = tt
  admit_reports admits.IntakeFull down counted falls sound = tt
  admit_reports (admits.BadNode page) down counted falls sound = (stays_up (admits.BadNode page) admits.NeedsRecovery admits.Fault down falls (λ i. cc) (λ i. cc), λ h on. sound (honest_of a h on) h (λ _. on) page refl)
  admit_reports admits.Fault down counted falls sound = inl (counted refl)
  admit_reports admits.OutOfMemory down counted falls sound = stays_up admits.OutOfMemory admits.NeedsRecovery admits.Fault down falls (λ i. cc) (λ i. cc)

  pub mark_reports : {R : Type 0} (e : MarkError)
      → ((◌≡◌ {A = Result R MarkError} (Err e) (Err marks.NeedsRecovery)) ↔ (is_down a ≡ true))
      → ((◌≡◌ {A = Result R MarkError} (Err e) (Err marks.Fault)) → erase.fault_count (erase_of b) ≡ min (erase.fault_count (erase_of a) + 1) 18446744073709551615)
      → (is_down a ≡ false → is_down b ≡ true → ◌≡◌ {A = Result R MarkError} (Err e) (Err marks.Fault))
      → OnMarkTrouble (λ t. Reports a t b) (of_mark e)
  mark_reports marks.NeedsRecovery down counted falls = down.0 refl
  mark_reports marks.NoCollector down counted falls = tt
  mark_reports marks.MarkBack down counted falls = tt
  mark_reports marks.Fault down counted falls = inl (counted refl)
  mark_reports marks.OutOfMemory down counted falls = stays_up marks.OutOfMemory marks.NeedsRecovery marks.Fault down falls (λ i. cc) (λ i. cc)

  pub apply_reports : {R : Type 0} (e : ApplyError)
      → ((◌≡◌ {A = Result R ApplyError} (Err e) (Err applies.NeedsRecovery)) ↔ (is_down a ≡ true))
      → ReportsOne (erase.fault_count (erase_of a)) (erase.fault_count (erase_of b)) (once.pen_fault_count (pen_in a)) (once.pen_fault_count (pen_in b)) (◌≡◌ {A = Result R ApplyError} (Err e) (Err applies.Fault))
      → (is_down a ≡ false → is_down b ≡ true → ◌≡◌ {A = Result R ApplyError} (Err e) (Err applies.Fault))
      → (IsHonest a → (h : History) → RepresentsIfHonest a h → e ≡ applies.CounterFull → sum_by (λ p. length p.item.changes) (applied h) ≡ 18446744073709551615)
      → (e ≡ applies.PagesFull → unused_pages a < 9)
      → (IsHonest a → (pages : List (List ℕ)) → HasPages a pages → e ≡ applies.TooHigh → HasRootLevel pages (root_in a) 7)
      → (IsHonest a → e ≡ applies.OnceFull → NoneBlank b)
      → (IsHonest a → (h : History) → RepresentsIfHonest a h → (page : ℕ) → e ≡ applies.BadNode page → ⊥)
      → Reports a (of_apply e) b
  apply_reports applies.NeedsRecovery down counted falls counter few high full sound = down.0 refl
  apply_reports applies.CounterFull down counted falls counter few high full sound = (stays_up applies.CounterFull applies.NeedsRecovery applies.Fault down falls (λ i. cc) (λ i. cc), λ h on. counter (honest_of a h on) h (λ _. on) refl)
  apply_reports applies.TooHigh down counted falls counter few high full sound = (stays_up applies.TooHigh applies.NeedsRecovery applies.Fault down falls (λ i. cc) (λ i. cc), λ honest pages has. high honest pages has refl)
  apply_reports applies.PagesFull down counted falls counter few high full sound = (stays_up applies.PagesFull applies.NeedsRecovery applies.Fault down falls (λ i. cc) (λ i. cc), few refl)
  apply_reports applies.OnceFull down counted falls counter few high full sound = (stays_up applies.OnceFull applies.NeedsRecovery applies.Fault down falls (λ i. cc) (λ i. cc), λ honest. full honest refl)
  apply_reports (applies.BadNode page) down counted falls counter few high full sound = (stays_up (applies.BadNode page) applies.NeedsRecovery applies.Fault down falls (λ i. cc) (λ i. cc), λ h on. sound (honest_of a h on) h (λ _. on) page refl)
  apply_reports applies.Fault down counted falls counter few high full sound = counts_one _ _ _ _ (counted.counted refl)
  apply_reports applies.OutOfMemory down counted falls counter few high full sound = stays_up applies.OutOfMemory applies.NeedsRecovery applies.Fault down falls (λ i. cc) (λ i. cc)

  pub flush_reports : {R : Type 0} (e : FlushError)
      → ((◌≡◌ {A = Result R FlushError} (Err e) (Err flushes.NeedsRecovery)) ↔ (is_down a ≡ true))
      → ((◌≡◌ {A = Result R FlushError} (Err e) (Err flushes.Fault)) → erase.fault_count (erase_of b) ≡ min (erase.fault_count (erase_of a) + 1) 18446744073709551615)
      → Reports a (of_flush e) b
  flush_reports flushes.NeedsRecovery down counted = down.0 refl
  flush_reports flushes.Fault down counted = inl (counted refl)

  pub ask_reports : {R : Type 0} (e : AskError)
      → ((◌≡◌ {A = Result R AskError} (Err e) (Err asks.NeedsRecovery)) ↔ (is_down a ≡ true))
      → ((◌≡◌ {A = Result R AskError} (Err e) (Err asks.Fault)) → erase.fault_count (erase_of b) ≡ min (erase.fault_count (erase_of a) + 1) 18446744073709551615)
      → is_down b ≡ is_down a
      → (IsHonest a → (h : History) → RepresentsIfHonest a h → (page : ℕ) → e ≡ asks.BadNode page → ⊥)
      → ((block : ℕ) → e ≡ asks.Damaged block → ⊥)
      → OnAskTrouble (λ t. Reports a t b) (of_ask e)
  ask_reports asks.NeedsRecovery down counted same sound undamaged = down.0 refl
  ask_reports (asks.AboveWatermark mark) down counted same sound undamaged = tt
  ask_reports (asks.BadNode page) down counted same sound undamaged = (stays_up (asks.BadNode page) asks.NeedsRecovery asks.Fault down (λ l r. absurd (turned l r same)) (λ i. cc) (λ i. cc), λ h on. sound (honest_of a h on) h (λ _. on) page refl)
  ask_reports (asks.Damaged block) down counted same sound undamaged = undamaged block refl
  ask_reports asks.Fault down counted same sound undamaged = inl (counted refl)
  ask_reports asks.OutOfMemory down counted same sound undamaged = stays_up asks.OutOfMemory asks.NeedsRecovery asks.Fault down (λ l r. absurd (turned l r same)) (λ i. cc) (λ i. cc)

  pub look_fails : {R : Type 0} (disk : O) (e : AskError)
      → ((◌≡◌ {A = Result R AskError} (Err e) (Err asks.NeedsRecovery)) ↔ (is_down a ≡ true))
      → ReportsFailure a b disk (◌≡◌ {A = Result R AskError} (Err e) (Err asks.Fault))
      → is_down b ≡ is_down a
      → OnAskTrouble (λ t. LookFails a t b) (of_ask e)
  look_fails disk asks.NeedsRecovery down failed same = down.0 refl
  look_fails disk (asks.AboveWatermark mark) down failed same = tt
  look_fails disk (asks.BadNode page) down failed same = stays_up (asks.BadNode page) asks.NeedsRecovery asks.Fault down (λ l r. absurd (turned l r same)) (λ i. cc) (λ i. cc)
  look_fails disk (asks.Damaged block) down failed same = stays_up (asks.Damaged block) asks.NeedsRecovery asks.Fault down (λ l r. absurd (turned l r same)) (λ i. cc) (λ i. cc)
  look_fails disk asks.Fault down failed same = (disk, record { quiet = λ never. absurd (never tt); counted = λ _. failed.counted refl })
  look_fails disk asks.OutOfMemory down failed same = stays_up asks.OutOfMemory asks.NeedsRecovery asks.Fault down (λ l r. absurd (turned l r same)) (λ i. cc) (λ i. cc)

-- a look counts the reads that fail, and no others
pub block_misses : {R O Pen Seen : Type 0} (once : OnceGhosts O Pen Seen) (seen then : Seen) (e : BlockError)
    → ((◌≡◌ {A = Result R BlockError} (Err e) (Err blocks.Fault) → ⊥) → once.seen_fault_count then ≡ once.seen_fault_count seen)
    → (◌≡◌ {A = Result R BlockError} (Err e) (Err blocks.Fault) → once.seen_fault_count then ≡ min (once.seen_fault_count seen + 1) 18446744073709551615)
    → Misses once seen (of_block e) then
block_misses once seen then blocks.Fault quiet counted = counted refl
block_misses once seen then (blocks.Damaged block) quiet counted = quiet (λ e. cc)
block_misses once seen then blocks.OutOfMemory quiet counted = quiet (λ e. cc)
