-- What a step of applying returns, over an archive that holds a history.
use Rattle.std.proofs.Common.{◌≡◌, ◌⊎◌, ◌↔◌, inl, inr, ⊎_elim, Bool, true, false, refl, sym, ◌∙◌, subst, Result, Ok, Err, true≢false, ℕ}
use Rattle.std.specs.Prelude.{OnOk, OnErr, IfOk, IfErr}
use Rattle.std.specs.List.{AllByRecursion}
use Rattle.std.proofs.lemmas.Bool.{cases_Bool}
use Rattle.disk_models.specs.declared.erase.EraseDisk.{Ghosts as EraseGhosts}
use Rattle.disk_models.specs.declared.once.OnceDisk.{Ghosts as OnceGhosts}
use Rattle.route_meaning.specs.Holds.{time_of}
use Rattle.route_meaning.specs.History.{History, IsHistory, Begins, IsBelowMarks}
use Rattle.route_meaning.proofs.api.Beginning.{Begins-refl, Begins-trans}
use Rattle.interleaving_core.specs.Steps.{NothingToApply}
use Rattle.interleaving_core.proofs.api.GoingOn.{begins_applied}
use Rattle.interleaving_core.proofs.api.Right.{goes_more, right_applied}
use Rattle.disk_archive.specs.declared.applying.Step.{Step}
use Rattle.disk_archive.specs.declared.applying.Step.TheVariants.{Applied, Idle}
use Rattle.disk_archive.specs.declared.apply_error.ApplyError.{ApplyError}
use Rattle.disk_archive.specs.declared.apply_error.ApplyError.TheVariants as applies
use Rattle.disk_archive.specs.declared.archive.Archive.{Archive}
use Rattle.once_store.specs.Shelves.{AllTried, next_of}
use Rattle.disk_archive.specs.Archives.{Represents, GoesOn, RepresentsIfHonest, IsHonest, is_down, once_of, once_state}
use Rattle.disk_archive.specs.Blanks.{NoneBlank}
use Rattle.disk_archive.specs.Moves.{Moves}
use Rattle.page_journal.specs.declared.error.UseError.{UseError}
use Rattle.page_journal.specs.declared.error.UseError.TheVariants as uses
use Rattle.page_journal.specs.Refusals.{UseRefusal}
use Rattle.disk_archive.specs.inner.Applications.{ApplyRefusal, apply_of_use}
use Rattle.disk_archive.specs.inner.Outcomes.{StepIs}

represents_here : {E O Pen Seen : Type 0} {erase : EraseGhosts E} {once : OnceGhosts O Pen Seen} (a : Archive E O Pen Seen erase once) (h : History) → is_down a ≡ false → GoesOn a h → Represents a h
represents_here a h usable goes = ⊎_elim (λ k. k) (λ w. absurd (true≢false (sym w.unusable ∙ usable))) goes

pub applied_of : {E O Pen Seen : Type 0} {erase : EraseGhosts E} {once : OnceGhosts O Pen Seen} (a z : Archive E O Pen Seen erase once) (r : Result Step ApplyError) → OnOk r (is_down a ≡ false) → IfOk r (λ step. (h : History) → Represents a h → StepIs z step h)
    → IfOk r (λ step. step ≡ Applied → IsHonest a → (h : History) → RepresentsIfHonest a h → (g : History) × Moves h g × RepresentsIfHonest z g)
applied_of a z (Ok Applied) usable ok = λ e honest h held. (let s = ok h (represents_here a h usable (held honest)) in (s.0, s.1, λ is. inl s.2))
applied_of a z (Ok Idle) usable ok = λ e honest h held. absurd cc
applied_of a z (Err e) usable ok = tt

not_both : (h g : History) → Moves h g → NothingToApply h → ⊥
not_both h g m none = (subst (AllByRecursion (λ p. IsBelowMarks h (time_of p) → ⊥)) m.next.here none).0 m.next.below

-- what it moved to goes on from it
pub begins_moved : (h g : History) → IsHistory h → Moves h g → Begins h g
begins_moved h g right m = Begins-trans h m.first g (begins_applied h m.first m.next) (goes_more m.more m.first g (right_applied h m.first right m.next) m.others).begins

pub idle_of : {E O Pen Seen : Type 0} {erase : EraseGhosts E} {once : OnceGhosts O Pen Seen} (a z : Archive E O Pen Seen erase once) (r : Result Step ApplyError) → OnOk r (is_down a ≡ false) → IfOk r (λ step. (h : History) → Represents a h → StepIs z step h)
    → IfOk r (λ step. IsHonest a → (h : History) → RepresentsIfHonest a h → (step ≡ Idle) ↔ NothingToApply h)
idle_of a z (Ok Applied) usable ok = λ honest h held. (let s = ok h (represents_here a h usable (held honest)) in ((λ e. absurd cc), (λ none. absurd (not_both h s.0 s.1 none))))
idle_of a z (Ok Idle) usable ok = λ honest h held. (let s = ok h (represents_here a h usable (held honest)) in ((λ e. s.0), (λ none. refl)))
idle_of a z (Err e) usable ok = tt

pub idle_same : {E O Pen Seen : Type 0} {erase : EraseGhosts E} {once : OnceGhosts O Pen Seen} (a z : Archive E O Pen Seen erase once) (r : Result Step ApplyError) → (IsHonest z → IsHonest a) → OnOk r (is_down a ≡ false) → IfOk r (λ step. (h : History) → Represents a h → StepIs z step h)
    → r ≡ Ok Idle → (h : History) → RepresentsIfHonest a h → RepresentsIfHonest z h
idle_same a z (Ok Applied) back usable ok e h held = absurd cc
idle_same a z (Ok Idle) back usable ok e h held = λ honest. inl (ok h (represents_here a h usable (held (back honest)))).1
idle_same a z (Err e') back usable ok e h held = absurd cc

-- it goes on with the history, or with one that this begins
pub goes_of : {E O Pen Seen : Type 0} {erase : EraseGhosts E} {once : OnceGhosts O Pen Seen} (a z : Archive E O Pen Seen erase once) (r : Result Step ApplyError) → IfOk r (λ step. (h : History) → Represents a h → StepIs z step h) → OnErr r ((h : History) → Represents a h → GoesOn z h)
    → (g : History) → Represents a g → (k : History) × Begins g k × GoesOn z k
goes_of a z (Ok Applied) ok err g k = let s = ok g k in (s.0, begins_moved g s.0 k.head_represents.right s.1, inl s.2)
goes_of a z (Ok Idle) ok err g k = (g, Begins-refl g, inl (ok g k).1)
goes_of a z (Err e) ok err g k = (g, Begins-refl g, err g k)

pub same_or_moved : (h g : History) → IsHistory h → (g ≡ h) ⊎ Moves h g → Begins h g
same_or_moved h g right either = ⊎_elim (λ same. subst (Begins h) (sym same) (Begins-refl h)) (λ m. begins_moved h g right m) either

-- a page is never reported as damaged
pub never_bad : {E O Pen Seen : Type 0} {erase : EraseGhosts E} {once : OnceGhosts O Pen Seen} (a : Archive E O Pen Seen erase once) (r : Result Step ApplyError) → (is_down a ≡ true → r ≡ Err applies.NeedsRecovery) → ((h : History) → Represents a h → (page : ℕ) → r ≡ Err (applies.BadNode page) → ⊥)
    → IsHonest a → (h : History) → RepresentsIfHonest a h → (page : ℕ) → r ≡ Err (applies.BadNode page) → ⊥
never_bad a r reported sound honest h held page bad = elim (cases_Bool (is_down a)) [
  | inl down ↦ (let e : Err applies.NeedsRecovery ≡ Err (applies.BadNode page) = sym (reported down) ∙ bad in cc)
  | inr up ↦ sound h (represents_here a h up (held honest)) page bad
]

pub needs_recovery_of : {X : Type 0} (r : Result X ApplyError) (down : Bool) → IfErr r (ApplyRefusal down) → r ≡ Err applies.NeedsRecovery → down ≡ true
needs_recovery_of (Ok x) down refused e = absurd cc
needs_recovery_of (Err e') down refused e = let same : e' ≡ applies.NeedsRecovery = cc in subst (ApplyRefusal down) same refused

-- ---- a commit that was refused

pub commit_not_bad : (e : UseError) (page : ℕ) → apply_of_use e ≡ applies.BadNode page → ⊥
commit_not_bad uses.Fault page e = cc
commit_not_bad uses.NeedsRecovery page e = cc

pub commit_reported : (down : Bool) (e : UseError) → UseRefusal down e → ApplyRefusal down (apply_of_use e)
commit_reported down uses.Fault refused = tt
commit_reported down uses.NeedsRecovery refused = refused

-- two facts that go along with two others
pub both_same : (A B P Q : Type 0) → A ↔ B → P ↔ Q → (A × P) ↔ (B × Q)
both_same A B P Q f g = (λ x. (f.0 x.0, g.0 x.1), λ y. (f.1 y.0, g.1 y.1))

-- no block is blank on the disk that is the same
pub none_blank : {E O Pen Seen : Type 0} {erase : EraseGhosts E} {once : OnceGhosts O Pen Seen} (a z : Archive E O Pen Seen erase once) → once_of z ≡ once_of a → AllTried (once_state z) (next_of z.shelf) (once.block_count (once_of a)) → NoneBlank z
none_blank {once = once} a z disk all = subst (λ d. AllTried (once_state z) (next_of z.shelf) (once.block_count d)) (sym disk) all
