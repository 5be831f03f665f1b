-- What a call left usable, and what must be opened again.
use Rattle.std.proofs.Common.{◌≡◌, ◌≢◌, ◌<◌, ⊎_elim, ℕ, Bool, true, false, refl, sym, ◌∙◌, ap, Result, Ok, Err, true≢false}
use Rattle.std.specs.Prelude.{IsErrAnd}
use Rattle.page_journal.specs.Refusals.{PostsAt}
use Rattle.page_journal.specs.declared.error.PostError.{PostError}
use Rattle.page_journal.specs.declared.error.PostError.TheVariants as posts
use Rattle.page_journal.specs.declared.error.UseError.{UseError}
use Rattle.page_journal.specs.declared.error.UseError.TheVariants as uses

-- a commit that was done was without an image and left all as it was, or posted its images
pub usable_after : (before now : Bool) (images closed : ℕ) → PostsAt before images closed → (images ≡ 0 → now ≡ before) → (0 < images → now ≡ false) → now ≡ false
usable_after before now images closed accepted empty posted = ⊎_elim (λ none. empty none.1 ∙ none.0) (λ may. posted may.some) accepted

-- one that was refused fell only by a failure of the device
pub fell_by : (before now : Bool) (e : PostError) (r : UseError) → before ≡ false → now ≡ true → (e ≢ posts.Fault → now ≡ before)
    → (r ≡ uses.NeedsRecovery → e ≡ posts.NeedsRecovery) → r ≡ uses.Fault
fell_by before now e uses.Fault up down same recovery = refl
fell_by before now e uses.NeedsRecovery up down same recovery = absurd (true≢false (sym down ∙ (same (λ f. let is = recovery refl in cc) ∙ up)))

-- what a call returns whose commit failed
pub reported_fault : {X E : Type 0} (r : Result X E) (of : UseError → E) (e : UseError) → IsErrAnd r (λ y. y ≡ of e) → e ≡ uses.Fault → r ≡ Err (of uses.Fault)
reported_fault (Ok x) of e is fault = absurd is
reported_fault (Err y) of e is fault = ap (λ z. Err z) (is ∙ ap of fault)
