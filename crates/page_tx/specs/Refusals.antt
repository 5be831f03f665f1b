-- Why the calls of a transaction are refused.
use Rattle.std.specs.Prelude.{◌≡◌, ◌<◌, ◌≤◌, ℕ, Bool, true, false}
use Rattle.buffer_pool.specs.declared.error.FetchError.{FetchError}
use Rattle.buffer_pool.specs.declared.error.FetchError.TheVariants as fetches
use Rattle.page_tx.specs.declared.error.PageError.{PageError}
use Rattle.page_tx.specs.declared.error.PageError.TheVariants.{Fault, NeedsRecovery, TooManyImages, PagesFull, OutOfMemory}

-- a refusal of the pool, as the transaction reports it
abbrev pub of_fetch : FetchError → PageError
of_fetch fetches.Fault = Fault
of_fetch fetches.NeedsRecovery = NeedsRecovery
of_fetch fetches.OutOfMemory = OutOfMemory

-- the reasons for which a page isn't fetched, over a journal that must be opened again or needn't
abbrev pub FetchRefusal : Bool → PageError → Type 0
FetchRefusal down NeedsRecovery = down ≡ true
FetchRefusal down Fault = down ≡ false
FetchRefusal down OutOfMemory = down ≡ false
FetchRefusal down TooManyImages = ⊥
FetchRefusal down PagesFull = ⊥

-- the reasons for which no image is laid, if images of `count` pages would then be held
abbrev pub SetRefusal : ℕ → PageError → Type 0
SetRefusal count TooManyImages = 31 < count
SetRefusal count OutOfMemory = count ≤ 31
SetRefusal count PagesFull = ⊥
SetRefusal count Fault = ⊥
SetRefusal count NeedsRecovery = ⊥

-- the reasons for which several images aren't laid, with a first unused page that must be one of the `homes` home pages or the one after the last
abbrev pub LayRefusal : ℕ → ℕ → ℕ → PageError → Type 0
LayRefusal homes unused count PagesFull = homes < unused
LayRefusal homes unused count TooManyImages = (unused ≤ homes) × (31 < count)
LayRefusal homes unused count OutOfMemory = (unused ≤ homes) × (count ≤ 31)
LayRefusal homes unused count Fault = ⊥
LayRefusal homes unused count NeedsRecovery = ⊥
