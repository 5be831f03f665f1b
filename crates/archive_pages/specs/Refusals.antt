-- Why a call doesn't change the pages of an archive.
use Rattle.std.specs.Prelude.{◌<◌, ⊤, ℕ}
use Rattle.page_tx.specs.declared.error.PageError.{PageError}
use Rattle.page_tx.specs.declared.error.PageError.TheVariants.{Fault, NeedsRecovery, TooManyImages, PagesFull, OutOfMemory}

-- the reasons for which the head isn't laid over its page, if images of `count` pages would then be held
abbrev pub HeadRefusal : ℕ → PageError → Type 0
HeadRefusal count TooManyImages = 31 < count
HeadRefusal count OutOfMemory = ⊤
HeadRefusal count PagesFull = ⊥
HeadRefusal count Fault = ⊥
HeadRefusal count NeedsRecovery = ⊥
