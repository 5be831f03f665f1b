-- Of which pages images are held.
use Rattle.std.specs.Prelude.{◌++◌, ℕ, List}
use Rattle.page_journal.specs.Bookkeeping.{without}

-- the numbers, and then those of the others that aren't among them
abbrev pub joined : List ℕ → List ℕ → List ℕ
joined ns others = ns ++ without ns others
