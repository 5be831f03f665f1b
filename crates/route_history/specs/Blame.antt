-- Which refusals of a look name what is damaged.
use Rattle.std.specs.Prelude.{⊤}
use Rattle.tsb_walk.specs.declared.error.NodeError.{NodeError}
use Rattle.tsb_walk.specs.declared.error.NodeError.TheVariants.{BadNode, Damaged, Fault, OnceFault, NeedsRecovery, OutOfMemory}

-- the refusal calls no page and no block damaged
abbrev pub BlamesNone : NodeError → Type 0
BlamesNone (BadNode page) = ⊥
BlamesNone (Damaged block) = ⊥
BlamesNone Fault = ⊤
BlamesNone OnceFault = ⊤
BlamesNone NeedsRecovery = ⊤
BlamesNone OutOfMemory = ⊤
