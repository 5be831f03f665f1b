-- Why lookups of all versions of a key are refused.
use Rattle.std.specs.Prelude.{◌≡◌, ⊤, Bool, true, false}
use Rattle.tsb_walk.specs.declared.error.NodeError.{NodeError}
use Rattle.tsb_walk.specs.declared.error.NodeError.TheVariants.{BadNode, Damaged, Fault, OnceFault, NeedsRecovery, OutOfMemory}

-- the reasons for which a lookup through pages and blocks fails, over a journal that must be opened again or needn't
abbrev pub VersionsRefusal : Bool → NodeError → Type 0
VersionsRefusal down (BadNode page) = ⊤
VersionsRefusal down (Damaged block) = ⊤
VersionsRefusal down Fault = down ≡ false
VersionsRefusal down OnceFault = ⊤
VersionsRefusal down NeedsRecovery = down ≡ true
VersionsRefusal down OutOfMemory = ⊤
