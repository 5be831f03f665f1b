-- How a count of a tree is refused. Only contracts of private functions cite this file.
use Rattle.std.specs.Prelude.{◌≡◌, ⊤, Bool, true}
use Rattle.tsb_walk.specs.declared.error.NodeError.{NodeError}
use Rattle.tsb_walk.specs.declared.error.NodeError.TheVariants as nodes
use Rattle.disk_archive.specs.declared.check_error.CheckError.{CheckError}
use Rattle.disk_archive.specs.declared.check_error.CheckError.TheVariants as checks

-- a refusal of a look, as it is reported for a check
abbrev pub check_of_node : NodeError → CheckError
check_of_node (nodes.BadNode page) = checks.BadNode page
check_of_node (nodes.Damaged block) = checks.Damaged block
check_of_node nodes.Fault = checks.Fault
check_of_node nodes.OnceFault = checks.Fault
check_of_node nodes.NeedsRecovery = checks.NeedsRecovery
check_of_node nodes.OutOfMemory = checks.OutOfMemory

-- that the archive must be opened again is reported only if it must
abbrev pub CountRefusal : Bool → CheckError → Type 0
CountRefusal down checks.NeedsRecovery = down ≡ true
CountRefusal down (checks.BadNode page) = ⊤
CountRefusal down (checks.Damaged block) = ⊤
CountRefusal down checks.Fault = ⊤
CountRefusal down checks.OutOfMemory = ⊤

-- no page and no block is reported as damaged
abbrev pub FindsNone : CheckError → Type 0
FindsNone checks.NeedsRecovery = ⊤
FindsNone (checks.BadNode page) = ⊥
FindsNone (checks.Damaged block) = ⊥
FindsNone checks.Fault = ⊤
FindsNone checks.OutOfMemory = ⊤
