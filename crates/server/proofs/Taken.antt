-- Commands that a port doesn't take.
use Rattle.std.proofs.Common.{◌≡◌, ◌↔◌, ◌∙◌, ℕ, List, Bool, true, false, IsTrue, sym, subst}
use Rattle.server.specs.declared.command.Command.{Command}
use Rattle.server.specs.declared.port.Port.{Port}
use Rattle.server.specs.Commands.{IsCommandLine}
use Rattle.server.specs.Ports.{Takes, AsksOn}
use Rattle.server.proofs.OneCommand.{one_command}

-- a line that asks what the port doesn't take asks nothing there
pub not_taken : (port : Port) (line : List ℕ) (found : Command) (taken : Bool) → IsCommandLine line found → (IsTrue taken ↔ Takes port found) → taken ≡ false → (command : Command) → AsksOn port line command → ⊥
not_taken port line found taken is both isnt command asked =
    let same : command ≡ found = one_command line command found asked.asks is in
    let yes : IsTrue taken = both.1 (subst (λ (x : Command). Takes port x) same asked.takes) in
    absurd cc
