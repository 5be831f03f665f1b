-- Laws of the lines of a connection.
use Rattle.std.specs.Prelude.{◌≡◌, ℕ, List}
use Rattle.server.specs.declared.command.Command.{Command}
use Rattle.server.specs.Commands.{IsCommandLine}

-- no line asks two things
abbrev pub OneCommand : Type 0
OneCommand = (line : List ℕ) (a b : Command) → IsCommandLine line a → IsCommandLine line b → a ≡ b
