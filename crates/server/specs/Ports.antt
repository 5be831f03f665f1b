-- What a port takes of the lines that come over it.
use Rattle.std.specs.Prelude.{◌≡◌, ◌⊎◌, ⊤, ℕ, List, ◌++◌, codes, true, false}
use Rattle.server.specs.declared.command.Command.{Command}
use Rattle.server.specs.declared.command.Command.TheVariants.{Request, Mark, Feed, Quit, Stop}
use Rattle.server.specs.declared.port.Port.{Port}
use Rattle.server.specs.Commands.{IsCommandLine}

-- the port takes the command: a read-only one takes none that changes the archive or ends the server
abbrev pub Takes : Port → Command → Type 0
Takes port (Request request) = ⊤
Takes port (Mark collector mark) = port.read_only ≡ false
Takes port (Feed collector limit) = port.read_only ≡ false
Takes port Quit = ⊤
Takes port Stop = port.read_only ≡ false

-- the line asks this, and the port takes it
pub record AsksOn (port : Port) (line : List ℕ) (command : Command) : Type 0 where
  pub asks : IsCommandLine line command
  pub takes : Takes port command

-- the line ends in this text
abbrev pub EndsIn : List ℕ → List ℕ → Type 0
EndsIn line text = (front : List ℕ) × (line ≡ front ++ text)

-- the line ends in a version, as a request line of HTTP does (RFC 9112 section 3)
abbrev pub IsHttpLine : List ℕ → Type 0
IsHttpLine line = EndsIn line (codes " HTTP/1.1") ⊎ EndsIn line (codes " HTTP/1.0")

-- the connection ends after the line, which is one of HTTP, and the port closes HTTP
pub record ClosesAfter (port : Port) (line : List ℕ) : Type 0 where
  pub closes : port.closes_http ≡ true
  pub is_http : IsHttpLine line
