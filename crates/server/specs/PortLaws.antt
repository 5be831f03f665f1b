-- Laws of ports.
use Rattle.std.specs.Prelude.{◌≡◌, ◌⊎◌, ℕ, List, Option, true}
use Rattle.board.specs.Views.{View}
use Rattle.service.specs.Outputs.{OutputState}
use Rattle.service.specs.declared.request.Request.{Request}
use Rattle.server.specs.declared.answering.Next.{Next}
use Rattle.server.specs.declared.answering.Next.TheVariants as nexts
use Rattle.server.specs.declared.command.Command.TheVariants as commands
use Rattle.server.specs.declared.connection.Ending.{Ending}
use Rattle.server.specs.declared.connection.Ending.TheVariants as endings
use Rattle.server.specs.declared.port.Port.{Port}
use Rattle.server.specs.Answers.{AnswersLine, AnswersRequest, ReportsNone}
use Rattle.server.specs.Connections.{EndsSo}
use Rattle.server.specs.Ports.{AsksOn}

-- how a line is answered by which nothing changes: it is a request or asks nothing, or its connection ends after it
abbrev pub OnlyReads : Type 0 → Port → ℕ → List ℕ → Next → View → View → OutputState → OutputState → Type 0
OnlyReads promised port collectors line nexts.Line v w was now =
    ((request : Request) × AsksOn port line (commands.Request request) × AnswersRequest promised collectors request v w was now) ⊎ ReportsNone port line v w was now
OnlyReads promised port collectors line (nexts.Feed collector limit) v w was now = ⊥
OnlyReads promised port collectors line nexts.Quit v w was now = w ≡ v
OnlyReads promised port collectors line nexts.Stop v w was now = ⊥
OnlyReads promised port collectors line nexts.Close v w was now = w ≡ v

-- over a read-only port no line sets a mark, announces a feed or stops the server
abbrev pub ReadOnlyLines : Type 0 → Type 0
ReadOnlyLines promised = (port : Port) (collectors : ℕ) (line : List ℕ) (next : Next) (v w : View) (was now : OutputState) → port.read_only ≡ true → AnswersLine promised port collectors line next v w was now → OnlyReads promised port collectors line next v w was now

-- over a read-only port no connection ends with a feed, or with the server
abbrev pub ReadOnlyConnections : Type 0 → Type 0
ReadOnlyConnections promised = (port : Port) (collectors : ℕ) (ending : Ending) (octets : List ℕ) (v : View) (was : OutputState) (rest : List ℕ) (w : View) (now : OutputState) (left : Option (List ℕ)) → port.read_only ≡ true → EndsSo promised port collectors ending octets v was rest w now left → (ending ≡ endings.Done) ⊎ (ending ≡ endings.Failed)
