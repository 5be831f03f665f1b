-- A connection: its lines are answered in their order, and then it ends.
use Rattle.std.specs.Prelude.{◌≡◌, ◌⊎◌, ◌<◌, ℕ, List, [], Option, length, true}
use Rattle.std.specs.Io.KnownBytes.{IsAtEnd}
use Rattle.board.specs.Views.{View}
use Rattle.line_reader.specs.Lines.{HasNoEnd, BeginsWithLine}
use Rattle.service.specs.Outputs.{OutputState, Reports}
use Rattle.service.specs.Refusals.{refusal_line}
use Rattle.service.specs.declared.refusal.Refusal.TheVariants as refusals
use Rattle.server.specs.declared.answering.Next.{Next}
use Rattle.server.specs.declared.answering.Next.TheVariants as nexts
use Rattle.server.specs.declared.connection.Ending.{Ending}
use Rattle.server.specs.declared.connection.Ending.TheVariants as endings
use Rattle.server.specs.declared.port.Port.{Port}
use Rattle.server.specs.Answers.{AnswersLine}

-- Of what a connection sent, the first octets are lines that were answered one after another, each written out before the next; these
-- follow them. So what is seen and what is written went on.
pub data AnswersAll (promised : Type 0) (port : Port) (collectors : ℕ) (octets : List ℕ) (v : View) (was : OutputState) : List ℕ → View → OutputState → Type 0 where
  Begun : AnswersAll promised port collectors octets v was octets v was
  Answered : (mid line rest : List ℕ) (w x : View) (now reported out : OutputState) → AnswersAll promised port collectors octets v was mid w now → BeginsWithLine mid line rest → AnswersLine promised port collectors line nexts.Line w x now reported → Reports reported out []
      → AnswersAll promised port collectors octets v was rest x out

-- the lines before the last were answered, and so was that one, after which the connection does this
pub record AnswersUntil (promised : Type 0) (port : Port) (collectors : ℕ) (octets : List ℕ) (v : View) (was : OutputState) (next : Next) (rest : List ℕ) (x : View) (out : OutputState) : Type 0 where
  pub mid : List ℕ
  pub line : List ℕ
  pub w : View
  pub now : OutputState
  pub reported : OutputState
  pub before : AnswersAll promised port collectors octets v was mid w now
  pub begins : BeginsWithLine mid line rest
  pub answers : AnswersLine promised port collectors line next w x now reported
  pub flushed : Reports reported out []

-- all lines were answered; what follows has no end, and the connection sent no more
pub record AnswersAllSent (promised : Type 0) (port : Port) (collectors : ℕ) (octets : List ℕ) (v : View) (was : OutputState) (rest : List ℕ) (w : View) (now : OutputState) (left : Option (List ℕ)) : Type 0 where
  pub before : AnswersAll promised port collectors octets v was rest w now
  pub none : HasNoEnd rest
  pub ended : IsAtEnd left

-- all lines were answered; what follows is too long for a line, and that is written
pub record RefusesLong (promised : Type 0) (port : Port) (collectors : ℕ) (octets : List ℕ) (v : View) (was : OutputState) (rest : List ℕ) (w : View) (out : OutputState) : Type 0 where
  pub now : OutputState
  pub before : AnswersAll promised port collectors octets v was rest w now
  pub none : HasNoEnd rest
  pub long : length rest ≡ 4096
  pub reported : Reports now out (refusal_line refusals.BadRequest)

-- a read failed after lines that were answered, or a write after the last of them
abbrev pub Fails : Type 0 → Port → ℕ → List ℕ → View → OutputState → List ℕ → View → OutputState → Type 0
Fails promised port collectors octets v was rest w now = AnswersAll promised port collectors octets v was rest w now ⊎ ((next : Next) × AnswersUntil promised port collectors octets v was next rest w now × (now.failed ≡ true))

-- how a connection ended that sent these octets, of which the last ones stay
abbrev pub EndsSo : Type 0 → Port → ℕ → Ending → List ℕ → View → OutputState → List ℕ → View → OutputState → Option (List ℕ) → Type 0
EndsSo promised port collectors endings.Done octets v was rest w now left = AnswersUntil promised port collectors octets v was nexts.Quit rest w now ⊎ (AnswersUntil promised port collectors octets v was nexts.Close rest w now ⊎ (AnswersAllSent promised port collectors octets v was rest w now left ⊎ RefusesLong promised port collectors octets v was rest w now))
EndsSo promised port collectors (endings.Feed collector limit) octets v was rest w now left = AnswersUntil promised port collectors octets v was (nexts.Feed collector limit) rest w now
EndsSo promised port collectors endings.Stop octets v was rest w now left = AnswersUntil promised port collectors octets v was nexts.Stop rest w now
EndsSo promised port collectors endings.Failed octets v was rest w now left = Fails promised port collectors octets v was rest w now
