-- Over a read-only port nothing changes.
use Rattle.std.proofs.Common.{◌≡◌, ◌⊎◌, ℕ, List, Option, Bool, true, false, inl, inr, refl, sym, ◌∙◌, subst}
use Rattle.board.specs.Views.{View}
use Rattle.service.specs.Outputs.{OutputState}
use Rattle.server.specs.declared.answering.Next.{Next}
use Rattle.server.specs.declared.answering.Next.TheVariants as nexts
use Rattle.server.specs.declared.connection.Ending.{Ending}
use Rattle.server.specs.declared.connection.Ending.TheVariants as endings
use Rattle.server.specs.declared.port.Port.{Port}
use Rattle.server.specs.Answers.{AnswersRead, AnswersLine}
use Rattle.server.specs.PortLaws.{OnlyReads, ReadOnlyLines, ReadOnlyConnections}

-- a port that takes what a read-only one doesn't isn't read-only
not_both : (port : Port) → port.read_only ≡ true → port.read_only ≡ false → ⊥
not_both port only taken = absurd cc

read_only_read : (promised : Type 0) (port : Port) (n : ℕ) (line : List ℕ) (next : Next) (v w : View) (was now : OutputState) → port.read_only ≡ true → AnswersRead promised port n line next v w was now → OnlyReads promised port n line next v w was now
read_only_read promised port n line nexts.Line v w was now only (inl asked) = inl asked
read_only_read promised port n line nexts.Line v w was now only (inr (inl marked)) = absurd (not_both port only marked.2.takes)
read_only_read promised port n line nexts.Line v w was now only (inr (inr none)) = inr none
read_only_read promised port n line (nexts.Feed c l) v w was now only fed = not_both port only fed.0.takes
read_only_read promised port n line nexts.Quit v w was now only ended = ended.1
read_only_read promised port n line nexts.Stop v w was now only stopped = not_both port only stopped.0.takes
read_only_read promised port n line nexts.Close v w was now only none = absurd none

pub read_only_lines : (promised : Type 0) → ReadOnlyLines promised
read_only_lines promised port n line next v w was now only (inl closed) = subst (λ (x : Next). OnlyReads promised port n line x v w was now) (sym closed.0) closed.1.same
read_only_lines promised port n line next v w was now only (inr read) = read_only_read promised port n line next v w was now only read.1

pub read_only_connections : (promised : Type 0) → ReadOnlyConnections promised
read_only_connections promised port n endings.Done octets v was rest w now left only ended = inl refl
read_only_connections promised port n (endings.Feed c l) octets v was rest w now left only ended = absurd (read_only_lines promised port n ended.line (nexts.Feed c l) ended.w w ended.now ended.reported only ended.answers)
read_only_connections promised port n endings.Stop octets v was rest w now left only ended = absurd (read_only_lines promised port n ended.line nexts.Stop ended.w w ended.now ended.reported only ended.answers)
read_only_connections promised port n endings.Failed octets v was rest w now left only ended = inr refl
