use Rattle.std.proofs.Common.{Bor, ℕ, List, [], Option, unwrap_or, ap, ◌∙◌}
use Rattle.clap.specs.Matches.{found_of}
use Rattle.clap.proofs.WalkLemmas.{first_value-rows}
use Rattle.service.proofs.CommandLines.{unwrapped}
use Rattle.service.proofs.command_line.word_of.Goals as goal

pub returns : goal.returns
returns c = record {
  word = ap (λ (t : Bor (List ℕ)). t.now) c.unwrap_or.ensures ∙ unwrapped (λ (t : Bor (List ℕ)). t.now) c.get_str.result _
      ∙ ap (λ (o : Option (List ℕ)). unwrap_or o []) (c.get_str.ensures ∙ first_value-rows (found_of c.args.matches.now) c.args.name.now);
}
