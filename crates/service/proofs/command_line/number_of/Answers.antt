use Rattle.std.proofs.Common.{ℕ, List, Option, subst, ◌∙◌}
use Rattle.clap.specs.Matches.{found_of}
use Rattle.clap.proofs.WalkLemmas.{first_value-rows}
use Rattle.service.specs.CommandLines.{IsNumber}
use Rattle.service.proofs.command_line.number_of.Goals as goal

pub returns : goal.returns
returns c = record {
  number = subst (λ (t : Option (List ℕ)). IsNumber c.args.least c.args.most t c.number_in.result) (c.get_str.ensures ∙ first_value-rows (found_of c.args.matches.now) c.args.name.now) c.number_in.ensures.number;
}
