use Rattle.std.proofs.Common.{ℕ, Bor, List, [], Option, map, unwrap_or, ap, ◌∙◌, codes}
use Rattle.clap.specs.Matches.{found_of}
use Rattle.clap.proofs.WalkLemmas.{raw_values-rows}
use Rattle.service.specs.CommandLines.{spaced}
use Rattle.service.proofs.CommandLines.{unwrapped}
use Rattle.service.proofs.command_line.question_of.Goals as goal

abbrev texts : Bor (List (Bor (List ℕ))) → List (List ℕ)
texts ws = map (λ w. w.now) ws.now

pub returns : goal.returns
returns c = record {
  found = record {
    folder = c.word_of-folder.ensures.word;
    wait = c.number_of-wait.ensures.number;
    all = c.is_there-all.ensures.there;
    human = c.is_there-human.ensures.there;
    line = c.in_ok-line.ensures.spaced
        ∙ ap spaced (ap texts c.unwrap_or-words.ensures ∙ unwrapped texts c.get_strs.result _
        ∙ ap (λ (o : Option (List (List ℕ))). unwrap_or o []) (c.get_strs.ensures ∙ raw_values-rows (found_of c.args.matches.now) (codes "WORD")));
  };
}
