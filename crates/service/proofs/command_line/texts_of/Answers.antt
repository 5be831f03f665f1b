use Rattle.std.proofs.Common.{ℕ, Bor, List, [], Option, map, unwrap_or, ap, ◌∙◌}
use Rattle.std.proofs.lemmas.Result.{IfOk-weaker}
use Rattle.clap.specs.Matches.{found_of}
use Rattle.clap.proofs.WalkLemmas.{raw_values-rows}
use Rattle.service.proofs.CommandLines.{unwrapped}
use Rattle.service.proofs.command_line.texts_of.Goals as goal

abbrev words : Bor (List (Bor (List ℕ))) → List (List ℕ)
words ws = map (λ w. w.now) ws.now

pub returns : goal.returns
returns c = record {
  texts = IfOk-weaker c.to_vec.result _ _
      (λ texts same. ap (map (λ w. w.now)) (same (λ x y e. e)) ∙ (ap words c.unwrap_or.ensures ∙ unwrapped words c.get_strs.result _
      ∙ ap (λ (o : Option (List (List ℕ))). unwrap_or o []) (c.get_strs.ensures ∙ raw_values-rows (found_of c.args.matches.now) c.args.name.now)))
      c.to_vec.ensures.items_if_clones_equal;
}
