use Rattle.std.proofs.Common.{ℕ, List, Option, Result, Ok, Err, OnErr, subst, ◌∙◌, codes}
use Rattle.clap.specs.Matches.{found_of}
use Rattle.clap.proofs.WalkLemmas.{first_value-rows}
use Rattle.service.specs.CommandLines.{IsMarkIf, IsNoMark}
use Rattle.service.proofs.command_line.loading_of.Goals as goal

always : {A E : Type 0} (r : Result A E) (P : Type 0) → P → OnErr r P
always (Ok x) P p = tt
always (Err e) P p = p

pub returns-in_err-mark-clause-none : goal.returns-in_err-mark-clause-none
returns-in_err-mark-clause-none c =
    always c.from_residual.result _ (subst (λ (t : Option (List ℕ)). IsNoMark t) (c.get_str.ensures ∙ first_value-rows (found_of c.args.matches.now) (codes "mark")) c.in_err-mark.ensures.none)

pub returns-clause-found : goal.returns-clause-found
returns-clause-found c = record {
  folder = c.word_of.ensures.word;
  collector = c.number_of.ensures.number;
  batch = c.number_of-2.ensures.number;
  wait = c.number_of-3.ensures.number;
  mark = subst (λ (t : Option (List ℕ)). IsMarkIf t c.in_ok-mark.mark) (c.get_str.ensures ∙ first_value-rows (found_of c.args.matches.now) (codes "mark")) c.in_ok-mark.ensures.found;
  resume = c.is_there.ensures.there;
  lose_entries = c.is_there-2.ensures.there;
  strict = c.is_there-3.ensures.there;
  files = c.requires.files;
}
