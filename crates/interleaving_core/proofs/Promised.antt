-- What is promised of every run holds.
use Rattle.std.proofs.Common.{ℕ, List}
use Rattle.std.specs.List.{AllByRecursion}
use Rattle.interleaving_core.specs.declared.query.Query.{Query}
use Rattle.interleaving_core.specs.declared.query.Answer.{Answer}
use Rattle.interleaving_core.specs.declared.reply.Reply.{Reply}
use Rattle.interleaving_core.specs.declared.step.Step.{Step}
use Rattle.interleaving_core.specs.World.{World, created}
use Rattle.interleaving_core.specs.Does.{Runs, IsStep}
use Rattle.interleaving_core.specs.Headline.{WasDone, Headline}
use Rattle.interleaving_core.proofs.Running.{IsSettled, all_answers, all_begin}
use Rattle.interleaving_core.proofs.Keeping.{each_kept, all_given}
use Rattle.interleaving_core.proofs.Beginnings.{each_begun}
use Rattle.interleaving_core.proofs.Sound.{run_fine, created_sound}

all_settled : (collectors : ℕ) (steps : List Step) (replies : List Reply) (last : World) → AllByRecursion IsStep steps → Runs (created collectors) steps replies last
    → (query : Query) (answer : Answer) → WasDone steps replies query answer → IsSettled last.history query answer
all_settled collectors steps replies last valid run query answer d =
    all_answers (created collectors) last steps replies d.began d.place d.number query d.reach answer valid (created_sound collectors) run d.begin d.begun d.turn d.done

pub promised : (collectors : ℕ) (steps : List Step) (replies : List Reply) (last : World) → AllByRecursion IsStep steps → Runs (created collectors) steps replies last → Headline collectors steps replies last
promised collectors steps replies last valid run = record {
  right = (run_fine (created collectors) last steps replies valid (created_sound collectors) run).sound.history;
  begun = λ k i reach answer turn done. each_begun collectors last steps replies k i reach answer run turn done;
  answers = λ query answer d. (all_settled collectors steps replies last valid run query answer d).0;
  settled = λ query answer d. (all_settled collectors steps replies last valid run query answer d).1;
  begins = λ k w before after. all_begin collectors k w last steps replies valid before after;
  receipts = λ k step reply at reported. each_kept collectors last steps replies k step reply valid run at reported;
  only = λ c intake at. all_given collectors last steps replies c intake valid run at;
}
