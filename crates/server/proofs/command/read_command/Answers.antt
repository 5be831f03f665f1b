use Rattle.std.proofs.Common.{◌∙◌, List, ℕ, Err, Bor, map, refl, sym, ap}
use Rattle.server.proofs.Words.{asks_nothing}
use Rattle.server.proofs.command.read_command.Goals as goal

pub returns-clause-none : goal.returns-clause-none
returns-clause-none c = λ same.
    asks_nothing c.args.line.now c.in-Ok.text.now _ c.in-Ok.ensures.cases.0
    (ap (λ (words : List (Bor (List ℕ))). map (λ x. x.now) words) c.deref.ensures.value ∙ c.in-Ok-words_of.ensures.words)
    (c.in-Err-BadRequest.ensures.none (ap Err c.in-Err-BadRequest.field-0-is)) c.in-Err.ensures.none
