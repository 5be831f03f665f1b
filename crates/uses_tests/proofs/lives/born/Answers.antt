use Rattle.std.proofs.Common.{[], ◌∷◌, refl, sym, subst}
use Rattle.archive_uses.specs.Use.Use.{found, lost, opened}
use Rattle.uses_tests.specs.Turns.{AreFirst}
use Rattle.uses_tests.specs.declared.acts.Birth.{Birth}
use Rattle.uses_tests.proofs.Crashing.{some_then}
use Rattle.uses_tests.proofs.lives.born.Goals as goal

pub returns-in-Created : goal.returns-in-Created
returns-in-Created c = record {
  born = some_then c.made.result _ _
      (λ archive life. record { first = []; are = subst (λ (b : Birth). AreFirst b []) (sym c.in-Created.is) refl; lives = life })
      c.made.ensures.lives;
}

pub returns-in-CutOff : goal.returns-in-CutOff
returns-in-CutOff c = record {
  born = some_then c.cut_create.result _ _
      (λ archive life. record { first = lost ∷ found ∷ opened ∷ []; are = subst (λ (b : Birth). AreFirst b (lost ∷ found ∷ opened ∷ [])) (sym c.in-CutOff.is) refl; lives = life })
      c.cut_create.ensures.lives;
}
