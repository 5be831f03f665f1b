use Rattle.std.proofs.Common.{subst}
use Rattle.board.specs.Past.{GoesOnAs}
use Rattle.board.specs.Views.{View}
use Rattle.serving.proofs.serving.serve.Goals as goal

pub returns-clause-represented : goal.returns-clause-represented
returns-clause-represented g c = λ named. let e = c.hand_back.ensures.goes_on named in (e.0, e.2)

pub returns-clause-goes_on : goal.returns-clause-goes_on
returns-clause-goes_on g c = λ named short.
    let e = c.hand_back.ensures.goes_on named in
    (c.new-shared.result.1.past, e.0, c.new-shared.ensures.fits named, c.new-shared.ensures.represented named, subst (λ (v : View). GoesOnAs v.past e.0) c.split-pass.ensures.same e.1, e.2)
