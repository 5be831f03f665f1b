use Rattle.std.proofs.Common.{◌≡◌, ◌∙◌, ◌+◌, suc, [], ◌∷◌, ◌++◌, List, replicate, ap, arith}
use Rattle.sequencer.proofs.api.Setting.{replicate-push}
use Rattle.route_meaning.specs.History.{Intake}
use Rattle.interleaving_core.proofs.machine.Machine.created.Goals as goal

abbrev nothing : Intake
nothing = record { admitted = []; mark = 0; offered = 0 }

pub loop-preserved : goal.loop-preserved
loop-preserved c =
    c.in_ok-push.ensures.items
    ∙ (ap (λ (l : List Intake). l ++ c.new.result ∷ []) c.loop.invariant
    ∙ (ap (λ (x : Intake). replicate c.loop.counter nothing ++ x ∷ []) c.new.ensures
    ∙ (replicate-push c.loop.counter nothing ∙ ap (λ n. replicate n nothing) (let e : suc c.loop.counter ≡ c.loop.counter + 1 = omega arith in e))))
