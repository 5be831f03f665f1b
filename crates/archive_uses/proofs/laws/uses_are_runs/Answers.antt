use Rattle.std.proofs.Common.{ℕ, subst}
use Rattle.page_journal.specs.Identity.{Names}
use Rattle.archive_uses.specs.Uses.Stage.{on}
use Rattle.archive_uses.specs.Promises.{IsPromised}
use Rattle.archive_uses.specs.Runs.{AreRun}
use Rattle.archive_uses.proofs.Promising.{Any, any_on, represented_on, ends_weaker, reached, uses_run}
use Rattle.archive_uses.proofs.Promised.{run_promised}
use Rattle.archive_uses.proofs.Lasting.{stay}
use Rattle.archive_uses.proofs.laws.uses_are_runs.Goals as goal

pub returns-clause-runs : goal.returns-clause-runs
returns-clause-runs g c made us last life = uses_run g.E.EraseDisk g.O.OnceDisk g.met.E.EraseDisk.sound made us last life

pub returns-clause-promised : goal.returns-clause-promised
returns-clause-promised g c made us last life =
    ends_weaker made (AreRun made.collectors us) (λ down. IsPromised us) last.stage (λ down h run. run_promised made.collectors us down h run) (uses_run g.E.EraseDisk g.O.OnceDisk g.met.E.EraseDisk.sound made us last life)

pub returns-clause-begins : goal.returns-clause-begins
returns-clause-begins g c made before us between hand last life up later others =
    represented_on g.E.EraseDisk g.O.OnceDisk g.met.E.EraseDisk.sound made before us between hand last up later others
    (reached g.E.EraseDisk g.O.OnceDisk g.met.E.EraseDisk.sound made before (record { stage = on between; hand = hand }) life)

pub returns-clause-settled : goal.returns-clause-settled
returns-clause-settled g c made before us between last life later others b block is =
    stay g.E.EraseDisk g.O.OnceDisk g.met.E.EraseDisk.sound made Any any_on before us between last later others
    (reached g.E.EraseDisk g.O.OnceDisk g.met.E.EraseDisk.sound made before between life) b block is

pub returns-clause-none : goal.returns-clause-none
returns-clause-none g c k left e o pen a none begins opens =
    let named = opens.named begins.2 in
    none named.homes named.note (subst (λ (f : ℕ → ℕ). Names named.homes named.note f) begins.0.erase.reads named.names)
