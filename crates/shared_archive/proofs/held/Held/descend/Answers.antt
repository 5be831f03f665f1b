use Rattle.std.proofs.Common.{IfOk, subst, sym}
use Rattle.route_meaning.specs.History.{applied}
use Rattle.interleaving_core.specs.Headline.{IsAnswered}
use Rattle.query_threads.specs.Turns.{TurnGives}
use Rattle.disk_archive.specs.Cursors.{IsGathered, asks}
use Rattle.shared_archive.specs.Represented.{LocatedInPast}
use Rattle.shared_archive.specs.Held.{HeldRepresents, disk_in}
use Rattle.shared_archive.proofs.held.Held.descend.Goals as goal

pub returns-in-Open-clause-represents : goal.returns-in-Open-clause-represents
returns-in-Open-clause-represents g c p k = c.descend.ensures.represents p (subst (λ h. HeldRepresents h p) c.in-Open.is k)

pub returns-in-Open-clause-gives : goal.returns-in-Open-clause-gives
returns-in-Open-clause-gives g c p k gathered =
    subst (λ h. IfOk c.descend.result (λ turn. TurnGives (λ errand. LocatedInPast (g.O.OnceDisk.block_count (disk_in h)) errand c.descend.new.cursor p) (IsGathered c.descend.new.cursor p.history) (λ answer. IsAnswered (applied p.history) (asks c.args.cursor.now) answer) turn))
    (sym c.in-Open.is) (c.descend.ensures.gives p (subst (λ h. HeldRepresents h p) c.in-Open.is k) gathered)
