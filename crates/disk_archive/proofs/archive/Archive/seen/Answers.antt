use Rattle.std.proofs.Common.{refl, sym, subst}
use Rattle.once_store.specs.Shelves.{pen_of}
use Rattle.disk_archive.proofs.Reporting.{goes_on_same}
use Rattle.disk_archive.proofs.archive.Archive.seen.Goals as goal

pub returns-clause-holds : goal.returns-clause-holds
returns-clause-holds g c h holds honest =
    let a = c.args.self.now in
    let before = c.seen.ensures.honest.1 (subst (λ d. g.O.OnceDisk.honest d (pen_of c.seen.new.self)) c.seen.ensures.disk honest.1) in
    goes_on_same a _ h refl c.seen.ensures.disk (c.seen.ensures.same before) refl refl refl honest (holds (honest.0, before))

pub returns-clause-honest : goal.returns-clause-honest
returns-clause-honest g c = (
  λ honest. (honest.0, subst (λ d. g.O.OnceDisk.honest d (pen_of c.seen.new.self)) (sym c.seen.ensures.disk) (c.seen.ensures.honest.0 honest.1)),
  λ honest. (honest.0, c.seen.ensures.honest.1 (subst (λ d. g.O.OnceDisk.honest d (pen_of c.seen.new.self)) c.seen.ensures.disk honest.1)),
)

pub returns-clause-blocks : goal.returns-clause-blocks
returns-clause-blocks g c honest = c.seen.ensures.same honest.1
