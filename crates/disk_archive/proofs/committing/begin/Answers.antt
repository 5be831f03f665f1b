use Rattle.std.proofs.Common.{◌≡◌, ◌∙◌, sym, ap, subst, length}
use Rattle.page_journal.specs.Journal.{disk_of, note_of}
use Rattle.buffer_pool.specs.Pool.{journal_of}
use Rattle.page_tx.specs.Start.{Start}
use Rattle.page_tx.specs.Tx.{Shows, pool_of}
use Rattle.disk_archive.proofs.committing.begin.Goals as goal

pub returns-in-Ok-clause-shown : goal.returns-in-Ok-clause-shown
returns-in-Ok-clause-shown g c honest pages maps =
    let d = g.E.EraseDisk in
    let start : Start = record { note = note_of (journal_of (pool_of c.args.tx.now)); pages = pages; clock = (d.model (disk_of (journal_of (pool_of c.args.tx.now)))).clock } in
    let now = c.in-Ok.ensures.maps start pages (c.begin.ensures.shown honest pages maps) in
    let same : journal_of (pool_of c.commit.new.self) ≡ journal_of (pool_of c.args.tx.now) = c.commit.ensures.empty (ap length c.begin.ensures.named) ∙ ap journal_of c.begin.ensures.pool in
    subst (λ j. Shows d c.begin-in-Ok.new.self (record { note = note_of j; pages = pages; clock = (d.model (disk_of j)).clock }) pages) same
    (c.begin-in-Ok.ensures.shown (subst (λ j. d.honest (disk_of j)) (sym same) honest) pages now)
