use Rattle.std.proofs.Common.{arith}
use Rattle.std.proofs.lemmas.Result.{on_ok_weaker}
use Rattle.disk_models.proofs.api.Moments.{leaves_then}
use Rattle.page_journal.specs.Identity.{HasNoJournal}
use Rattle.page_journal.specs.Layout.{pages_of}
use Rattle.page_journal.proofs.Creating.{after_first, range_crash, range_unnamed, pages_crash, pages_unnamed, sync_crash, lacks_name}
use Rattle.page_journal.proofs.create.lay.Goals as goal

pub returns-in_err-close_all-clause-crash : goal.returns-in_err-close_all-clause-crash
returns-in_err-close_all-clause-crash g c h unnamed = range_crash _ _ unnamed 16384 4325376 (omega arith) (c.close_all.ensures.within h)

pub returns-in_err-write_pages-clause-crash : goal.returns-in_err-write_pages-clause-crash
returns-in_err-write_pages-clause-crash g c h unnamed =
    let h1 = c.close_all.ensures.serves.honest.0 h in
    let s1 = g.D.EraseDisk.model c.close_all.new.disk in
    let gates = c.close_all.ensures.within h in
    leaves_then _ s1 _ HasNoJournal (range_crash _ s1 unnamed 16384 4325376 (omega arith) gates)
    (pages_crash s1 _ (range_unnamed _ s1 unnamed 16384 4325376 (omega arith) gates) (pages_of c.args.first.now) (c.write_pages.ensures.writes h1))

pub returns-in_err-write_at-clause-crash : goal.returns-in_err-write_at-clause-crash
returns-in_err-write_at-clause-crash g c h unnamed =
    let h1 = c.close_all.ensures.serves.honest.0 h in
    let h2 = c.write_pages.ensures.serves.honest.0 h1 in
    let s0 = g.D.EraseDisk.model c.args.disk.now in
    let s1 = g.D.EraseDisk.model c.close_all.new.disk in
    let s2 = g.D.EraseDisk.model c.write_pages.new.disk in
    let gates = c.close_all.ensures.within h in
    let pages = c.write_pages.ensures.writes h1 in
    let unnamed1 = range_unnamed s0 s1 unnamed 16384 4325376 (omega arith) gates in
    leaves_then s0 s1 _ HasNoJournal (range_crash s0 s1 unnamed 16384 4325376 (omega arith) gates)
    (leaves_then s1 s2 _ HasNoJournal (pages_crash s1 s2 unnamed1 (pages_of c.args.first.now) pages)
    (range_crash s2 _ (pages_unnamed s1 s2 unnamed1 (pages_of c.args.first.now) pages) 1 _ (omega arith) (c.write_at.ensures.within h2)))

pub returns-clause-crash : goal.returns-clause-crash
returns-clause-crash g c h unnamed =
    let h1 = c.close_all.ensures.serves.honest.0 h in
    let h2 = c.write_pages.ensures.serves.honest.0 h1 in
    let h3 = c.write_at.ensures.honest.0 h2 in
    let s0 = g.D.EraseDisk.model c.args.disk.now in
    let s1 = g.D.EraseDisk.model c.close_all.new.disk in
    let s2 = g.D.EraseDisk.model c.write_pages.new.disk in
    let s3 = g.D.EraseDisk.model c.write_at.new.self in
    let gates = c.close_all.ensures.within h in
    let pages = c.write_pages.ensures.writes h1 in
    let rest = c.write_at.ensures.within h2 in
    let unnamed1 = range_unnamed s0 s1 unnamed 16384 4325376 (omega arith) gates in
    let unnamed2 = pages_unnamed s1 s2 unnamed1 (pages_of c.args.first.now) pages in
    leaves_then s0 s1 _ HasNoJournal (range_crash s0 s1 unnamed 16384 4325376 (omega arith) gates)
    (leaves_then s1 s2 _ HasNoJournal (pages_crash s1 s2 unnamed1 (pages_of c.args.first.now) pages)
    (leaves_then s2 s3 _ HasNoJournal (range_crash s2 s3 unnamed2 1 _ (omega arith) rest)
    (sync_crash s3 _ (range_unnamed s2 s3 unnamed2 1 _ (omega arith) rest) (c.sync.ensures.lingers h3))))

pub returns-clause-laid : goal.returns-clause-laid
returns-clause-laid g c h note is =
    let h1 = c.close_all.ensures.serves.honest.0 h in
    let h2 = c.write_pages.ensures.serves.honest.0 h1 in
    let h3 = c.write_at.ensures.honest.0 h2 in
    on_ok_weaker c.sync.result
    (λ synced. lacks_name c.args.homes _ note c.args.identity.now _ c.args.first.now (g.D.EraseDisk.model c.args.disk.now) (g.D.EraseDisk.model c.close_all.new.disk) (g.D.EraseDisk.model c.write_pages.new.disk)
    (g.D.EraseDisk.model c.write_at.new.self) (g.D.EraseDisk.model c.sync.new.self) is
    (c.close_all.ensures.within h) (c.in_ok-close_all.ensures.closed h)
    (c.write_pages.ensures.writes h1) (c.in_ok-write_pages.ensures.laid h1)
    (omega (arith, c.octets.ensures.size)) (c.write_at.ensures.within h2) (c.in_ok-write_at.ensures.octets h2) (after_first c.octets.result.now c.args.identity.now c.octets.ensures.value) synced)
    (c.sync.ensures.syncs h3)
