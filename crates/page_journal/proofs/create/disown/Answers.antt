use Rattle.std.proofs.Common.{◌∙◌, ap, sym}
use Rattle.std.proofs.lemmas.Result.{on_ok_weaker}
use Rattle.page_journal.specs.Identity.{HasNoJournal}
use Rattle.page_journal.proofs.Staging.{one}
use Rattle.page_journal.proofs.Creating.{first_sync, read_crash, spoilt_crash, disowned_crash, disowned_done}
use Rattle.page_journal.proofs.create.disown.Goals as goal

pub returns-in_err-sync-clause-crash : goal.returns-in_err-sync-clause-crash
returns-in_err-sync-clause-crash g c h =
    first_sync (g.D.EraseDisk.model c.args.disk.now) _ HasNoJournal (g.met.D.EraseDisk.sound c.args.disk.now h) (c.sync.ensures.lingers h)

pub returns-in_err-read_octet-clause-crash : goal.returns-in_err-read_octet-clause-crash
returns-in_err-read_octet-clause-crash g c h =
    read_crash (g.D.EraseDisk.model c.args.disk.now) _ _ (g.met.D.EraseDisk.sound c.args.disk.now h) (c.sync.ensures.lingers h) (c.in_ok-sync.ensures.syncs h)
    (c.read_octet.ensures.stays (c.sync.ensures.honest.0 h)) HasNoJournal

pub returns-in_err-write_at-clause-crash : goal.returns-in_err-write_at-clause-crash
returns-in_err-write_at-clause-crash g c h =
    let h1 = c.sync.ensures.honest.0 h in
    let h2 = c.read_octet.ensures.serves.honest.0 h1 in
    let stays = c.read_octet.ensures.stays h1 in
    spoilt_crash (g.D.EraseDisk.model c.args.disk.now) _ (g.D.EraseDisk.model c.read_octet.new.disk) (g.met.D.EraseDisk.sound c.args.disk.now h) (c.sync.ensures.lingers h) (c.in_ok-sync.ensures.syncs h)
    stays _ (ap (λ f. f 0) stays.same ∙ sym (c.in_ok-read_octet.ensures.octet h1) ∙ c.if-branch.false) (c.write_at.ensures.within h2)

pub returns-clause-crash : goal.returns-clause-crash
returns-clause-crash g c h =
    let h1 = c.sync.ensures.honest.0 h in
    let h2 = c.read_octet.ensures.serves.honest.0 h1 in
    let h3 = c.write_at.ensures.honest.0 h2 in
    let stays = c.read_octet.ensures.stays h1 in
    disowned_crash (g.D.EraseDisk.model c.args.disk.now) _ (g.D.EraseDisk.model c.read_octet.new.disk) (g.met.D.EraseDisk.sound c.args.disk.now h) (c.sync.ensures.lingers h) (c.in_ok-sync.ensures.syncs h)
    stays _ (ap (λ f. f 0) stays.same ∙ sym (c.in_ok-read_octet.ensures.octet h1) ∙ c.if-branch.false) (c.write_at.ensures.within h2) _ (c.sync-2.ensures.lingers h3)

pub returns-clause-disowned : goal.returns-clause-disowned
returns-clause-disowned g c h =
    let h1 = c.sync.ensures.honest.0 h in
    let h2 = c.read_octet.ensures.serves.honest.0 h1 in
    let h3 = c.write_at.ensures.honest.0 h2 in
    let stays = c.read_octet.ensures.stays h1 in
    on_ok_weaker c.sync-2.result
    (λ last. disowned_done (g.D.EraseDisk.model c.args.disk.now) _ (g.D.EraseDisk.model c.read_octet.new.disk) (g.met.D.EraseDisk.sound c.args.disk.now h) (c.sync.ensures.lingers h) (c.in_ok-sync.ensures.syncs h)
    stays _ (ap (λ f. f 0) stays.same ∙ sym (c.in_ok-read_octet.ensures.octet h1) ∙ c.if-branch.false) (c.write_at.ensures.within h2) (g.D.EraseDisk.model c.sync-2.new.self)
    (one _ 0 0 (c.in_ok-write_at.ensures.octets h2)) last)
    (c.sync-2.ensures.syncs h3)
