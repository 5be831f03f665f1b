use Rattle.std.proofs.lemmas.Result.{on_ok_weaker}
use Rattle.page_journal.proofs.Creating.{first_octet, name_written, name_crash, name_done, one_octet}
use Rattle.page_journal.proofs.create.name.Goals as goal

pub returns-in_err-write_at-clause-crash : goal.returns-in_err-write_at-clause-crash
returns-in_err-write_at-clause-crash g c h homes note pages lacks =
    name_written homes note c.args.identity.now pages _ lacks _ _ (one_octet homes note c.args.identity.now pages _ lacks _ c.octets.ensures.value) (c.write_at.ensures.within h)

pub returns-clause-crash : goal.returns-clause-crash
returns-clause-crash g c h homes note pages lacks =
    name_crash homes note c.args.identity.now pages _ lacks _ _ (one_octet homes note c.args.identity.now pages _ lacks _ c.octets.ensures.value) (c.write_at.ensures.within h) _
    (c.sync.ensures.lingers (c.write_at.ensures.honest.0 h))

pub returns-clause-stands : goal.returns-clause-stands
returns-clause-stands g c h homes note pages lacks =
    let s0 = g.D.EraseDisk.model c.args.disk.now in
    let s1 = g.D.EraseDisk.model c.write_at.new.self in
    let value = c.octets.ensures.value in
    on_ok_weaker c.sync.result
    (λ synced. name_done homes note c.args.identity.now pages s0 lacks s1 _ (one_octet homes note c.args.identity.now pages s0 lacks _ value) (c.write_at.ensures.within h) (g.D.EraseDisk.model c.sync.new.self)
    (first_octet homes note c.args.identity.now pages s0 lacks s1.octet _ _ value (c.in_ok-write_at.ensures.octets h)) synced)
    (c.sync.ensures.syncs (c.write_at.ensures.honest.0 h))
