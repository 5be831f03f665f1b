use Rattle.shared_archive.proofs.Renewing.{rest_synced}
use Rattle.shared_archive.proofs.opening.open.Goals as goal

pub returns-in-Ok-clause-opened : goal.returns-in-Ok-clause-opened
returns-in-Ok-clause-opened g c p r = c.open_synced.ensures.opened (c.in-Ok.ensures.syncs r.erasable).settled p (rest_synced g.E.EraseDisk g.O.OnceDisk c.args.disks c.args.ring p r c.sync.new.self (c.sync.ensures.honest.0 r.erasable) (c.sync.ensures.lingers r.erasable))

pub returns-in-Ok-clause-kept : goal.returns-in-Ok-clause-kept
returns-in-Ok-clause-kept g c p r = c.open_synced.ensures.kept (c.in-Ok.ensures.syncs r.erasable).settled p (rest_synced g.E.EraseDisk g.O.OnceDisk c.args.disks c.args.ring p r c.sync.new.self (c.sync.ensures.honest.0 r.erasable) (c.sync.ensures.lingers r.erasable))

pub returns-in-Err-clause-kept : goal.returns-in-Err-clause-kept
returns-in-Err-clause-kept g c p r = rest_synced g.E.EraseDisk g.O.OnceDisk c.args.disks c.args.ring p r c.sync.new.self (c.sync.ensures.honest.0 r.erasable) (c.sync.ensures.lingers r.erasable)
