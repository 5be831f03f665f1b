use Rattle.disk_archive.proofs.Guarding.{guarded_still}
use Rattle.disk_archive.proofs.guarded.GuardedPages.fetch.Goals as goal

pub returns-in_err-fetch-clause-same : goal.returns-in_err-fetch-clause-same
returns-in_err-fetch-clause-same g c start shown s =
    guarded_still g.E.EraseDisk g.B.Before.clock g.B.Before.left c.args.self.now.looks _ start shown s (c.fetch.ensures.serves.honest.0 s.looked.honest) (c.fetch.ensures.maps s.looked.honest start.pages s.looked.maps) c.fetch.ensures.same.note c.fetch.ensures.same.homes (c.fetch.ensures.stays s.looked.honest)

pub returns-clause-same : goal.returns-clause-same
returns-clause-same g c start shown s =
    guarded_still g.E.EraseDisk g.B.Before.clock g.B.Before.left c.args.self.now.looks _ start shown s (c.fetch.ensures.serves.honest.0 s.looked.honest) (c.fetch.ensures.maps s.looked.honest start.pages s.looked.maps) c.fetch.ensures.same.note c.fetch.ensures.same.homes (c.fetch.ensures.stays s.looked.honest)
