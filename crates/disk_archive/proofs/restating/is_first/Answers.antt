use Rattle.std.proofs.Common.{rules, ◌≡◌, ◌↔◌, IsTrue}
use Rattle.disk_archive.proofs.Restated.{first_set}
use Rattle.disk_archive.proofs.restating.is_first.Goals as goal

pub returns-clause-first : goal.returns-clause-first
returns-clause-first g c honest pages maps =
    let same : IsTrue c.eq.result ↔ (c.in-Some.first.now ≡ c.args.page.now) = search rules in
    first_set pages c.in-Some.first.now c.args.page.now c.eq.result (c.in-Some.ensures.shown pages (c.fetch.ensures.maps honest pages maps)) same
