use Rattle.archive_uses.proofs.Looking.{looks_by}
use Rattle.archive_uses.proofs.calls.seen.Goals as goal

pub returns : goal.returns
returns g c = record {
  leads = looks_by g.met.E.EraseDisk.sound c.args.archive.now c.seen.new.self c.seen.ensures.holds c.seen.ensures.pages c.seen.ensures.down c.seen.ensures.settings c.seen.ensures.honest c.seen.ensures.disk c.seen.ensures.blocks;
}
