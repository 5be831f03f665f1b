use Rattle.archive_uses.proofs.Creating.{both_ok, left_by}
use Rattle.archive_uses.proofs.calls.create.Goals as goal

pub returns-clause-starts : goal.returns-clause-starts
returns-clause-starts g c honest pen = both_ok _ _ c.create.result (c.create.ensures.created honest pen) c.create.ensures.settings

pub returns-clause-inside : goal.returns-clause-inside
returns-clause-inside g c honest pen left pair = left_by g.E.EraseDisk g.O.OnceDisk c.args.settings c.args.erase c.args.once.value c.args.pen left c.requires (c.create.ensures.inside honest pen left pair)

pub returns-clause-after : goal.returns-clause-after
returns-clause-after g c honest pen left now = left_by g.E.EraseDisk g.O.OnceDisk c.args.settings c.args.erase c.args.once.value c.args.pen left c.requires (c.create.ensures.after honest pen left now)
