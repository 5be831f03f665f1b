use Rattle.std.proofs.Common.{rules}
use Rattle.archive_uses.specs.Openings.{Opens}
use Rattle.archive_uses.proofs.Looking.{opens_err, opens_ok}
use Rattle.archive_uses.proofs.calls.open.Goals as goal

pub returns-clause-opens : goal.returns-clause-opens
returns-clause-opens g c =
    let does : Opens {erase = g.E.EraseDisk} {once = g.O.OnceDisk} c.args.erase c.args.once.value c.args.pen c.open.result = search rules in
    opens_ok c.args.erase c.args.once.value c.args.pen c.open.result does

pub returns-clause-shuts : goal.returns-clause-shuts
returns-clause-shuts g c =
    let does : Opens {erase = g.E.EraseDisk} {once = g.O.OnceDisk} c.args.erase c.args.once.value c.args.pen c.open.result = search rules in
    opens_err c.args.erase c.args.once.value c.args.pen c.open.result does
