use Rattle.std.proofs.Common.{◌∙◌}
use Rattle.disk_archive.proofs.applying.begin_from.Goals as goal

pub returns-clause-shown : goal.returns-clause-shown
returns-clause-shown g c honest pages maps =
    let first = c.in_ok-begin.ensures.shown honest pages maps in
    let then' = c.begin-2.ensures.shown first.honest pages first.maps in
    record { honest = then'.honest; maps = then'.maps; noted = then'.noted ∙ first.noted; clocked = then'.clocked ∙ first.clocked; over = then'.over }
