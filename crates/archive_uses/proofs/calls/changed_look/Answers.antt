use Rattle.std.proofs.Common.{◌∙◌}
use Rattle.archive_uses.proofs.Looking.{keeps_by}
use Rattle.archive_uses.proofs.calls.changed_look.Goals as goal

pub returns : goal.returns
returns g c = record {
  leads =
      let l = c.changed_look.ensures.leaves in
      record {
        holds = l.holds;
        crash = l.crash;
        down = l.down;
        keeps = keeps_by c.args.archive.now c.changed_look.new.self l.settings l.honest l.disk l.blocks (λ is. let idle = l.idle is in (idle.0, idle.1, l.down ∙ is));
      };
}
