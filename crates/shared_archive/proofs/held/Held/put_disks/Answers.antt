use Rattle.std.proofs.Common.{refl, subst}
use Rattle.shared_archive.specs.Held.{LacksPast}
use Rattle.shared_archive.proofs.held.Held.put_disks.Goals as goal

pub returns-clause-kept : goal.returns-clause-kept
returns-clause-kept g c p k =
    let s = subst (λ h. LacksPast h c.args.disks p) c.in-Shut.is k in
    let m = s.remembers in
    record {
      disks = c.args.disks;
      here = refl;
      lacks = record { remembers = record { right = m.right; number = m.number; mark = m.mark; counts = m.counts }; rest = s.rest };
    }
