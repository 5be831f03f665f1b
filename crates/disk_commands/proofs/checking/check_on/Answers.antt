use Rattle.std.proofs.Common.{rules, subst, sym}
use Rattle.route_meaning.specs.History.{Begins, History}
use Rattle.route_meaning.proofs.api.Beginning.{Begins-refl}
use Rattle.disk_commands.specs.Disks.{Leave, Represent}
use Rattle.disk_commands.proofs.Outcomes.{if_so, written}
use Rattle.service.specs.Running.{IsArchiveChecked}
use Rattle.disk_commands.proofs.checking.check_on.Goals as goal

pub returns-clause-checked : goal.returns-clause-checked
returns-clause-checked g c =
    written c.run_on.result.outcome (λ status out err. (h : History) → Represent g.E.EraseDisk g.O.OnceDisk c.args.disks h → IsArchiveChecked h status c.args.out.now out c.args.err.now err × Leave g.E.EraseDisk g.O.OnceDisk c.run_on.result.disks c.run_on.result.is_read h)
    c.run_on.new.command.out.now c.run_on.new.command.err.now (search rules) (search rules) c.run_on.ensures.always
    (if_so c.run_on.result.outcome _ _ (λ status ran h r. let did = ran h r in (did.1.0, subst (Leave g.E.EraseDisk g.O.OnceDisk c.run_on.result.disks c.run_on.result.is_read) did.1.1 did.2)) c.run_on.ensures.ran)

pub returns-clause-kept : goal.returns-clause-kept
returns-clause-kept g c = c.run_on.ensures.goes_on (λ most h k status did. subst (Begins h) (sym did.1) (Begins-refl h))
