use Rattle.std.proofs.Common.{◌≡◌, List, map, rules, subst, sym}
use Rattle.route_meaning.specs.History.{History}
use Rattle.disk_calls.specs.Represented.{limit_for}
use Rattle.service.specs.Running.{AreFilesLoaded}
use Rattle.service.specs.declared.report.FileLoad.{FileLoad}
use Rattle.disk_commands.specs.Disks.{Leave, Represent}
use Rattle.disk_commands.proofs.Outcomes.{filled, if_so}
use Rattle.disk_commands.proofs.api.Files.{files_so}
use Rattle.disk_commands.proofs.loading.load_on.Goals as goal

pub returns-clause-loaded : goal.returns-clause-loaded
returns-clause-loaded g c =
    let left = Leave g.E.EraseDisk g.O.OnceDisk c.run_on.result.disks c.run_on.result.is_read in
    filled c.run_on.result.outcome _ (λ status (files : List (FileLoad _)) out err. (h : History) (r : Represent g.E.EraseDisk g.O.OnceDisk c.args.disks h) → AreFilesLoaded c.args.asked.now (limit_for r.site.settings) h (map (λ f. record { input = f.input; report = f.report }) c.args.files.now) (map (λ f. record { input = f.input; report = f.report }) files) status left c.args.out.now out c.args.err.now err)
    c.run_on.new.command.files.now c.run_on.new.command.out.now c.run_on.new.command.err.now (search rules) (search rules) (search rules) c.run_on.ensures.always
    (if_so c.run_on.result.outcome _ _ (λ status ran h r. let did = ran h r in files_so (λ k. k ≡ did.0) left (λ k is. subst left (sym is) did.2) _ _ h _ _ _ _ _ _ _ did.1) c.run_on.ensures.ran)
