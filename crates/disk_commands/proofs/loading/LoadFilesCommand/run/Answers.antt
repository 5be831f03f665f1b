use Rattle.disk_commands.proofs.api.Loads.{files_at}
use Rattle.disk_commands.proofs.loading.LoadFilesCommand.run.Goals as goal

pub returns-clause-done : goal.returns-clause-done
returns-clause-done g c = λ h represents.
    let found = files_at (g.A.RouteSource.represents c.load_files-status.new.archive) c.args.self.now.asked.now (g.A.RouteArchive.most c.args.archive) h _ _ c.load_files-status.result _ _ _ _ (c.load_files-status.ensures.ended h represents) in
    (found.0, found.1, found.2)
