use Rattle.std.proofs.Common.{◌≡◌, List, ap, map, subst, sym}
use Rattle.disk_commands.proofs.api.Loads.{files_at}
use Rattle.progress.specs.Watched.{watched}
use Rattle.service.specs.Running.{AreFilesLoaded}
use Rattle.service.specs.declared.report.FileLoad.{FileLoad}
use Rattle.rha.proofs.Loads.{most_so}
use Rattle.rha.proofs.loading.LoadShownCommand.run.Goals as goal

pub returns-clause-done : goal.returns-clause-done
returns-clause-done g c = λ h represents.
    let same = c.new-archive.ensures.same in
    let ended = c.load_files-code.ensures.ended h (subst (λ a. g.A.RouteSource.represents a h) (sym same) represents) in
    let found = files_at (λ k. g.A.RouteSource.represents (watched c.load_files-code.new.archive) k) c.args.self.now.asked.now _ h _ _ c.load_files-code.result _ _ _ _ ended in
    let loaded = λ (fs : List (FileLoad _)). AreFilesLoaded c.args.self.now.asked.now (g.A.RouteArchive.most c.args.archive) h (map (λ f. record { input = f.input; report = f.report }) c.args.self.now.files.now) (map (λ f. record { input = f.input; report = f.report }) fs) c.load_files-code.result (λ left. left ≡ found.0) c.args.self.now.out c.load_files-code.new.out c.args.self.now.reported c.load_files-code.new.err in (
      found.0,
      subst (λ a. g.A.RouteSource.represents a found.0) (sym c.into_archive.ensures.same) found.1,
      subst loaded (sym c.advise_held.ensures.same) (most_so (ap g.A.RouteArchive.most same) found.2),
    )
