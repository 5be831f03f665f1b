use Rattle.std.proofs.lemmas.Result.{err_from_is_err_and}
use Rattle.disk_files.proofs.folder.open.Goals as goal

pub returns-in_err-sync_names : goal.returns-in_err-sync_names
returns-in_err-sync_names g c =
    let p = err_from_is_err_and c.from_residual-in_err-sync_names.result c.from_residual-in_err-sync_names.ensures.1 in
    rw (p.1, p.2) (c.in_err-sync_names.ensures.unopened c.args.part)
