use Rattle.disk_files.proofs.folder.finish.Goals as goal

pub returns : goal.returns
returns g c = c.sync_names.ensures.unmade c.args.part
