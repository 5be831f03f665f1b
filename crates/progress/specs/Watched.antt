-- Archives and sources whose calls are counted.
use Rattle.progress.specs.declared.archive.WatchedArchive.{WatchedArchive}
use Rattle.progress.specs.declared.source.WatchedSource.{WatchedSource}

-- the archive that is watched
abbrev pub watched : {A T : Type 0} → WatchedArchive A T → A
watched it = it.archive

-- the source that is watched
abbrev pub source_of : {A T : Type 0} → WatchedSource A T → A
source_of it = it.source
