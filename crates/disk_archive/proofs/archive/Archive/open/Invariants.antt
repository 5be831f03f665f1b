use Rattle.disk_models.specs.Erase.{MayLeave}
use Rattle.disk_archive.proofs.archive.Archive.open.Given as goal

-- what crashes left of the erasable disk before
abbrev pub ghosts-reopen : goal.ghosts-reopen
ghosts-reopen g a = record { clock = (g.E.EraseDisk.model a.erase).clock; left = MayLeave (g.E.EraseDisk.model a.erase) }
