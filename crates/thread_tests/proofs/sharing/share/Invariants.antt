use Rattle.std.proofs.Common.{Some}
use Rattle.board.specs.Opened.{name_of}
use Rattle.shared_archive.specs.Held.{disk_in, pages_in}
use Rattle.thread_tests.proofs.sharing.share.Given as goal

-- the board that was opened
abbrev pub ghosts-play-N-Named : goal.ghosts-play-N-Named
ghosts-play-N-Named g a = record { table = name_of a.opened }

-- the disk of the archive
abbrev pub ghosts-play-N-OnDisk : goal.ghosts-play-N-OnDisk
ghosts-play-N-OnDisk g a = record { disk = Some (disk_in a.store.archive); pages = pages_in a.store.archive }
