use Rattle.board.specs.Opened.{name_of}
use Rattle.thread_tests.proofs.reopened.is_right.Given as goal

-- the board that was opened
abbrev pub ghosts-play : goal.ghosts-play
ghosts-play g a = record { table = name_of a.opened }
