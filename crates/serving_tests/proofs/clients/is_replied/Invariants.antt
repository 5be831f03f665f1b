use Rattle.board.specs.Opened.{name_of}
use Rattle.serving_tests.proofs.clients.is_replied.Given as goal

-- the board that was opened
abbrev pub ghosts-is_so : goal.ghosts-is_so
ghosts-is_so g a = record { table = name_of a.opened }
