use Rattle.board.specs.Opened.{name_of}
use Rattle.web_tests.proofs.conversations.played.Given as goal

-- the board that was opened
abbrev pub ghosts-play_all : goal.ghosts-play_all
ghosts-play_all g a = record { table = name_of a.opened }
