use Rattle.board.specs.Opened.{name_of}
use Rattle.serving_tests.proofs.watched.pages_go_home_while_a_server_serves.Given as goal

-- the board that was opened
abbrev pub ghosts-serve_store : goal.ghosts-serve_store
ghosts-serve_store g a = record { table = name_of a.opened }
