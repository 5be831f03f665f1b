use Rattle.board.specs.Opened.{name_of}
use Rattle.serving_tests.proofs.sockets.clients_are_answered_as_they_should_be.Given as goal

-- the board that was opened
abbrev pub ghosts-serve_after : goal.ghosts-serve_after
ghosts-serve_after g a = record { table = name_of a.opened }
