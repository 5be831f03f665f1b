use Rattle.board.specs.Opened.{name_of}
use Rattle.serving_tests.proofs.held.a_question_is_answered_while_another_is_held.Given as goal

-- the board that was opened
abbrev pub ghosts-serve_store : goal.ghosts-serve_store
ghosts-serve_store g a = record { table = name_of a.opened }
