use Rattle.board.specs.Opened.{name_of}
use Rattle.rha.proofs.served.serve_at.Given as goal

-- the board that was opened
abbrev pub ghosts-serve_on : goal.ghosts-serve_on
ghosts-serve_on g a = record { table = name_of a.opened }
