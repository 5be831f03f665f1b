-- Which board was opened.
use Rattle.atomic_table.specs.Seated.{TableId}
use Rattle.board.specs.declared.opened.Opened.{Opened}

-- the name of its words
abbrev pub name_of : Opened → TableId
name_of o = o.table.shared.table_id
