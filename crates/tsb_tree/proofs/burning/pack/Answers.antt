use Rattle.std.proofs.Common.{arith, ap, ◌∙◌, Err}
use Rattle.std.proofs.lemmas.Result.{err_from_is_err_and}
use Rattle.tsb_tree.proofs.Shaping.{whole_past}
use Rattle.tsb_tree.proofs.Rooms.{room_of}
use Rattle.tsb_tree.proofs.Shelving.{err_shelf, ok_shelf}
use Rattle.tsb_tree.proofs.burning.pack.Goals as goal

pub migrate_column-requires : goal.migrate_column-requires
migrate_column-requires g c = record { past = whole_past c.args.whole.now c.new.result c.deref.result.now (omega (arith, c.new.ensures.number)) c.deref.ensures.value c.requires.whole c.requires.many c.requires.end }

pub returns-in_err-part-clause-shelf : goal.returns-in_err-part-clause-shelf
returns-in_err-part-clause-shelf g c =
    let p = err_from_is_err_and c.from_residual.result c.from_residual.ensures.1 in
    err_shelf g.O.OnceDisk c.args.shelf.now c.migrate_column.new.shelf c.in_err-part.field-0.0 c.from_residual.result (p.1 ∙ ap Err p.2) c.in_err-part.ensures.shelf

pub returns-clause-shelf : goal.returns-clause-shelf
returns-clause-shelf g c = ok_shelf g.O.OnceDisk c.args.shelf.now c.migrate_column.new.shelf c.in_ok-part.part.block c.in_ok-part.part.block c.in_ok-part.ensures.shelf

pub returns-clause-room : goal.returns-clause-room
returns-clause-room g c honest blocks represents_node =
    room_of g.O.OnceDisk c.args.shelf.now c.migrate_column.new.shelf c.in_ok-part.part.block c.args.whole.now c.deref.result.now c.keep_one.new.whole.parts.items c.in_ok-part.part c.deref.ensures.value c.keep_one.ensures.part
    (c.in_ok-part.ensures.settled honest) (c.in_ok-part.ensures.past honest) blocks represents_node
