use Rattle.std.proofs.Common.{arith, inl, inr, length, refl, sym, ap, Err}
use Rattle.std.proofs.lemmas.Bool.{cases_lt}
use Rattle.tsb_tree.specs.declared.burning.Burnt.{Burnt}
use Rattle.tsb_tree.specs.Shapes.{leaf_in_page, with_leaf}
use Rattle.tsb_tree.proofs.Shaping.{whole_split}
use Rattle.tsb_tree.proofs.Shelving.{err_shelf, ok_shelf, leaves_then, honest_on, none_blank_on, none_put, spends_leaves, spends_on}
use Rattle.tsb_tree.proofs.Rooms.{took}
use Rattle.tsb_tree.proofs.burning.split_by_time.Goals as goal

pub returns-in-Ok-clause-shelf : goal.returns-in-Ok-clause-shelf
returns-in-Ok-clause-shelf g c =
    leaves_then g.O.OnceDisk 1 1 c.args.shelf.now c.make_room.new.shelf c.settle_part.new.shelf _ _ _ _ c.in_ok-column.ensures.shelf (λ e. cc) (ok_shelf g.O.OnceDisk c.make_room.new.shelf c.settle_part.new.shelf c.in-Ok.leaf (record { column = c.in_ok-column.column; leaf = c.in-Ok.leaf }) c.in-Ok.ensures.shelf)

pub returns-in-Err-clause-shelf : goal.returns-in-Err-clause-shelf
returns-in-Err-clause-shelf g c =
    leaves_then g.O.OnceDisk 1 1 c.args.shelf.now c.make_room.new.shelf c.settle_part.new.shelf _ _ _ _ c.in_ok-column.ensures.shelf (λ e. cc) (err_shelf g.O.OnceDisk c.make_room.new.shelf c.settle_part.new.shelf c.in-Err.refusal (Err c.from.result) (ap Err c.from.ensures) c.in-Err.ensures.shelf)

pub returns-in-Ok-clause-takes : goal.returns-in-Ok-clause-takes
returns-in-Ok-clause-takes g c honest leaf v page is stamp from =
    let w = c.args.whole.now in
    let same = c.in_ok-column.ensures.same in
    let honest' = honest_on g.O.OnceDisk 1 c.args.shelf.now c.make_room.new.shelf _ _ c.in_ok-column.ensures.shelf honest in
    let forward = c.requires.forward in
    took g.O.OnceDisk c.args.shelf.now c.make_room.new.shelf c.settle_part.new.shelf c.in_ok-column.column c.in-Ok.leaf w _ leaf c.make_room.new.whole.parts.items v c.args.at c.make_room.new.whole.start
    same.start is stamp from (omega (arith, c.requires.end)) forward same.low same.high refl (c.in_ok-column.ensures.room honest)
    (c.in-Ok.ensures.settled honest' (leaf_in_page (with_leaf w leaf)) page forward)
    (c.in-Ok.ensures.past honest' (leaf_in_page (with_leaf w leaf)) page (sym same.start) (omega (arith, forward, same.start)))

pub returns-in-Ok-clause-whole : goal.returns-in-Ok-clause-whole
returns-in-Ok-clause-whole g c is_in =
    let same = c.in_ok-column.ensures.same in
    whole_split c.make_room.new.whole _ _ c.in_ok-column.ensures.whole c.in_ok-column.ensures.few refl (omega (arith, c.requires.forward, same.start)) refl refl c.in-Ok.ensures.pushed (λ v h. rw same.leaf (is_in v h))

pub returns-in_err-column-clause-one_block : goal.returns-in_err-column-clause-one_block
returns-in_err-column-clause-one_block g c = inl (spends_leaves g.O.OnceDisk c.args.shelf.now c.make_room.new.shelf _ _ c.in_err-column.ensures.shelf)

pub returns-in-Ok-clause-one_block : goal.returns-in-Ok-clause-one_block
returns-in-Ok-clause-one_block g c = elim (cases_lt (length c.args.whole.now.parts.items) 648) [
  | inl room ↦ inl (spends_on g.O.OnceDisk c.args.shelf.now c.make_room.new.shelf c.settle_part.new.shelf _ _ (c.in_ok-column.ensures.with_room room)
      (ok_shelf {A = Burnt} g.O.OnceDisk c.make_room.new.shelf c.settle_part.new.shelf c.in-Ok.leaf (record { column = c.in_ok-column.column; leaf = c.in-Ok.leaf }) c.in-Ok.ensures.shelf))
  | inr full ↦ inr full
]

pub returns-in-Err-clause-one_block : goal.returns-in-Err-clause-one_block
returns-in-Err-clause-one_block g c = elim (cases_lt (length c.args.whole.now.parts.items) 648) [
  | inl room ↦ inl (spends_on g.O.OnceDisk c.args.shelf.now c.make_room.new.shelf c.settle_part.new.shelf _ _ (c.in_ok-column.ensures.with_room room)
      (err_shelf {A = Burnt} g.O.OnceDisk c.make_room.new.shelf c.settle_part.new.shelf c.in-Err.refusal (Err c.from.result) (ap Err c.from.ensures) c.in-Err.ensures.shelf))
  | inr full ↦ inr full
]

pub returns-in-Ok-clause-none_left : goal.returns-in-Ok-clause-none_left
returns-in-Ok-clause-none_left g c honest none =
    let room = c.in_ok-column.ensures.shelf in
    absurd (none_put g.O.OnceDisk c.make_room.new.shelf c.settle_part.new.shelf c.in-Ok.leaf c.in-Ok.ensures.shelf (honest_on g.O.OnceDisk 1 c.args.shelf.now c.make_room.new.shelf _ _ room honest)
    (none_blank_on g.O.OnceDisk 1 c.args.shelf.now c.make_room.new.shelf _ _ room honest none))
