use Rattle.std.proofs.Common.{length, arith}
use Rattle.page_journal.specs.Layout.{pages_of}
use Rattle.intake.proofs.Filling.{covered, piece_put}
use Rattle.intake.proofs.Images.{length_pages_of}
use Rattle.intake.proofs.drafting.put_piece.Goals as goal

pub put_into-requires-clause-inside : goal.put_into-requires-clause-inside
put_into-requires-clause-inside c =
    let items = c.args.images.now.items in
    let there = covered c.args.ring c.args.begun (length (pages_of items)) (length c.args.octets.now) c.wrap-at.result c.place_of-k.result c.requires.covers c.requires.some c.wrap-at.ensures c.place_of-k.ensures in
    omega (arith, there, length_pages_of items)

pub returns-clause-numbers : goal.returns-clause-numbers
returns-clause-numbers c =
    let items = c.args.images.now.items in
    let there = covered c.args.ring c.args.begun (length (pages_of items)) (length c.args.octets.now) c.wrap-at.result c.place_of-k.result c.requires.covers c.requires.some c.wrap-at.ensures c.place_of-k.ensures in
    (piece_put c.args.ring c.args.begun c.place_of-k.result c.wrap-at.result c.min-len.result c.args.octets.now items c.put_into.new.images.items c.requires.start c.requires.begun c.requires.numbers (omega (arith, there, length_pages_of items))
    c.wrap-at.ensures c.place_of-k.ensures (omega (arith, c.min-len.ensures)) (omega (arith, c.min-len.ensures)) c.requires.room c.put_into.ensures.whole c.put_into.ensures.put).0

pub returns-clause-written : goal.returns-clause-written
returns-clause-written c =
    let items = c.args.images.now.items in
    let there = covered c.args.ring c.args.begun (length (pages_of items)) (length c.args.octets.now) c.wrap-at.result c.place_of-k.result c.requires.covers c.requires.some c.wrap-at.ensures c.place_of-k.ensures in
    (piece_put c.args.ring c.args.begun c.place_of-k.result c.wrap-at.result c.min-len.result c.args.octets.now items c.put_into.new.images.items c.requires.start c.requires.begun c.requires.numbers (omega (arith, there, length_pages_of items))
    c.wrap-at.ensures c.place_of-k.ensures (omega (arith, c.min-len.ensures)) (omega (arith, c.min-len.ensures)) c.requires.room c.put_into.ensures.whole c.put_into.ensures.put).1
